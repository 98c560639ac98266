-- `lay` meets its contract: where the part does not fit nothing is done, else the copied part is put back into the whole.
use Prim.Native.Nat.{ℕ, ◌+◌}
use mathlib.Core.List.{List, ◌++◌}
use mathlib.Core.Path.{◌≡◌, refl, sym, ap, ap₂, ◌∙◌}
use native.Mathlib.Omega.{arith}
use lib.ListN.{length, take, drop}
use lib.Seq.{drop-drop}
use borrow.Author.Tests.{le-leb, lt-leb}
use Rattle.places.specs.Desk.{laid}
use Rattle.places.proofs.lay.Goals as goal

put_back_lem : (s : List ℕ) (at : ℕ) (c y : List ℕ) (n : ℕ) → y ≡ c → n ≡ length c → take at s ++ (y ++ drop n (drop at s)) ≡ laid s at c
put_back_lem s at c y n e same = ap (take at s ++◌) (ap₂ (◌++◌) e (ap (λ k. drop k (drop at s)) same ∙ drop-drop (length c) at s))

pub returns-then-at-s : goal.returns-then-at-s
returns-then-at-s c = let a = c.args in
    let s = a.s.now in
    let part = a.part.now in
    sym (rw (lt-leb (a.at + length part) (length s) (omega (arith, c.if-at-s.true))) refl)

pub returns-then-part-s : goal.returns-then-part-s
returns-then-part-s c = let a = c.args in
    let s = a.s.now in
    let part = a.part.now in
    sym (rw (lt-leb (a.at + length part) (length s) (omega (arith, c.if-part-s.true, c.if-at-s.false))) refl)

pub returns : goal.returns
returns c = let a = c.args in
    let s = a.s.now in
    let part = a.part.now in
    put_back_lem s a.at part c.copy_from_slice.new.self _ c.copy_from_slice.ensures.after (omega arith) ∙ sym (rw (le-leb (a.at + length part) (length s) (omega (arith, c.if-part-s.false, c.if-at-s.false))) refl)
