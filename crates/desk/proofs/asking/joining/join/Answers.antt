-- `join` meets its contract: the packets below k stand in front of the buffer.
use Prim.Native.Nat.{ℕ, ◌+◌, ◌-◌, ◌≤◌}
use mathlib.Core.List.{List, ◌++◌}
use mathlib.Core.Path.{◌≡◌, refl, sym, ap, ap₂, ◌∙◌}
use native.Mathlib.Omega.{arith}
use lib.Seq.{get_or-take}
use lib.ListN.{length, take, drop, length-take}
use Rattle.places.specs.Desk.{laid, cell, in_cell_of, joined_below}
use Rattle.places.specs.Places.{held}
use Rattle.places.specs.Laws.Laid.{laid_within_lem}
use Rattle.places.specs.Laws.Joined.{held_below, held_more, held_room, joined_more, joined_length, front_laid}
use Rattle.desk.proofs.asking.joining.join.Goals as goal

pub loop-k-init : goal.loop-k-init
unfolding held_below joined_below
loop-k-init c = (refl, refl)

-- the part of the store that is lent for a cell
part : (from n : ℕ) (s : List ℕ) → take (from + n - from) (drop from s) ≡ take n (drop from s)
part from n s = let e : from + n - from ≡ n = omega arith in rw e refl

pub overflow_add-at : goal.overflow_add-at
overflow_add-at c =
    let p = c.args.p in
    let k = c.loop-k.k in
    omega (arith, held_room k p.total p (omega arith), c.from-size.ensures, get_or-take p.total p.sizes k 0 (omega arith))

pub loop-k-preserved : goal.loop-k-preserved
loop-k-preserved c =
    let a = c.args in
    let p = a.p in
    let k = c.loop-k.k in
    let s = a.store.now in
    let b = a.notice.now in
    let v = c.loop-k.invariant in
    let x = joined_below k s a.i p in
    let from = cell a.i k in
    let n = c.from-size.result in
    let size : n ≡ held p k = c.from-size.ensures ∙ get_or-take p.total p.sizes k 0 (omega arith) in
    let room = held_room k p.total p (omega arith) in
    let fits : c.loop-k.at + length (take (from + n - from) (drop from s)) ≤ length c.loop-k.notice = simp length-take (omega (arith, room, size, c.requires.3, v.0)) in
    let long : c.loop-k.at ≡ length x = v.0 ∙ sym (joined_length c.requires.0 a.i s c.requires.1 c.requires.2 k (omega (arith, c.requires.0.few))) in (
      omega (arith, v.0, held_more k p, size),
      c.lay.ensures ∙ laid_within_lem c.loop-k.notice c.loop-k.at (take (from + n - from) (drop from s)) fits
          ∙ ap (laid c.loop-k.notice c.loop-k.at) (part from n s ∙ ap (λ m. take m (drop from s)) size) ∙ ap₂ (λ r n. laid r n (in_cell_of s a.i p k)) v.1 long ∙ front_laid x b (in_cell_of s a.i p k)
          ∙ ap (λ x. x ++ drop (length x) b) (sym (joined_more k s a.i p)),
    )
