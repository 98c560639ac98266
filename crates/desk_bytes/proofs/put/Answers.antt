-- `put` meets its contract: four bytes are stored, and the sizes laid behind them.
use mathlib.Core.Path.{◌≡◌, refl, ap, ◌∙◌}
use mathlib.Core.Bool.{Bool, true, false, cond}
use mir.Val.{bool_byte}
use mathlib.Core.List.{[], ◌∷◌}
use Prim.Native.Nat.{◌+◌}
use native.Mathlib.Omega.{arith}
use lib.ListN.{length, set, length-set}
use borrow.Author.Rules.{rules}
use Rattle.packet.specs.Packet.{most_packets}
use Rattle.places.specs.Desk.{laid, laid_within}
use Rattle.desk_bytes.specs.Bytes.{begins}
use Rattle.places.specs.Laws.Laid.{laid_within_lem, length_laid}
use Rattle.desk_bytes.proofs.Stored.{laid_more, four_stored}
use Rattle.desk_bytes.proofs.put.Goals as goal

marked : (b : Bool) → bool_byte b ≡ cond b 1 0
marked true = refl
marked false = refl

pub bounds-s-at-2 : goal.bounds-s-at-2
bounds-s-at-2 c = let a = c.args in omega (arith, length-set a.s.now (begins a.i) c.from.result)

pub bounds-s-at-3 : goal.bounds-s-at-3
bounds-s-at-3 c = let a = c.args in omega (arith, length-set a.s.now (begins a.i) c.from.result, length-set (set a.s.now (begins a.i) c.from.result) (begins a.i + 1) a.p.number)

pub bounds-s-at-4 : goal.bounds-s-at-4
bounds-s-at-4 c = let a = c.args in omega (arith, length-set a.s.now (begins a.i) c.from.result, length-set (set a.s.now (begins a.i) c.from.result) (begins a.i + 1) a.p.number, length-set (set (set a.s.now (begins a.i) c.from.result) (begins a.i + 1) a.p.number) (begins a.i + 2) a.p.language)

pub shape_of-s : goal.shape_of-s
shape_of-s c =
    let a = c.args in
    c.lay.auto.s ∙ ap length (four_stored a.s.now (begins a.i) c.from.result a.p.number a.p.language a.p.total (omega arith)) ∙ length_laid a.s.now (begins a.i) (c.from.result ∷ a.p.number ∷ a.p.language ∷ a.p.total ∷ []) (omega arith)

pub returns : goal.returns
returns c =
    let a = c.args in
    let head = c.from.result ∷ a.p.number ∷ a.p.language ∷ a.p.total ∷ [] in
    let sizes : length a.p.sizes ≡ most_packets = search rules in
    let four = four_stored a.s.now (begins a.i) c.from.result a.p.number a.p.language a.p.total (omega arith) in
    c.lay.ensures
    ∙ ap (λ s. laid_within s (begins a.i + 4) a.p.sizes) four
    ∙ laid_within_lem (laid a.s.now (begins a.i) head) (begins a.i + 4) a.p.sizes (omega (arith, sizes, length_laid a.s.now (begins a.i) head (omega arith)))
    ∙ laid_more a.s.now (begins a.i) head a.p.sizes (omega arith)
    ∙ ap (λ n. laid a.s.now (begins a.i) (n ∷ a.p.number ∷ a.p.language ∷ a.p.total ∷ a.p.sizes)) (c.from.ensures ∙ marked a.p.«open»)
