-- `area_at` meets its contract: by the number of the kind, as `kind_of` goes.
use Prim.Native.Nat.{◌+◌, ◌*◌}
use mathlib.Core.Path.{◌≡◌, sym, ap, ◌∙◌}
use native.Mathlib.Omega.{arith}
use Rattle.bits.specs.Answers.{got}
use Rattle.walk.specs.Laws.Reading.{got_lt}
use Rattle.notice_fields.specs.Areas.{several, least_of}
use Rattle.notice_fields.specs.Laws.Kinds.{kind_sea, kind_circle, kind_several}
use Rattle.notice_fields.specs.Parts.{point_bits}
use Rattle.notice_fields.specs.Shapes.{shape_as, shape_at}
use Rattle.notice_fields.proofs.row.area_at.Goals as goal

pub returns-then-kind-eq-SEA : goal.returns-then-kind-eq-SEA
unfolding shape_at
returns-then-kind-eq-SEA c =
    let a = c.args in
    ap (λ k. shape_as k a.s.now a.at) (sym (kind_sea (sym c.get-kind.ensures ∙ c.if-kind-eq-SEA.true)))

pub returns-then-kind-eq-CIRCLE : goal.returns-then-kind-eq-CIRCLE
unfolding shape_at
returns-then-kind-eq-CIRCLE c =
    let a = c.args in
    ap (λ k. shape_as k a.s.now a.at) (sym (kind_circle (sym c.get-kind.ensures ∙ c.if-kind-eq-CIRCLE.true)))

pub overflow_add-result-2 : goal.overflow_add-result-2
overflow_add-result-2 c = let a = c.args in omega (arith, got_lt a.s.now (a.at + 3) 4 c.get-points.ensures)

pub overflow_mul-result : goal.overflow_mul-result
overflow_mul-result c = let a = c.args in omega (arith, got_lt a.s.now (a.at + 3) 4 c.get-points.ensures)

pub overflow_add-result-4 : goal.overflow_add-result-4
overflow_add-result-4 c = let a = c.args in omega (arith, got_lt a.s.now (a.at + 3) 4 c.get-points.ensures)

pub overflow_mul-result-2 : goal.overflow_mul-result-2
overflow_mul-result-2 c = let a = c.args in omega (arith, got_lt a.s.now (a.at + 3) 4 c.get-points.ensures)

pub overflow_add-result-5 : goal.overflow_add-result-5
overflow_add-result-5 c = let a = c.args in omega (arith, got_lt a.s.now (a.at + 3) 4 c.get-points.ensures)

pub returns : goal.returns
unfolding shape_at
returns c =
    let a = c.args in
    let n = c.get-points.ensures in
    let s = a.s.now in
    let m = got s (a.at + 3) 4 in
    let next : a.at + 7 + c.get-points.result * point_bits ≡ a.at + (3 + (4 + m * point_bits)) = omega (arith, n) in
    let numbers : 2 + c.get-points.result * 2 ≡ 1 + (1 + m * 2) = omega (arith, n) in
    let plain = kind_several (λ z. c.if-kind-eq-SEA.false (c.get-kind.ensures ∙ z)) (λ z. c.if-kind-eq-CIRCLE.false (c.get-kind.ensures ∙ z)) in
    let shape : record { points = c.get-points.result; first = a.at + 7; next = a.at + 7 + c.get-points.result * point_bits; numbers = 2 + c.get-points.result * 2 } ≡ shape_as (several (least_of (got s a.at 3))) s a.at =
    λ y. record { points = n y; first = a.at + 7; next = next y; numbers = numbers y } in
    shape ∙ ap (λ k. shape_as k s a.at) (sym plain)
