-- `put_area` meets its contract: by the number of the kind, as `kind_of` goes.
use Prim.Native.Nat.{ℕ, ◌+◌, ◌*◌, ◌%◌}
use mathlib.Core.Path.{sym, ap, ap₂, ◌∙◌}
use mathlib.Core.List.{List}
use Rattle.format.specs.Correcting.{put_in, put_in_lem}
use Rattle.notice_fields.specs.Areas.{least_of}
use Rattle.notice_fields.specs.Laws.Kinds.{kind_sea, kind_circle, kind_several}
use Rattle.notice_fields.specs.Parts.{point_bits}
use Rattle.notice_fields.specs.Making.{points_put}
use Rattle.walk.specs.Rows.{Put}
use Rattle.notice_fields.specs.Laws.Putting.{sea_turn, circle_turn, several_turn}
use Rattle.notice_fields.proofs.making.put_area.Goals as goal

pub returns-then-kind-eq-SEA : goal.returns-then-kind-eq-SEA
returns-then-kind-eq-SEA c =
    let a = c.args in
    let u = c.put.new.s in
    ap (λ t. (record { at = a.at + 11; next = a.k + 2 }, t)) (put_in_lem u (a.at + 3) 8 c.entry.result c.put-then-kind-eq-SEA.ensures ∙ ap (λ v. put_in u (a.at + 3) 8 v) c.entry.ensures)
    ∙ sym (sea_turn a.row.now a.k a.at a.buf.now c.entry-kind.ensures (put_in_lem a.buf.now a.at 3 c.entry-kind.result c.put.ensures) (kind_sea c.if-kind-eq-SEA.true))

pub returns-then-kind-eq-CIRCLE : goal.returns-then-kind-eq-CIRCLE
returns-then-kind-eq-CIRCLE c =
    let a = c.args in
    let radius = a.at + 3 + point_bits in
    let u = c.put-then-kind-eq-CIRCLE.new.s in
    let one = put_in_lem c.put_points.new.buf radius 10 c.entry-then-kind-eq-CIRCLE.result c.put-then-kind-eq-CIRCLE.ensures ∙ ap₂ (λ t v. put_in t radius 10 v) c.put_points.ensures c.entry-then-kind-eq-CIRCLE.ensures in
    ap (λ t. (record { at = radius + 12; next = a.k + 5 }, t)) (put_in_lem u (radius + 10) 2 c.entry-then-kind-eq-CIRCLE-2.result c.put-then-kind-eq-CIRCLE-2.ensures ∙ ap₂ (λ t v. put_in t (radius + 10) 2 v) one c.entry-then-kind-eq-CIRCLE-2.ensures)
    ∙ sym (circle_turn a.row.now a.k a.at a.buf.now c.entry-kind.ensures (put_in_lem a.buf.now a.at 3 c.entry-kind.result c.put.ensures) (kind_circle c.if-kind-eq-CIRCLE.true))

pub returns : goal.returns
returns c =
    let a = c.args in
    let row = a.row.now in
    let n = c.entry-counted.result in
    let u = c.put.new.s in
    let points : ℕ → List ℕ → List ℕ = λ n t. points_put row (n % 16) (a.k + 2) (a.at + 7) t in
    let laid : ℕ → List ℕ → Put = λ n t. (record { at = a.at + 7 + n % 16 * point_bits; next = a.k + 2 + n % 16 * 2 }, t) in
    ap (laid n) (c.put_points-2.ensures ∙ ap (points n) (put_in_lem u (a.at + 3) 4 n c.put-2.ensures))
    ∙ sym (several_turn row a.k a.at a.buf.now c.entry-kind.ensures (put_in_lem a.buf.now a.at 3 c.entry-kind.result c.put.ensures) (least_of c.entry-kind.result) (kind_several c.if-kind-eq-SEA.false c.if-kind-eq-CIRCLE.false) c.entry-counted.ensures)
