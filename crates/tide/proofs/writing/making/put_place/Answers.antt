-- `put_place` meets its contract: by the position type.
use Prim.Native.Nat.{◌+◌}
use mathlib.Core.Path.{ap, ap₂, ◌∙◌}
use borrow.Author.Tests.{eq-eqb, ne_eqb}
use Rattle.format.specs.Correcting.{put_in, put_in_lem}
use Rattle.notice_fields.specs.Parts.{latitude_bits, longitude_bits, point_bits}
use Rattle.tide.proofs.writing.making.put_place.Goals as goal

pub returns-then-kind-eq-PORT : goal.returns-then-kind-eq-PORT
returns-then-kind-eq-PORT c =
    let a = c.args in
    let t = a.buf.now in
    rw (eq-eqb a.kind 0 c.if-kind-eq-PORT.true) (ap (λ u. (record { at = a.at + 6; next = a.k + 1 }, u)) (put_in_lem t a.at 6 c.entry.result c.put.ensures ∙ ap (λ v. put_in t a.at 6 v) c.entry.ensures))

pub returns : goal.returns
returns c =
    let a = c.args in
    let t = a.buf.now in
    let one = put_in_lem t a.at latitude_bits c.entry-2.result c.put-2.ensures ∙ ap (λ v. put_in t a.at latitude_bits v) c.entry-2.ensures in
    let two = put_in_lem _ (a.at + latitude_bits) longitude_bits c.entry-3.result c.put-3.ensures ∙ ap₂ (λ u v. put_in u (a.at + latitude_bits) longitude_bits v) one c.entry-3.ensures in
    rw (ne_eqb a.kind 0 c.if-kind-eq-PORT.false) (ap (λ u. (record { at = a.at + point_bits; next = a.k + 2 }, u)) two)
