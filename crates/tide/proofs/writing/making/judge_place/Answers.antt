-- `judge_place` meets its contract: by the position type.
use Prim.Native.Nat.{◌+◌}
use mathlib.Core.Path.{ap, ap₂, ◌∙◌}
use borrow.Author.Tests.{eq-eqb, ne_eqb}
use Rattle.walk.specs.Judging.{valued}
use Rattle.walk.specs.Walk.{Walk, seen}
use Rattle.notice_fields.specs.PartsSteps.{latitude_judged, longitude_judged}
use Rattle.tide.proofs.writing.making.judge_place.Goals as goal

pub returns-then-kind-eq-PORT : goal.returns-then-kind-eq-PORT
returns-then-kind-eq-PORT c =
    let a = c.args in
    rw (eq-eqb a.kind 0 c.if-kind-eq-PORT.true) (ap (λ (w : Walk). record { walk = w; next = a.k + 1 }) (c.value-walk.ensures ∙ ap (λ n. valued 6 n 0 63 (seen a.w)) c.entry.ensures))

pub returns : goal.returns
returns c =
    let a = c.args in
    let latitude = c.judged_latitude-latitude.ensures ∙ ap (λ n. latitude_judged n (seen a.w)) c.entry-2.ensures in
    rw (ne_eqb a.kind 0 c.if-kind-eq-PORT.false) (ap (λ (w : Walk). record { walk = w; next = a.k + 2 }) (c.judged_longitude-walk.ensures ∙ ap₂ (λ n w. longitude_judged n w) c.entry-3.ensures latitude))
