-- `judge_entry` judges a time, a sign, and a value whose least hangs on the sign.
use Prim.Native.Nat.{◌+◌}
use mathlib.Core.Path.{ap, ap₂, ◌∙◌}
use lib.ListN.{get_or}
use Rattle.walk.specs.Judging.{valued}
use Rattle.walk.specs.Walk.{Walk, seen}
use Rattle.notice_fields.specs.PartsSteps.{time_judged}
use Rattle.tide.specs.Row.{some_time}
use Rattle.tide.specs.Making.{level_judged}
use Rattle.tide.specs.Tide.{least_of}
use Rattle.tide.proofs.writing.making.judge_entry.Goals as goal

pub returns : goal.returns
returns c =
    let a = c.args in
    let row = a.row.now in
    let sign = c.entry-sign.result in
    let time = c.judged_time-time.ensures ∙ ap (λ n. time_judged n (seen a.w)) c.entry.ensures in
    let value = c.value.ensures ∙ ap₂ (λ n lo. valued 10 n lo 1_023 (seen c.value-signed.result)) c.entry-2.ensures c.least.ensures in
    value ∙ ap (λ (r : Walk). valued 10 (get_or row (a.k + 2) 1) (least_of sign) 1_023 r) (c.value-signed.ensures ∙ ap (λ (r : Walk). valued 1 sign 0 1 r) time)
    ∙ ap (λ sign. level_judged sign (get_or row (a.k + 2) 1) (time_judged (get_or row a.k some_time) (seen a.w))) c.entry-sign.ensures
