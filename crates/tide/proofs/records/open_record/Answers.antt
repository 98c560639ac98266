-- `open_record` walks the position, the forecast mark and the count, unless the position type was refused.
use Rattle.std.proofs.Common.{sym, ap, ◌∙◌, true, false, cond, eqb}
use Rattle.walk.specs.Reading.{ranged}
use Rattle.walk.specs.Walk.{Walk, seen}
use Rattle.notice_fields.specs.Laws.Verdicts.{refused, passed}
use Rattle.tide.specs.Steps.{count_read}
use Rattle.tide.proofs.records.open_record.Goals as goal

pub returns-then-is_err : goal.returns-then-is_err
returns-then-is_err c =
    let s = c.args.s.now in
    let kind = seen c.decide-kind.result in
    sym (ap (λ b. cond b (count_read s kind) kind) (refused c.decide-kind.result (sym c.is_err.ensures.value ∙ c.if-is_err.true))) ∙ ap (λ (r : Walk). cond (eqb r.code 0) (count_read s r) r) c.decide-kind.ensures.0

pub returns : goal.returns
returns c =
    let s = c.args.s.now in
    let kind = seen c.decide-kind.result in
    c.decide.ensures.0 ∙ ap (ranged s 9 false 1 511 4) (c.num-mark.ensures.0 ∙ ap (ranged s 1 true 0 1 4) c.position.ensures)
    ∙ sym (ap (λ b. cond b (count_read s kind) kind) (passed c.decide-kind.result (sym c.is_err.ensures.value ∙ c.if-is_err.false))) ∙ ap (λ (r : Walk). cond (eqb r.code 0) (count_read s r) r) c.decide-kind.ensures.0
