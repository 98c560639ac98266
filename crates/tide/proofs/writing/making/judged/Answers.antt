-- `judged` walks the head and the records; a refused head ends it.
use Rattle.std.proofs.Common.{[], ◌∷◌, ◌≡◌, sym, ◌∙◌, lit<, ap, eqb-true}
use Rattle.std.proofs.lemmas.Bool.{eqb-false}
use Rattle.format.specs.Codes.{codes, headed}
use Rattle.walk.specs.Judging.{valued}
use Rattle.walk.specs.Walk.{seen}
use Rattle.walk.specs.Laws.Judging.{judge_start, judge_fixed, judge_deciding, valued_between}
use Rattle.notice_fields.specs.Laws.Verdicts.{refused, passed}
use Rattle.tide.specs.Record.{leading}
use Rattle.tide.specs.Tide.{tides}
use Rattle.tide.specs.Laws.Writing.{HeadJudged, head_refused, head_on}
use Rattle.tide.proofs.writing.making.judged.Goals.{After-value-head}
use Rattle.tide.proofs.writing.making.judged.Goals as goal

counted : (c : After-value-head) → seen c.value-head.result ≡ valued 9 c.args.r.count 1 511 (seen c.fixed-2.result)
counted c = c.value-head.ensures ∙ ap (λ n. valued 9 n 1 511 (seen c.fixed-2.result)) c.from.ensures

head_judged : (c : After-value-head) → HeadJudged c.args.r.count (seen c.value-head.result)
unfolding tides headed codes
head_judged c =
    let n = c.args.r.count in
    record {
      past = n ∷ 0 ∷ 1 ∷ 0xE4 ∷ [];
      is = λ vs.
          let r0 = judge_start tides.fmt 0 0 (leading n vs) c.begin.ensures in
          let r1 = judge_fixed 8 1 0xE4 (lit< tt) (lit< tt) r0 c.fixed.ensures in
          let r2 = judge_fixed 3 1 1 (lit< tt) (lit< tt) r1 c.fixed-kind.ensures in
          let r3 = judge_fixed 1 1 0 (lit< tt) (lit< tt) r2 c.fixed-2.ensures in
          judge_deciding 9 (lit< tt) 1 511 (lit< tt) r3 (counted c);
      few = λ z. (valued_between (seen c.fixed-2.result) 9 n 1 511 (counted c) z).1;
    }

pub returns : goal.returns
returns c =
    let a = c.args in
    let head = head_judged (goal.at.returns c).After-value-head in
    head_on a.r a.row.now (seen c.value-head.result) head (eqb-true _ 0 (passed c.value-head.result (sym c.is_err.ensures.value ∙ c.if-is_err.false))) c.judge_records.ensures

pub returns-then-is_err : goal.returns-then-is_err
returns-then-is_err c =
    let a = c.args in
    let head = head_judged (goal.at.returns-then-is_err c).After-value-head in
    head_refused a.r a.row.now (seen c.value-head.result) head (eqb-false _ 0 (refused c.value-head.result (sym c.is_err.ensures.value ∙ c.if-is_err.true)))
