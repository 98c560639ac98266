-- `judged_head` walks the head's values in bit order: each step is a law of judging.
use mathlib.Core.Path.{ap₂, ◌∙◌}
use mathlib.Core.List.{[], ◌∷◌}
use lib.Dec.{lit<}
use Rattle.walk.specs.Judging.{valued}
use Rattle.walk.specs.Walk.{seen}
use Rattle.walk.specs.Laws.Judging.{judge_start, judge_num, judge_limits, judge_deciding, valued_between}
use Rattle.notice_fields.specs.Parts.{subtypes, subtype}
use Rattle.notice_fields.specs.PartsSteps.{least_subtype, most_subtype}
use Rattle.notice_fields.specs.Laws.Subtypes.{subtype_limits, most_subtype_fits}
use Rattle.notice_fields.specs.Laws.PartsWalking.{expiry_judged_lem}
use Rattle.notice.specs.Notice.{ours, notice as Notice·notice}
use Rattle.notice.specs.Record.{headed}
use Rattle.notice.proofs.writing.making.judged_head.Goals as goal

pub returns : goal.returns
unfolding Notice·notice
returns c =
    let r = c.args.r in
    let kind = r.kind in
    let limits = c.value-w-6.ensures ∙ ap₂ (λ lo hi. valued 4 r.subtype lo hi (seen c.value-w-5.result)) c.least_subtype.ensures c.most_subtype.ensures in
    record {
      past = r.count ∷ r.expiry ∷ r.subtype ∷ kind ∷ r.year ∷ r.serial ∷ r.station ∷ r.source ∷ [];
      is = λ english vs.
          let r0 = judge_start (Notice·notice (ours english)) 0 0 (headed r vs) c.begin.ensures in
          let r1 = judge_num 5 (lit< tt) 1 21 (lit< tt) r0 c.value-w.ensures in
          let r2 = judge_num 4 (lit< tt) 1 3 (lit< tt) r1 c.value-w-2.ensures in
          let r3 = judge_num 14 (lit< tt) 1 9_999 (lit< tt) r2 c.value-w-3.ensures in
          let r4 = judge_num 7 (lit< tt) 0 99 (lit< tt) r3 c.value-w-4.ensures in
          let r5 = judge_num 4 (lit< tt) 1 8 (lit< tt) r4 c.value-w-5.ensures in
          let r6 = judge_limits 4 (lit< tt) (subtype subtypes) (least_subtype kind) (most_subtype kind) (most_subtype_fits kind) (λ _. subtype_limits kind _ r.subtype) r5 limits in
          let r7 = expiry_judged_lem (lit< tt) r6 c.judged_expiry-w.ensures in
          judge_deciding 4 (lit< tt) 0 15 (lit< tt) r7 c.value.ensures;
      few = λ z. (valued_between (seen c.judged_expiry-w.result) 4 r.count 0 15 c.value.ensures z).1;
    }
