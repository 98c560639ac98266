-- `judged` walks the head, the areas and the text; a refused head ends it.
use Prim.Native.Nat.{◌*◌}
use mathlib.Core.Path.{◌≡◌, sym, ap, ◌∙◌, subst⁻¹}
use mathlib.Core.Bool.{cond}
use mathlib.Core.List.{◌++◌}
use native.Mathlib.Omega.{arith}
use borrow.Author.Tests.{eqb-true, eqb-false}
use lib.ListN.{length}
use Rattle.bits.specs.Bits.{Bytes}
use Rattle.format.specs.Refusals.{code_of}
use Rattle.walk.specs.Walk.{Walk, Stepped, seen, stepped, onward}
use Rattle.notice_fields.specs.Laws.Verdicts.{refused, passed}
use Rattle.walk.specs.Laws.Loops.{JudgesAlong, going}
use Rattle.walk.specs.Laws.Step.{clean}
use Rattle.notice_fields.specs.Areas.{areas}
use Rattle.notice_fields.specs.Terms.{our_point}
use Rattle.notice_fields.specs.Making.{fresh, areas_judged}
use Rattle.notice_fields.specs.Laws.Judging.{areas_judged_lem}
use Rattle.notice_fields.specs.Row.{areas_told}
use Rattle.notice.specs.Record.{texted, values_of}
use Rattle.notice.specs.Laws.Judging.{spoken_whole, text_judged, from_front, refused_judged}
use Rattle.notice.proofs.writing.making.judged.Goals as goal

pub returns-then-is_err : goal.returns-then-is_err
unfolding values_of
returns-then-is_err c =
    let a = c.args in
    let x = c.judged_head-head.ensures in
    let n = eqb-false (seen c.judged_head-head.result).code 0 (refused c.judged_head-head.result (sym c.is_err.ensures.value ∙ c.if-is_err.true)) in
    record {
      judged = refused_judged (length a.text.now * 8) n (going (x.is a.english (areas_told a.r.count a.areas.now ++ texted a.text.now)));
      asked = λ z. absurd (n z);
    }

pub returns : goal.returns
unfolding values_of onward
returns c =
    let a = c.args in
    let t = a.text.now in
    let fine : Bytes t = λ i. (c.shared_slice_known-2-1.given i).fits in
    let x = c.judged_head-head.ensures in
    let clear = eqb-true (seen c.judged_head-head.result).code 0 (passed c.judged_head-head.result (sym c.is_err.ensures.value ∙ c.if-is_err.false)) in
    let few = x.few clear in
    let row = a.areas.now in
    let n = a.r.count in
    let y = areas_judged_lem row n in
    let all = areas_judged row n 0 fresh in
    let is : stepped c.judge-all.result ≡ all = c.judge-all.ensures in
    let near = ap (λ (r : Stepped). r.walk.at) is in
    let g = (subst⁻¹ (λ (r : Stepped). JudgesAlong (areas our_point n) (λ f. f) fresh (areas_told n row) r.walk) is (y.along 0 fresh (omega (arith, few)))).on (from_front clear (x.is a.english (areas_told a.r.count a.areas.now ++ texted t))) in
    record {
      judged = text_judged a.english t (code_of c.judged_text.result) fine (omega (arith, near, y.near 0 fresh, few)) (c.judged_text.ensures ∙ ap (λ b. cond b 0 4) (spoken_whole a.english t fine)) c.wide-walk.ensures g;
      asked = λ z. ap (λ (r : Stepped). r.next) is ∙ y.next 0 fresh (ap (λ (r : Stepped). r.walk.code) (sym is) ∙ (clean (seen c.judge-all.result.walk).code (code_of c.judged_text.result) (ap (λ (w : Walk). w.code) (sym c.wide-walk.ensures) ∙ z)).0) ∙ omega arith;
    }
