-- The head of a notice: one step a field, the subtype by its limits; reading stands at the areas. Assumes nothing.
use Rattle.std.specs.Prelude.{ℕ, ◌≤◌, ◌≡◌, refl, Bool, true, List, []}
use Rattle.std.proofs.Common.{arith, lit<, lit≤}
use Rattle.format.specs.Words.{◌‥◌}
use Rattle.walk.specs.Reading.{ranged}
use Rattle.walk.specs.Walk.{begun, onward}
use Rattle.walk.specs.Laws.Along.{Going, going}
use Rattle.walk.specs.Laws.Reading.{start, step_num, step_limits, step_decide, got_lt}
use Rattle.notice_fields.specs.Standing.{front}
use Rattle.notice_fields.specs.Parts.{subtypes, subtype}
use Rattle.notice_fields.specs.PartsSteps.{least_subtype, most_subtype, expiry_read}
use Rattle.notice_fields.specs.Laws.Subtypes.{subtype_limits}
use Rattle.notice_fields.specs.Laws.PartsWalking.{expiry_read_lem}
use Rattle.notice.specs.Notice.{ours, rest, notice}
use Rattle.notice.specs.Record.{headed}
use Rattle.notice.specs.Steps.{fields_read, opening_of, Opening}

-- reading stands at the areas
pub record HeadIs (english : Bool) (i : ℕ) (s : List ℕ) (h : Opening) : Type 0 where
  pub going : Going (fields_read english s) (notice (ours english)) i s (rest (ours english) h.notice.count) (headed h.notice []) h.walk
  pub here : h.walk.at ≡ front
  pub few : h.notice.count ≤ 15

pub opened : (english : Bool) (i : ℕ) (s : List ℕ) → HeadIs english i s (opening_of i s)
unfolding notice opening_of onward
opened english i s =
    let w1 = ranged s 5 true 1 21 4 (begun 0 i) in
    let w2 = ranged s 4 true 1 3 4 w1 in
    let w3 = ranged s 14 true 1 9_999 4 w2 in
    let w4 = ranged s 7 true 0 99 4 w3 in
    let w5 = ranged s 4 true 1 8 4 w4 in
    let w6 = ranged s 4 true (least_subtype w5.v) (most_subtype w5.v) 4 w5 in
    let w7 = expiry_read s w6 in
    let r0 = start (notice (ours english)) i 0 s refl in
    let r1 = step_num 5 (lit< tt) (lit≤ tt) (lit< tt) 1 21 r0 refl in
    let r2 = step_num 4 (lit< tt) (lit≤ tt) (lit< tt) 1 3 r1 refl in
    let r3 = step_num 14 (lit< tt) (lit≤ tt) (lit< tt) 1 9_999 r2 refl in
    let r4 = step_num 7 (lit< tt) (lit≤ tt) (lit< tt) 0 99 r3 refl in
    let r5 = step_num 4 (lit< tt) (lit≤ tt) (lit< tt) 1 8 r4 refl in
    let r6 = step_limits 4 (lit< tt) (lit≤ tt) (lit< tt) 3 _ _ (subtype subtypes) (λ v. subtype_limits w5.v _ v) r5 refl in
    let r7 = expiry_read_lem (lit< tt) r6 refl in
    let r8 = step_decide 4 (lit< tt) (lit≤ tt) (lit< tt) 3 0 15 (0 ‥ 15) (λ v. refl) r7 refl in
    record {
      going = going (headed (opening_of i s).notice []) r8;
      here = r8.here;
      few = omega (arith, got_lt s w7.at 4 refl);
    }
