-- What writing a tide telegram answers, from its judging and its room: a row that is too short leaves no room. Assumes nothing.
use Rattle.std.specs.Prelude.{ℕ, ◌*◌, ◌+◌, ◌≤◌, ◌<◌, ◌^◌, ◌≡◌, false, length}
use Rattle.std.proofs.Math.Path.{refl, sym, subst, subst⁻¹}
use Rattle.std.proofs.Common.{◌∙◌}
use mathlib.Core.List.{List, [], ◌++◌, append-nil}
use native.Mathlib.Omega.{arith}
use Rattle.format.specs.Codes.{headed}
use Rattle.format.specs.Fmt.{write}
use Rattle.format.specs.Promises.{room_for}
use Rattle.format.specs.Refusals.{bare}
use Rattle.format.specs.Refusals.{Verdict}
use Rattle.format.specs.Laws.Putting.{Puts}
use Rattle.walk.specs.Judging.{closing}
use Rattle.walk.specs.Laws.Judging.{Judging, Judged, judge_end}
use Rattle.walk.specs.Laws.Loops.{going}
use Rattle.walk.specs.Laws.RowsMade.{row_refused, row_stands}
use Rattle.walk.specs.Laws.Step.{stuck}
use Rattle.walk.specs.Walk.{Stepped}
use Rattle.walk.specs.Walk.{Walk}
use Rattle.tide.specs.Making.{records_judged}
use Rattle.tide.specs.Record.{leading, values_of}
use Rattle.tide.specs.Row.{record_most, records_long, records_told}
use Rattle.tide.specs.Standing.{front}
use Rattle.tide.specs.Tide.{rest, tides}
use Rattle.tide.specs.Written.{TideJudged}
use Rattle.tide.specs.WritingPromises.{TideWrites}
use Rattle.tide.specs.declared.reading.Tide.{Tide}
use Rattle.tide.specs.Laws.Judging.{records_judged_lem}

-- ---- judging: the head, and the records behind it

-- judging stands at the records, whatever values follow
pub record HeadJudged (n : ℕ) (w : Walk) : Type 0 where
  pub past : List ℕ
  pub is : (vs : List ℕ) → Judging (write tides.fmt [] 0 (leading n vs)) (rest n) past front vs w
  pub few : w.code ≡ 0 → n ≤ 511

module _ (r : Tide) (row : List ℕ) (w : Walk) (x : HeadJudged r.count w) where
  -- a refused head ends it
  pub head_refused : (w.code ≡ 0 → ⊥) → TideJudged r row (record { walk = w; next = 0 })
  unfolding values_of
  head_refused n = let y = x.is (records_told r.count row) in
      record { judged = record { laid = []; so = y.so ∙ stuck w _ n ∙ sym (stuck w _ n); long = λ z. absurd (n z) }; asked = λ z. absurd (n z) }

  pub head_on : {st : Stepped} → w.code ≡ 0 → st ≡ records_judged row r.count 0 w → TideJudged r row st
  unfolding values_of
  head_on z d =
      let n = r.count in
      let us = records_told n row in
      let y = records_judged_lem row n in
      let h = x.is (us ++ []) in
      let reach : w.at + n * record_most < 2 ^ 64 = omega (arith, h.here z, x.few z) in
      let g = (y.along 0 w reach).on (going h) in
      let all = subst (λ l. Judged (write tides.fmt [] 0 (leading n l)) (records_judged row n 0 w).walk) (append-nil us) (judge_end g.is) in
      subst⁻¹ (TideJudged r row) d (record { judged = all; asked = λ k. y.next 0 w k ∙ omega arith })

-- ---- the size that is made, and room

module _ (s : List ℕ) (r : Tide) (row : List ℕ) (st : Stepped) (x : TideJudged r row st) {room : ℕ} {code : Verdict}
    (is : room ≡ room_for (length row) st.next (length s)) (e : code ≡ closing false 9 210 room st.walk) where
  abbrev values : List ℕ
  values = values_of (r, row)

  pub tide_refused : (code.code ≡ 0 → ⊥) → TideWrites s r row code s
  unfolding tides headed
  tide_refused = row_refused tides values s st.walk x.judged refl (omega arith) (length row) st.next (records_long r.count row) x.asked is e

  -- what was put stands in front
  pub tide_stands : {t : List ℕ} → code.code ≡ 0 → Puts tides.fmt values s t → TideWrites s r row (bare 0) t
  unfolding tides headed
  tide_stands = row_stands tides values s st.walk x.judged refl (omega arith) (length row) st.next (records_long r.count row) x.asked is e
