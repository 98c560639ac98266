-- The record of a head's, areas' and text's values is these; the three ways in which reading answers; and what the walk over a notice is: reading's answer. Assumes nothing.
use Rattle.std.specs.Prelude.{◌≡◌, ◌≤◌, Bool, Result, List, [], ◌++◌, ℕ, leb, ltb, length, get_or}
use Rattle.std.proofs.Math.Path.{refl, sym, subst⁻¹}
use Rattle.std.proofs.Common.{ap, ◌∙◌, ltb-true, eqb-true, le-leb}
use Rattle.std.proofs.Math.Bool.{true, false, cond}
use native.Mathlib.Omega.{arith}
use Rattle.std.proofs.Math.Dec.{eqb}
use Rattle.std.proofs.lemmas.Bool.{eqb-false}
use Rattle.format.specs.Fmt.{accepted, refused, check, also, none, spot}
use Rattle.format.specs.Message.{between, fault, told as Message·told, read_message}
use Rattle.format.specs.Promises.{read_record}
use Rattle.format.specs.Refusals.{Verdict, shown, told_of}
use Rattle.format.specs.declared.Refusal.{Refusal}
use Rattle.bits.specs.Bits.{bytes_at}
use Rattle.bits.specs.Laws.Runs.{bytes_run}
use Rattle.format.specs.Correcting.{standing}
use Rattle.format.specs.Laws.Round.{accepted_inj}
use Rattle.format.specs.Laws.Lead.{read_first, read_led, held_back}
use Rattle.walk.specs.Walk.{begun}
use Rattle.walk.specs.Laws.Step.{clear, stuck}
use Rattle.walk.specs.Laws.Walked.{same_values}
use Rattle.notice_fields.specs.Standing.{front, areas_at}
use Rattle.notice_fields.specs.Steps.{areas_walked}
use Rattle.notice_fields.specs.Laws.Walking.{areas_along}
use Rattle.packet.specs.Packet.{joined}
use Rattle.notice.specs.Notice.{ours, notice, notices, sizes}
use Rattle.notice.specs.Steps.{fields_read, opening_of, ending_of, unread_by, behind, course_of, Course, Gives}
use Rattle.notice.specs.Changed.{spots}
use Rattle.notice.specs.Laws.Correction.{head_stands}
use Rattle.notice.specs.Laws.Opening.{opened}
use Rattle.notice.specs.Laws.Closing.{closed}
use Rattle.notice.specs.declared.reading.Course.{Course as Declared}
use Rattle.notice.specs.Record.{headed, texted, record_of}
use Rattle.notice.specs.Laws.Told.{told, sizes_small, FieldsAre}

-- ---- behind the first test

read_on : (english : Bool) (s : List ℕ) → sizes s ≡ 0 → read_message (notices (ours english)) s ≡ fields_read english s
unfolding notices
read_on english s z = read_first (notices (ours english)) s refl ∙ ap (λ c. check (fault c) 0 (fields_read english s)) z

module _ (english : Bool) (i : ℕ) (s : List ℕ) where
  -- head, areas, text and end, joined
  fields_on : sizes s ≡ 0 → FieldsAre english i s (behind english s (opening_of i s))
  fields_on z =
      let h = opening_of i s in
      let head = opened english i s in
      let n = h.notice.count in
      let areas = areas_walked s n h.walk in
      let going = (areas_along s n h.walk (omega (arith, head.few, head.here))).on head.going in
      let end = closed english s areas (sizes_small s z) in
      let all = same_values (ap (λ p. headed h.notice (areas_at s n p ++ texted (bytes_at s areas.at (ending_of english s areas).text))) head.here) (end.on going) in
      record {
        walked = record { so = read_on english s z ∙ all.so; spots = all.spots; slim = all.slim };
        few = head.few;
        fits = λ z. let (clean, fits) = end.fits z in fits (going.so.within clean);
      }

  -- a size that is refused is the whole answer
  fields_not : (sizes s ≡ 0 → ⊥) → FieldsAre english i s (unread_by (sizes s))
  unfolding notices
  fields_not n = record {
    walked = record { so = read_first (notices (ours english)) s refl ∙ held_back (sizes s) (fields_read english s) n ∙ sym (stuck (begun (sizes s) 0) _ n); spots = λ z. absurd (n z); slim = omega arith };
    few = omega arith;
    fits = λ z. absurd (n z);
  }

  pub fields_are : {f : Course} → f ≡ course_of english i s → FieldsAre english i s f
  unfolding course_of
  fields_are d = subst⁻¹ (FieldsAre english i s) d (go (eqb (sizes s) 0) refl)
    where
      go : (t : Bool) → eqb (sizes s) 0 ≡ t → FieldsAre english i s (cond t (behind english s (opening_of i s)) (unread_by (sizes s)))
      go true t = fields_on (eqb-true (sizes s) 0 t)
      go false t = fields_not (eqb-false (sizes s) 0 t)

-- the walk over a whole notice: its record, or the refusal
module _ (english : Bool) (i : ℕ) (s : List ℕ) (f : Course) (d : f ≡ course_of english i s) where
  x : FieldsAre english i s f
  x = fields_are english i s d

  pub walked_good : f.walk.code ≡ 0 → read_record (notices (ours english)) record_of s ≡ accepted (f.notice, (areas_at s f.notice.count front, bytes_at s f.at f.text))
  walked_good k =
      ap (also record_of) (x.walked.so ∙ clear f.walk _ k)
      ∙ ap accepted (told f.notice (areas_at s f.notice.count front) (bytes_at s f.at f.text) (bytes_run s f.at f.text))

  pub walked_bad : (f.walk.code ≡ 0 → ⊥) → read_message (notices (ours english)) s ≡ refused f.walk.code f.walk.offset
  walked_bad n = x.walked.so ∙ stuck f.walk _ n

  -- what reading tells is what the walk's refusal tells
  pub walked_refusal : {r : Verdict} → r ≡ shown f.walk.code f.walk.offset → r ≡ Message·told (read_message (notices (ours english)) s)
  walked_refusal is = is ∙ go (eqb f.walk.code 0) refl
    where
      go : (t : Bool) → eqb f.walk.code 0 ≡ t → shown f.walk.code f.walk.offset ≡ Message·told (read_message (notices (ours english)) s)
      go true t = let z = eqb-true f.walk.code 0 t in ap (λ c. shown c f.walk.offset) z ∙ sym (ap Message·told (x.walked.so ∙ clear f.walk _ z))
      go false t = sym (ap Message·told (walked_bad (eqb-false f.walk.code 0 t)))

  walked_code : f.walk.code ≡ (Message·told (read_message (notices (ours english)) s)).code
  walked_code = ap (λ r. r.code) (walked_refusal refl)

  -- where the field i of a notice that was read stands: in the head, or where the walk found it
  pub stands : (vs : List ℕ) → read_message (notices (ours english)) s ≡ accepted vs → spot (notice (ours english)) [] vs i ≡ cond (ltb i 8) (get_or spots i none) (standing f.walk.spot f.walk.width)
  stands vs a =
      let c : f.walk.code ≡ 0 = walked_code ∙ ap (λ o. (Message·told o).code) a in
      let same = accepted_inj (sym (x.walked.so ∙ clear f.walk _ c) ∙ a) in
      ap (λ vs. spot (notice (ours english)) [] vs i) (sym same) ∙ go c (ltb i 8) refl
    where
      whole : List ℕ
      whole = headed f.notice (areas_at s f.notice.count front ++ texted (bytes_at s f.at f.text))

      go : f.walk.code ≡ 0 → (b : Bool) → ltb i 8 ≡ b → spot (notice (ours english)) [] whole i ≡ cond b (get_or spots i none) (standing f.walk.spot f.walk.width)
      go c true e = head_stands (ours english) f.notice _ i (ltb-true i 8 e)
      go c false e = x.walked.spots c

  -- what was read has a good size, and so has all that is as long
  pub fields_again : f.walk.code ≡ 0 → (t : List ℕ) → length t ≡ length s → read_message (notices (ours english)) t ≡ fields_read english t
  unfolding notices
  fields_again z t e =
      let size : sizes s ≡ 0 = read_led (notices (ours english)) s (sym walked_code ∙ z) in
      read_on english t (ap (λ n. cond (leb 8 n) (cond (between 8 joined n) 0 1) 1) e ∙ size)

-- what reads the fields of a message of a good size tells what their reading does
pub fields_told : (english : Bool) (t : List ℕ) (d : Result Declared Refusal) → 8 ≤ length t → length t ≤ joined → Gives (course_of english 0 t) d → told_of d ≡ Message·told (fields_read english t)
fields_told english t d least most is =
    walked_refusal english 0 t (course_of english 0 t) refl is.0 ∙ ap Message·told (read_on english t (rw (le-leb 8 (length t) least, le-leb (length t) joined most) refl))
