-- The record of a head's and the records' values is these; the ways in which reading answers; and what the walk over a tide telegram is: reading's answer. Assumes nothing.
use Rattle.std.specs.Prelude.{◌≡◌, Bool, ◌&&◌, List, [], ◌++◌, ℕ, ◌≤◌, ◌<◌, ◌^◌, leb, length, drop, Result, Ok}
use Rattle.std.proofs.Math.Path.{refl, sym, subst⁻¹}
use Rattle.std.proofs.Common.{ap, ◌∙◌, append-nil, zero-add, lit<, lit≤}
use Rattle.std.proofs.Math.Bool.{true, false, cond}
use native.Mathlib.Omega.{arith}
use Rattle.std.proofs.Math.Dec.{eqb}
use Rattle.std.proofs.lemmas.List.Edits.{sets-eq}
use borrow.Author.Tests.{le-leb, lt-leb, leb-true, ne_eqb, eqb-true, eqb-false}
use Rattle.format.specs.Codes.{codes, there, headed}
use Rattle.format.specs.Correcting.{standing}
use Rattle.format.specs.Fmt.{Out, accepted, refused, check, also, Fmt, spot, end}
use Rattle.format.specs.Message.{fault, told, read_message, ahead}
use Rattle.format.specs.Promises.{out_of, refused_by, read_record}
use Rattle.format.specs.Refusals.{Verdict, shown, bare, seen_refusal}
use Rattle.format.specs.Words.{◌‥◌}
use Rattle.format.specs.Laws.Lead.{read_first, held_back}
use Rattle.format.specs.Laws.Outcomes.{number_some}
use Rattle.format.specs.Laws.Round.{accepted_inj}
use Rattle.walk.specs.Faults.{closes}
use Rattle.walk.specs.Reading.{ranged, ended}
use Rattle.walk.specs.Walk.{begun, onward}
use Rattle.walk.specs.Laws.Along.{Going, going}
use Rattle.walk.specs.Laws.Reading.{start, step_code, step_decide, got_lt}
use Rattle.walk.specs.Laws.Step.{clear, stuck}
use Rattle.walk.specs.Laws.Walked.{Walked, finish, same_values}
use Rattle.walk.specs.Walk.{Walk}
use Rattle.tide.specs.Promises.{told_of, Reads}
use Rattle.tide.specs.Record.{Whole, leading, record_of}
use Rattle.tide.specs.Shapes.{filled}
use Rattle.tide.specs.Standing.{front, records_at}
use Rattle.tide.specs.declared.reading.Course.{Course as Declared}
use Rattle.tide.specs.Steps.{Course, course, records_walked, fields_read, head_read, unread_by, behind, course_of}
use Rattle.tide.specs.Tide.{rest, tides}
use Rattle.format.specs.declared.Refusal.{Refusal}
use Rattle.tide.specs.declared.reading.Told.{Told}
use Rattle.tide.specs.Laws.Walking.{records_along}

pub record_is : (n : ℕ) (xs : List ℕ) → record_of (leading n xs) ≡ (record { count = n }, xs)
unfolding record_of
record_is n xs = refl

-- ---- the ways in which reading answers

module _ (s row : List ℕ) where
  pub reads_refused : {c p : ℕ} (a : Result Told Refusal) → out_of a ≡ refused_by (shown c p) → read_record tides record_of s ≡ refused c p → Reads s row a row
  reads_refused a is e = rw e (is, refl)

  module _ {x : Whole} (e : read_record tides record_of s ≡ accepted x) where
    pub reads_few : (a : Result Told Refusal) → out_of a ≡ refused_by (bare 6) → length row < length x.1 → Reads s row a row
    reads_few a is l = rw (e, lt-leb (length x.1) (length row) l) (is, refl)

    pub reads_good : length x.1 ≤ length row → Reads s row (Ok (told_of x)) (ahead x.1 row)
    reads_good l = rw (e, le-leb (length x.1) (length row) l) (refl, refl)

-- what goes into a row
pub stored : (row xs : List ℕ) → length xs ≤ length row → filled xs row ≡ ahead xs row
stored row xs l = rw (le-leb (length xs) (length row) l) (sets-eq xs row 0 (omega arith) ∙ ap (λ n. xs ++ drop n row) (zero-add (length xs)))

pub kept_row : (row xs : List ℕ) → length row < length xs → filled xs row ≡ row
kept_row row xs l = rw (lt-leb (length xs) (length row) l) refl

-- ---- the head

-- reading stands at the records
record HeadIs (i : ℕ) (s : List ℕ) (h : Walk) : Type 0 where
  going : Going (fields_read s) tides.fmt i s (rest h.v) (leading h.v []) h
  here : h.at ≡ front
  few : h.v < 2 ^ 9

opened : (i : ℕ) (s : List ℕ) → HeadIs i s (head_read i s)
unfolding tides headed codes onward
opened i s =
    let w3 = ranged s 1 false 0 0 2 (ranged s 3 false 1 1 2 (ranged s 8 false 0xE4 0xE4 2 (begun 0 i))) in
    let r0 = start tides.fmt i 0 s refl in
    let r1 = step_code 8 (lit≤ tt) (lit< tt) 0xE4 r0 refl in
    let r2 = step_code 3 (lit≤ tt) (lit< tt) 1 r1 refl in
    let r3 = step_code 1 (lit≤ tt) (lit< tt) 0 r2 refl in
    let r4 = step_decide 9 (lit< tt) (lit≤ tt) (lit< tt) 3 1 511 (1 ‥ 511) (λ v. refl) r3 refl in
    record {
      going = going (leading (head_read i s).v []) r4;
      here = r4.here;
      few = got_lt s w3.at 9 refl;
    }

-- ---- behind the first tests

lead_small : (s : List ℕ) → tides.lead s ≡ 0 → length s ≤ 210
unfolding tides headed
lead_small s = go (leb 9 (length s)) (there _ 0 s) (leb (length s) 210) refl
  where
    go : (x t y : Bool) → leb (length s) 210 ≡ y → ◌≡◌ {A = ℕ} (cond x (cond t (cond (x && y) 0 1) 2) 1) 0 → length s ≤ 210
    go x t true e z = leb-true (length s) 210 e
    go true true false e z = absurd (omega (arith, z))
    go true false false e z = absurd (omega (arith, z))
    go false t false e z = absurd (omega (arith, z))

read_on : (s : List ℕ) → tides.lead s ≡ 0 → read_message tides s ≡ fields_read s
unfolding tides headed
read_on s z = read_first tides s refl ∙ ap (λ c. check (fault c) 0 (fields_read s)) z

-- ---- the end, from the records on

module _ {o : Out (List ℕ)} {all : Fmt} {i : ℕ} {s : List ℕ} {us : List ℕ} (w : Walk) (x : Going o all i s end us w) where
  -- after a refusal nothing is looked at
  end_refused : (w.code ≡ 0 → ⊥) → Walked o all i us (ended s w)
  unfolding ended
  end_refused n = record {
    so = x.so.so ∙ stuck w _ n ∙ rw (ne_eqb w.code 0 n, ne_eqb w.code 0 n) refl;
    spots = λ z. absurd (n (sym (ap (λ b. cond b (closes s w.at) w.code) (ne_eqb w.code 0 n)) ∙ z));
    slim = thin w.seek;
  }
    where
      thin : (b : Bool) → cond b 0 w.width ≤ 32
      thin true = omega arith
      thin false = x.so.slim

  ends : length s ≤ 210 → Walked o all i us (ended s w)
  ends small = go (eqb w.code 0) refl
    where
      go : (t : Bool) → eqb w.code 0 ≡ t → Walked o all i us (ended s w)
      go true t = same_values (append-nil us) (finish (omega (arith, x.so.within (eqb-true w.code 0 t))) x.so refl)
      go false t = end_refused (eqb-false w.code 0 t)

-- a walk over the whole telegram, sought for field i: the values that reading has
pub record FieldsAre (i : ℕ) (s : List ℕ) (f : Course) : Type 0 where
  pub walked : Walked (read_message tides s) tides.fmt i (leading f.tide.count (records_at s f.tide.count front)) f.walk
  pub few : f.tide.count < 2 ^ 9

module _ (i : ℕ) (s : List ℕ) where
  -- head, records and end, joined
  behind_walked : length s ≤ 210 → let h = head_read i s in Walked (fields_read s) tides.fmt i (leading h.v (records_at s h.v front)) (behind s h).walk
  behind_walked small =
      let h = head_read i s in
      let head = opened i s in
      let n = h.v in
      let on = (records_along s n h (omega (arith, head.few, head.here))).on head.going in
      same_values (ap (λ p. leading n (records_at s n p)) head.here) (ends (records_walked s n h) on small)

  fields_on : tides.lead s ≡ 0 → FieldsAre i s (behind s (head_read i s))
  fields_on z =
      let all = behind_walked (lead_small s z) in
      record { walked = record { so = read_on s z ∙ all.so; spots = all.spots; slim = all.slim }; few = (opened i s).few }

  -- what the first tests refuse is the whole answer
  fields_not : (tides.lead s ≡ 0 → ⊥) → FieldsAre i s (unread_by (tides.lead s))
  unfolding tides headed
  fields_not n = record {
    walked = record { so = read_first tides s refl ∙ held_back (tides.lead s) (fields_read s) n ∙ sym (stuck (begun (tides.lead s) 0) _ n); spots = λ z. absurd (n z); slim = omega arith };
    few = omega arith;
  }

  pub fields_are : {f : Course} → f ≡ course_of i s → FieldsAre i s f
  unfolding course_of
  fields_are d = subst⁻¹ (FieldsAre i s) d (go (eqb (tides.lead s) 0) refl)
    where
      go : (t : Bool) → eqb (tides.lead s) 0 ≡ t → FieldsAre i s (cond t (behind s (head_read i s)) (unread_by (tides.lead s)))
      go true t = fields_on (eqb-true (tides.lead s) 0 t)
      go false t = fields_not (eqb-false (tides.lead s) 0 t)

-- what a whole walk tells, number and bit, is what is told of its answer
walked_refusal : {o : Out (List ℕ)} {all : Fmt} {i : ℕ} {vs : List ℕ} {r : Walk} → Walked o all i vs r → shown r.code r.offset ≡ told o
walked_refusal {o} {vs = vs} {r = r} x = go (eqb r.code 0) refl
  where
    go : (t : Bool) → eqb r.code 0 ≡ t → shown r.code r.offset ≡ told o
    go true t = let z = eqb-true r.code 0 t in ap (λ c. shown c r.offset) z ∙ sym (ap told (x.so ∙ clear r (accepted vs) z))
    go false t = sym (ap told (x.so ∙ stuck r (accepted vs) (eqb-false r.code 0 t)))

-- the walk over a whole telegram: its record, or the refusal
module _ (i : ℕ) (s : List ℕ) (f : Course) (d : f ≡ course_of i s) where
  x : FieldsAre i s f
  x = fields_are i s d

  pub walked_good : f.walk.code ≡ 0 → read_record tides record_of s ≡ accepted (f.tide, records_at s f.tide.count front)
  walked_good k = ap (also record_of) (x.walked.so ∙ clear f.walk _ k) ∙ ap accepted (record_is f.tide.count (records_at s f.tide.count front))

  pub walked_bad : (f.walk.code ≡ 0 → ⊥) → read_message tides s ≡ refused f.walk.code f.walk.offset
  walked_bad n = x.walked.so ∙ stuck f.walk _ n

  -- What reading tells is what the walk does: its number, and the first bit of the field at fault. `course_of` says what the whole walk is, field by field, and so where entries are passed at once too.
  pub walked_told : shown f.walk.code f.walk.offset ≡ told (read_message tides s)
  walked_told = walked_refusal x.walked

  -- the field i of a telegram that was read stands where the walk found it
  pub stands : (vs : List ℕ) → read_message tides s ≡ accepted vs → spot tides.fmt [] vs i ≡ standing f.walk.spot f.walk.width
  stands vs a =
      let c : f.walk.code ≡ 0 = ap (λ (r : Verdict). r.code) (walked_told ∙ ap told a) in
      let same = accepted_inj (sym (x.walked.so ∙ clear f.walk _ c) ∙ a) in
      ap (λ vs. spot tides.fmt [] vs i) (sym same) ∙ x.walked.spots c

-- what reading's fields answered, by what they told
module _ (i : ℕ) (s : List ℕ) where
  abbrev w : Walk
  w = (course_of i s).walk

  pub fields_refused : (f : Refusal) → seen_refusal f ≡ shown w.code w.offset → read_message tides s ≡ refused w.code w.offset
  fields_refused f told = walked_bad i s (course_of i s) refl (λ z. number_some f.reason (ap (λ (v : Verdict). v.code) told ∙ z))

  pub fields_passed : (f : Declared) → bare 0 ≡ shown w.code w.offset → course f ≡ course_of i s → read_record tides record_of s ≡ accepted (f.tide, records_at s f.tide.count front)
  fields_passed f told is = walked_good i s (course f) is (ap (λ (f : Course). f.walk.code) is ∙ sym (ap (λ (v : Verdict). v.code) told))

-- of all that is no longer than a telegram, the fields' walk is the fields' answer
pub fields_again : (t : List ℕ) → length t ≤ 210 → {g : Course} → g ≡ behind t (head_read 0 t) → shown g.walk.code g.walk.offset ≡ told (fields_read t)
fields_again t small d = ap (λ (g : Course). shown g.walk.code g.walk.offset) d ∙ walked_refusal (behind_walked 0 t small)
