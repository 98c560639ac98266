-- A family's correction in place, from its own answers: laws/Correcting said of the record that was read and where its fields stand. Assumes nothing.
use Rattle.std.specs.Prelude.{◌≡◌, Bool, true, false, List, [], ℕ, ◌-◌, ◌≤◌, length, eqb, Result, IsErrAnd}
use Rattle.std.proofs.Common.{refl, sym, ap, ◌∙◌, subst, arith, length-take-le, eqb-true}
use Rattle.std.proofs.lemmas.Bool.{eqb-false}
use Rattle.bits.specs.Bits.{Bytes, bits_of}
use Rattle.format.specs.declared.Refusal.{Refusal}
use Rattle.format.specs.Correcting.{standing, admitted, put_in, Begins, Finishes, InPlace}
use Rattle.format.specs.Fmt.{Out, accepted, also, read, spot}
use Rattle.format.specs.Message.{Layout, body, fields_of, told, read_message}
use Rattle.format.specs.Refusals.{bare, seen_refusal, told_of}
use Rattle.format.specs.Refusals.{Verdict}
use Rattle.format.specs.Promises.{answered, read_record, out_of, plain, refused_by, verdict_of, Corrects}
use Rattle.format.specs.Laws.Answers.{numbered, read_code}
use Rattle.bits.specs.Answers.{got}
use Rattle.format.specs.Laws.Correcting.{accepted_by, own_refusal}
use Rattle.format.specs.Laws.Outcomes.{number_some, told_exit, told_out}
use Rattle.format.proofs.Laws.Correcting.{in_place}
use Rattle.format.specs.Laws.Lead.{sized_fields}
use Rattle.format.specs.Laws.Family.{Family}
use Rattle.format.proofs.Laws.Family.{record_values}
use Rattle.format.proofs.Laws.Whole.{was, within_sizes}
use Rattle.format.proofs.Laws.Zero.{read_zero_message}
use Rattle.format.specs.Laws.Corrections.{inside}

-- The fields of a message that has a good size are not refused for theirs.
pub good_size : (l : Layout) (t : List ℕ) → l.least ≤ length t → length t ≤ l.most
    → fields_of l.fmt (inside l.seal l.least) (inside l.seal l.most) (body l.seal t) ≡ read l.fmt [] 0 (bits_of (body l.seal t))
good_size l t least most = sized_fields l.fmt (inside l.seal l.least) (inside l.seal l.most) (body l.seal t) (go l.seal).0 (go l.seal).1
  where
    go : (z : Bool) → (inside z l.least ≤ length (body z t)) × (length (body z t) ≤ inside z l.most)
    go false = (least, most)
    go true = let n = length-take-le (length t - 1) t (omega arith) in (omega (arith, n), omega (arith, n))

module _ {l : Layout} {R A : Type 0} {Lent : R → Type 0} {values_of : R → List ℕ} {record_of : List ℕ → R} {changed : ℕ → ℕ → R → R} (F : Family l R Lent values_of record_of changed)
    (good : R → A) (bad : Verdict → A) (refusal_of : A → Verdict) (of-good : (r : R) → refusal_of (good r) ≡ bare 0) (of-bad : (c : Verdict) → refusal_of (bad c) ≡ c)
    -- the answer a of reading s, its refusal n, and where the field i of an accepted record stands
    (s : List ℕ) (i v p w : ℕ) {a : A} {n : Verdict} (read_so : a ≡ answered good bad (read_record l record_of s)) (is : n ≡ refusal_of a)
    (stands : (r : R) → read_record l record_of s ≡ accepted r → spot l.fmt [] (values_of r) i ≡ standing p w) (slim : w ≤ 32) where
  reads : n ≡ told (read_message l s)
  reads = read_code good bad record_of refusal_of of-good of-bad l s read_so is

  found_so : (vs : List ℕ) → read_message l s ≡ accepted vs → spot l.fmt [] vs i ≡ standing p w
  found_so vs e = rw (← record_values F s vs e) (stands (record_of vs) (ap (also record_of) e))

  -- The correction begun leaves t, the answer of its fields is b, with the refusal d, and finished it answers `last` and leaves x.
  module _ (fine : Bytes s) {code : Verdict} {at width old : ℕ} {t inner : List ℕ} (begun : Begins s n p w v code at width old t) (laid : inner ≡ body l.seal t) where
    corrects : {d last : Verdict} {b : A} {x : List ℕ} (o : Out (List ℕ)) → (l.least ≤ length t → length t ≤ l.most → o ≡ read l.fmt [] 0 (bits_of (body l.seal t)))
        → b ≡ answered good bad (also record_of o) → d ≡ refusal_of b → Finishes l.seal code at width old d t last x → Corrects l s i v last x
    corrects o again tells number finished =
        in_place l F.sound F.judged s i v p w reads found_so slim fine begun
        (λ z same.
        let (vs, e) = accepted_by (read_message l s) reads (λ q. read_zero_message l s q F.judged) z in
        let (least, most) = within_sizes l F.sound s vs (was l s vs e) in
        number ∙ ap refusal_of tells ∙ numbered good bad record_of refusal_of of-good of-bad o ∙ ap told (again (omega (arith, least, same)) (omega (arith, most, same))))
        finished

    -- The fields are read whatever their size,
    pub family_corrected : {d last : Verdict} {b : A} {x : List ℕ} → b ≡ answered good bad (also record_of (read l.fmt [] 0 (bits_of inner))) → d ≡ refusal_of b
        → Finishes l.seal code at width old d t last x → Corrects l s i v last x
    family_corrected = corrects (read l.fmt [] 0 (bits_of inner)) (λ least most. ap (λ b. read l.fmt [] 0 (bits_of b)) laid)

    -- or their size is tested first.
    pub family_sized : {d last : Verdict} {b : A} {x : List ℕ} → b ≡ answered good bad (also record_of (fields_of l.fmt (inside l.seal l.least) (inside l.seal l.most) inner)) → d ≡ refusal_of b
        → Finishes l.seal code at width old d t last x → Corrects l s i v last x
    family_sized =
        corrects (fields_of l.fmt (inside l.seal l.least) (inside l.seal l.most) inner)
        (λ least most. ap (fields_of l.fmt (inside l.seal l.least) (inside l.seal l.most)) laid ∙ good_size l t least most)

-- ---- the same, as the code does it: what reading refuses is handed on, and the rest is `InPlace`

-- what a reading tells, by its answer, whatever the record that it makes
outcome_told : {R : Type 0} (record_of : List ℕ → R) (o : Out (List ℕ)) {x : Out R} → x ≡ plain (also record_of o) → verdict_of x ≡ told o
outcome_told record_of o e = ap verdict_of e ∙ numbered accepted refused_by record_of verdict_of (λ r. refl) (λ c. refl) o

pub family_exit : {R : Type 0} (l : Layout) (record_of : List ℕ → R) (s : List ℕ) (i v : ℕ) {A : Type 0} (x : Result A Refusal) (f : Refusal) → IsErrAnd x (λ g. g ≡ f) → refused_by (seen_refusal f) ≡ plain (read_record l record_of s)
    → Corrects l s i v (told_of x) s
family_exit l record_of s i v x f h e = subst (λ c. Corrects l s i v c s) (sym (told_exit x f h)) (own_refusal l s i v (outcome_told record_of (read_message l s) e) (number_some f.reason))

-- The record r of s was read, and its field i stands at p; the fields anew tell what their reading tells.
pub family_in_place : {l : Layout} {R : Type 0} {Lent : R → Type 0} {values_of : R → List ℕ} {record_of : List ℕ → R} {changed : ℕ → ℕ → R → R} (F : Family l R Lent values_of record_of changed)
    (s : List ℕ) (fine : Bytes s) (i v p w : ℕ) (r : R) → accepted r ≡ plain (read_record l record_of s) → ((q : R) → read_record l record_of s ≡ accepted q → spot l.fmt [] (values_of q) i ≡ standing p w) → w ≤ 32
    → {A : Type 0} {rereads : List ℕ → A → Type 0} {tells : A → Verdict} {refusal : Verdict} {x : List ℕ}
    → ((t : List ℕ) (d : A) → l.least ≤ length t → length t ≤ l.most → rereads (body l.seal t) d → tells d ≡ told (read l.fmt [] 0 (bits_of (body l.seal t))))
    → InPlace l.seal rereads tells s p w v refusal x → Corrects l s i v refusal x
family_in_place {l} {R} {Lent} {values_of} {record_of} {changed} F s fine i v p w r good stands slim {A} {rereads} {tells} {refusal} {x} again z = go (eqb a.code 0) refl
  where
    a : Verdict
    a = admitted (bare 0) p w v

    reads : bare 0 ≡ told (read_message l s)
    reads = outcome_told record_of (read_message l s) good

    found_so : (vs : List ℕ) → read_message l s ≡ accepted vs → spot l.fmt [] vs i ≡ standing p w
    found_so vs e = rw (← record_values F s vs e) (stands (record_of vs) (ap (also record_of) e))

    go : (b : Bool) → eqb a.code 0 ≡ b → Corrects l s i v refusal x
    go true e =
        let (d, is, done) = z.changes (eqb-true a.code 0 e) in
        let t = put_in s p w v in
        in_place l F.sound F.judged s i v p w reads found_so slim fine {code = a} {at = p} {width = w} {old = got s p w} {d = tells d} {last = refusal} {t = t} {x = x}
        (record { admits = refl; offset = refl; wide = refl; was = refl; puts = rw e refl })
        (λ q same.
        let (vs, k) = accepted_by (read_message l s) reads (λ q. read_zero_message l s q F.judged) refl in
        let (least, most) = within_sizes l F.sound s vs (was l s vs k) in
        again t d (omega (arith, least, same)) (omega (arith, most, same)) is)
        (record { answers = done.answers ∙ rw e refl; leaves = done.leaves ∙ rw e refl })
    go false e =
        let (same, left) = z.stays (eqb-false a.code 0 e) in
        let d = told (read l.fmt [] 0 (bits_of (body l.seal s))) in
        in_place l F.sound F.judged s i v p w reads found_so slim fine {code = a} {at = p} {width = w} {old = got s p w} {d = d} {last = refusal} {t = s} {x = x}
        (record { admits = refl; offset = refl; wide = refl; was = refl; puts = rw e refl })
        (λ q k. refl)
        (record { answers = same ∙ rw e refl; leaves = left ∙ rw e refl })

-- what the fields tell where their size is tested first
pub fields_told : {R : Type 0} (l : Layout) (record_of : List ℕ → R) (t : List ℕ) (x : Result R Refusal) → l.least ≤ length t → length t ≤ l.most
    → out_of x ≡ plain (also record_of (fields_of l.fmt (inside l.seal l.least) (inside l.seal l.most) (body l.seal t))) → told_of x ≡ told (read l.fmt [] 0 (bits_of (body l.seal t)))
fields_told l record_of t x least most e =
    told_out x ∙ outcome_told record_of (fields_of l.fmt (inside l.seal l.least) (inside l.seal l.most) (body l.seal t)) e ∙ ap told (good_size l t least most)

-- and where they are read whatever it is
pub fields_told_at_once : {R : Type 0} (l : Layout) (record_of : List ℕ → R) (t : List ℕ) (x : Result R Refusal) → out_of x ≡ plain (also record_of (read l.fmt [] 0 (bits_of t))) → told_of x ≡ told (read l.fmt [] 0 (bits_of t))
fields_told_at_once l record_of t x e = told_out x ∙ outcome_told record_of (read l.fmt [] 0 (bits_of t)) e
