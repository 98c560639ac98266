-- A call's Result by what it tells: a reason's number is 1 or more, and Results that tell the same are the same. What a `?` hands on, and what reading answers where its first tests or its walk end. Assumes nothing.
use Rattle.std.specs.Prelude.{◌≡◌, refl, true, false, cond, ℕ, List, eqb, Result, Ok, Err, IsErrAnd, is_err}
use Rattle.std.proofs.Common.{sym, ap, ◌∙◌, arith, ne_eqb}
use Rattle.format.specs.declared.Reason.{Reason}
use Rattle.format.specs.declared.Reason.TheVariants.{Size, Kind, Checksum, Range, Fill, Room, Contradicts, Taken, Incomplete, Field, Unknown}
use Rattle.format.specs.declared.Refusal.{Refusal}
use Rattle.format.specs.Refusals.{number, shown, bare, seen_refusal, told_of, code_of}
use Rattle.format.specs.Fmt.{Out, accepted, refused, also}
use Rattle.format.specs.Message.{Layout, first}
use Rattle.format.specs.Promises.{read_record, out_of, verdict_of, refused_by, plain}
use Rattle.format.specs.Laws.Answers.{told_so, led_so}

pub number_some : (x : Reason) → number x ≡ 0 → ⊥
number_some Size e = omega (arith, e)
number_some Kind e = omega (arith, e)
number_some Checksum e = omega (arith, e)
number_some Range e = omega (arith, e)
number_some Fill e = omega (arith, e)
number_some Room e = omega (arith, e)
number_some Contradicts e = omega (arith, e)
number_some Taken e = omega (arith, e)
number_some Incomplete e = omega (arith, e)
number_some Field e = omega (arith, e)
number_some Unknown e = omega (arith, e)

-- ---- Results that tell the same

reason_of : ℕ → Reason
reason_of n = cond (eqb n 1) Size (cond (eqb n 2) Kind (cond (eqb n 3) Checksum (cond (eqb n 4) Range (cond (eqb n 5) Fill (cond (eqb n 6) Room (cond (eqb n 7) Contradicts (cond (eqb n 8) Taken (cond (eqb n 9) Incomplete (cond (eqb n 10) Field Unknown)))))))))

numbered : (x : Reason) → reason_of (number x) ≡ x
unfolding reason_of
numbered Size = refl
numbered Kind = refl
numbered Checksum = refl
numbered Range = refl
numbered Fill = refl
numbered Room = refl
numbered Contradicts = refl
numbered Taken = refl
numbered Incomplete = refl
numbered Field = refl
numbered Unknown = refl

pub one_number : (x y : Reason) → number x ≡ number y → x ≡ y
one_number x y e = sym (numbered x) ∙ ap reason_of e ∙ numbered y

pub one_refusal : (x y : Refusal) → seen_refusal x ≡ seen_refusal y → x ≡ y
one_refusal x y e =
    let same = one_number x.reason y.reason (ap (λ v. v.code) e) in
    λ i. record { reason = same i; bit = (e i).bit }

pub one_told : (x y : Result Unit Refusal) → told_of x ≡ told_of y → x ≡ y
one_told (Ok a) (Ok b) e = refl
one_told (Ok a) (Err g) e = absurd (number_some g.reason (sym (ap (λ v. v.code) e)))
one_told (Err f) (Ok b) e = absurd (number_some f.reason (ap (λ v. v.code) e))
one_told (Err f) (Err g) e = ap Err (one_refusal f g e)

pub one_code : (x y : Result Unit Reason) → code_of x ≡ code_of y → x ≡ y
one_code (Ok a) (Ok b) e = refl
one_code (Ok a) (Err r) e = absurd (number_some r (sym e))
one_code (Err r) (Ok b) e = absurd (number_some r e)
one_code (Err q) (Err r) e = ap Err (one_number q r e)

pub one_outcome : {R : Type 0} (x y : Result R Refusal) → out_of x ≡ out_of y → x ≡ y
one_outcome (Ok a) (Ok b) e = let same : a ≡ b = cc in ap Ok same
one_outcome (Ok a) (Err g) e = absurd cc
one_outcome (Err f) (Ok b) e = absurd cc
one_outcome (Err f) (Err g) e =
    let told : seen_refusal f ≡ seen_refusal g = ap verdict_of e in
    ap Err (one_refusal f g told)

-- ---- tests

pub refused_code : {A : Type 0} (x : Result A Reason) → is_err x ≡ true → code_of x ≡ 0 → ⊥
refused_code (Ok a) e z = absurd cc
refused_code (Err r) e z = number_some r z

pub passed_code : {A : Type 0} (x : Result A Reason) → is_err x ≡ false → code_of x ≡ 0
passed_code (Ok a) e = refl
passed_code (Err r) e = absurd cc

-- ---- the exit of a `?`

pub told_out : {A : Type 0} (x : Result A Refusal) → told_of x ≡ verdict_of (out_of x)
told_out (Ok a) = refl
told_out (Err f) = refl

-- it hands on what it was given
pub told_exit : {A : Type 0} (x : Result A Refusal) (f : Refusal) → IsErrAnd x (λ g. g ≡ f) → told_of x ≡ seen_refusal f
told_exit (Ok a) f h = absurd h
told_exit (Err g) f h = ap seen_refusal h

pub out_exit : {R : Type 0} (x : Result R Refusal) (f : Refusal) → IsErrAnd x (λ g. g ≡ f) → out_of x ≡ refused_by (seen_refusal f)
out_exit (Ok a) f h = absurd h
out_exit (Err g) f h = ap (λ f. refused_by (seen_refusal f)) h

-- ---- reading

module _ {R : Type 0} (record_of : List ℕ → R) where
  -- what the first tests refused
  pub led_exit : (l : Layout) (s : List ℕ) (x : Result R Refusal) (r : Reason) → IsErrAnd x (λ f. seen_refusal f ≡ bare (number r)) → number r ≡ first l s → out_of x ≡ plain (read_record l record_of s)
  led_exit l s (Ok a) r h e = absurd h
  led_exit l s (Err f) r h e = led_so accepted refused_by record_of l s e (number_some r) h

  -- what the walk refused
  pub walk_exit : (o : Out (List ℕ)) (vs : List ℕ) (c p : ℕ) (x : Result R Refusal) (f : Refusal) → IsErrAnd x (λ g. g ≡ f) → seen_refusal f ≡ shown c p
      → o ≡ cond (eqb c 0) (accepted vs) (refused c p) → out_of x ≡ plain (also record_of o)
  walk_exit o vs c p x f h is e =
      out_exit x f h ∙ sym (ap (λ t. cond t (accepted (record_of vs)) (refused_by (seen_refusal f))) (ne_eqb (number f.reason) 0 (number_some f.reason))) ∙ told_so accepted refused_by record_of o vs c p is e

  -- what it passed
  pub walk_passed : (o : Out (List ℕ)) (vs : List ℕ) (c p : ℕ) → bare 0 ≡ shown c p → o ≡ cond (eqb c 0) (accepted vs) (refused c p) → accepted (record_of vs) ≡ plain (also record_of o)
  walk_passed o vs c p is e = told_so accepted refused_by record_of o vs c p is e
