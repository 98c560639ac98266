-- The tests of reading: what they show where they pass, and the definition's case at each way out. Assumes nothing.
use Rattle.std.specs.Prelude.{Bool, true, false, cond, not, ◌&&◌, List, [], ◌∷◌, ◌≡◌, ℕ, zero, suc, ◌+◌, ◌≤◌, ◌<◌, leb, eqb, length, take, drop, get_or}
use Rattle.std.proofs.lemmas.Bool.{false≢true}
use Rattle.std.proofs.Math.Bool.{and-false, and-eq-true_iff}
use Rattle.std.proofs.Math.Path.{refl}
use Rattle.std.proofs.Common.{sym, ap, ◌∙◌, arith, drop-cons, add-one}
use borrow.Author.Tests.{le-leb, lt-leb, leb-true, eqb-true, eqb-false, eq-eqb, ne_eqb, not-true}
use Rattle.bits.specs.Xor.{xor_of}
use Rattle.std.specs.Prelude.{Some, None, ok_or, Result, Ok, Err, IsErrAnd}
use Rattle.format.specs.declared.Reason.{Reason}
use Rattle.format.specs.Refusals.{number}
use Rattle.format.specs.Laws.Outcomes.{number_some}
use Rattle.format.specs.declared.Reason.TheVariants.{Range}
use Rattle.format.specs.Fmt.{Out, accepted, refused, or_bad, check}
use Rattle.format.specs.Message.{fault, between}
use Rattle.sentence.specs.Spelling.{all_digits, spelt, unhexed, closing_of}
use Rattle.sentence.specs.Pattern.{start_mark, inner_mark, same_bytes, address_good, address_part, inner_part, hex_part, summed, last_five, address_like, pattern_like, lead_of, around_so, around_of, told_around}
use Rattle.sentence.specs.Laws.Digits.{spelt_some}

-- ---- tests

pub same_true : (s t : List ℕ) → same_bytes s t ≡ true → s ≡ t
unfolding same_bytes
same_true [] [] e = refl
same_true [] (d ∷ t) e = absurd (false≢true e)
same_true (c ∷ s) [] e = absurd (false≢true e)
same_true (c ∷ s) (d ∷ t) e =
    let x = (and-eq-true_iff (eqb c d) (same_bytes s t)).0 e in
    let p = eqb-true c d x.0 in
    let q = same_true s t x.1 in
    cc

pub same_refl : (s : List ℕ) → same_bytes s s ≡ true
unfolding same_bytes
same_refl [] = refl
same_refl (c ∷ s) = rw (eq-eqb c c refl) (same_refl s)

-- the ways out of the first tests
module _ (s : List ℕ) where
  pub lead_short : length s < 54 → lead_of s ≡ 1
  unfolding lead_of
  lead_short h = rw (lt-leb 54 (length s) h) refl

  pub lead_long : 60 < length s → lead_of s ≡ 1
  unfolding lead_of
  lead_long h = rw (lt-leb (length s) 60 h, and-false (leb 54 (length s))) refl

  module _ (l : 54 ≤ length s) (m : length s ≤ 60) where
    pub lead_start : same_bytes (take 7 s) start_mark ≡ false → lead_of s ≡ 2
    unfolding lead_of
    lead_start e = rw (le-leb 54 (length s) l, le-leb (length s) 60 m, e) refl

    pub lead_sum : same_bytes (take 7 s) start_mark ≡ true → {z : Bool} → same_bytes (last_five s) (closing_of (xor_of (summed s))) ≡ z → lead_of s ≡ cond z 0 3
    unfolding lead_of
    lead_sum e f = rw (le-leb 54 (length s) l, le-leb (length s) 60 m, e, f) refl

-- what the first tests show where they pass
pub record Led (s : List ℕ) : Type 0 where
  pub least : 54 ≤ length s
  pub most : length s ≤ 60
  pub starts : take 7 s ≡ start_mark
  pub ends : last_five s ≡ closing_of (xor_of (summed s))

pub led : (s : List ℕ) → lead_of s ≡ 0 → Led s
unfolding lead_of
led s = go (between 54 60 (length s)) refl (same_bytes (take 7 s) start_mark) refl (same_bytes (last_five s) (closing_of (xor_of (summed s)))) refl
  where
    go : (x : Bool) → between 54 60 (length s) ≡ x → (y : Bool) → same_bytes (take 7 s) start_mark ≡ y
        → (z : Bool) → same_bytes (last_five s) (closing_of (xor_of (summed s))) ≡ z → ◌≡◌ {A = ℕ} (cond x (cond y (cond z 0 3) 2) 1) 0 → Led s
    go true d true e true f h =
        let w = (and-eq-true_iff (leb 54 (length s)) (leb (length s) 60)).0 d in
        record {
          least = leb-true 54 (length s) w.0;
          most = leb-true (length s) 60 w.1;
          starts = same_true (take 7 s) start_mark e;
          ends = same_true (last_five s) (closing_of (xor_of (summed s))) f;
        }
    go true d true e false f h = absurd (omega arith)
    go true d false e z f h = absurd (omega arith)
    go false d y e z f h = absurd (omega arith)

pub leads : (s : List ℕ) → Led s → lead_of s ≡ 0
unfolding lead_of
leads s l =
    let x : same_bytes (take 7 s) start_mark ≡ true = ap (λ t. same_bytes t start_mark) l.starts ∙ same_refl start_mark in
    let t = closing_of (xor_of (summed s)) in
    let y : same_bytes (last_five s) t ≡ true = ap (λ u. same_bytes u t) l.ends ∙ same_refl t in
    rw (le-leb 54 (length s) l.least, le-leb (length s) 60 l.most, x, y) refl

pub around_led : (s : List ℕ) (code : ℕ) → code ≡ lead_of s → (code ≡ 0 → ⊥) → around_so s ≡ refused code 0
unfolding around_so
around_led s code e h = rw (← e) (go code h _)
  where
    go : (c : ℕ) → (c ≡ 0 → ⊥) → (o : Out (ℕ × List ℕ)) → check (fault c) 0 o ≡ refused c 0
    go zero h o = absurd (h refl)
    go (suc c) h o = refl

pub around_exit : (s : List ℕ) (x : Result ℕ Reason) (r : Reason) → IsErrAnd x (λ g. g ≡ r) → number r ≡ lead_of s → told_around x ≡ around_of (around_so s)
around_exit s (Ok a) r h e = absurd h
around_exit s (Err g) r h e = ap (λ g. refused (number g) 0) h ∙ sym (ap around_of (around_led s (number r) e (number_some r)))

-- a refusal of the sentence itself has no bit
pub around_bare : (s : List ℕ) (c p : ℕ) → around_so s ≡ refused c p → p ≡ 0
unfolding around_so
around_bare s c p e = go (lead_of s) (pattern_like s) e
  where
    go : (d : ℕ) (y : Bool)
        → ◌≡◌ {A = Out (ℕ × List ℕ)} (check (fault d) 0 (check (or_bad y 4) 0 (accepted (spelt 0 (address_part s), unhexed (hex_part s))))) (refused c p) → p ≡ 0
    go zero true e = let z : ◌≡◌ {A = ℕ} 0 1 = cc in absurd (omega arith)
    go zero false e = cc
    go (suc d) y e = cc

pub around_unlike : (s : List ℕ) → lead_of s ≡ 0 → pattern_like s ≡ false → around_so s ≡ refused 4 0
unfolding around_so
around_unlike s e h = rw (e, h) refl

pub around_like : (s : List ℕ) → lead_of s ≡ 0 → pattern_like s ≡ true → around_so s ≡ accepted (spelt 0 (address_part s), unhexed (hex_part s))
unfolding around_so
around_like s e h = rw (e, h) refl

-- an accepted sentence passed every test
pub record Passed (s : List ℕ) (x : ℕ × List ℕ) : Type 0 where
  pub first : lead_of s ≡ 0
  pub like : pattern_like s ≡ true
  pub inside : x ≡ (spelt 0 (address_part s), unhexed (hex_part s))

pub passed : (s : List ℕ) (x : ℕ × List ℕ) → around_so s ≡ accepted x → Passed s x
unfolding around_so
passed s x e = go (lead_of s) refl (pattern_like s) refl e
  where
    go : (c : ℕ) → lead_of s ≡ c → (y : Bool) → pattern_like s ≡ y
        → check (fault c) 0 (check (or_bad y 4) 0 (accepted (spelt 0 (address_part s), unhexed (hex_part s)))) ≡ accepted x → Passed s x
    go zero f true g e = record { first = f; like = g; inside = cc }
    go zero f false g e = let z : ◌≡◌ {A = ℕ} 0 1 = cc in absurd (omega arith)
    go (suc c) f y g e = let z : ◌≡◌ {A = ℕ} 0 1 = cc in absurd (omega arith)

pub never_around : (s : List ℕ) (p : ℕ) → around_so s ≡ refused 0 p → ⊥
unfolding around_so
never_around s p e = go (lead_of s) (pattern_like s) e
  where
    go : (c : ℕ) (y : Bool)
        → ◌≡◌ {A = Out (ℕ × List ℕ)} (check (fault c) 0 (check (or_bad y 4) 0 (accepted (spelt 0 (address_part s), unhexed (hex_part s))))) (refused 0 p) → ⊥
    go zero true e = let z : ◌≡◌ {A = ℕ} 0 1 = cc in omega arith
    go zero false e = let z : ◌≡◌ {A = ℕ} 4 0 = cc in omega arith
    go (suc c) y e = let z : suc c ≡ 0 = cc in omega arith

pub pattern_both : (s : List ℕ) → pattern_like s ≡ true → (same_bytes (inner_part s) inner_mark ≡ true) × (all_digits 16 (hex_part s) ≡ true) × (address_like (address_part s) ≡ true)
unfolding pattern_like
pattern_both s e =
    let y = (and-eq-true_iff (same_bytes (inner_part s) inner_mark) (all_digits 16 (hex_part s) && address_like (address_part s))).0 e in
    let z = (and-eq-true_iff (all_digits 16 (hex_part s)) (address_like (address_part s))).0 y.1 in
    (y.0, z.0, z.1)

-- ---- the address

pub record Addressed (ds : List ℕ) : Type 0 where
  pub figures : all_digits 10 ds ≡ true
  pub leading : get_or ds 0 0 ≡ 48 → ⊥
  pub least : 1 ≤ spelt 0 ds
  pub most : spelt 0 ds ≤ 2_097_151

pub addressed : (ds : List ℕ) → address_like ds ≡ true → Addressed ds
unfolding address_like
addressed ds e =
    let n = spelt 0 ds in
    let x = (and-eq-true_iff (all_digits 10 ds) (not (eqb (get_or ds 0 0) 48) && address_good n)).0 e in
    let y = (and-eq-true_iff (not (eqb (get_or ds 0 0) 48)) (address_good n)).0 x.1 in
    let z = (and-eq-true_iff (leb 1 n) (leb n 2_097_151)).0 y.1 in
    record {
      figures = x.0;
      leading = eqb-false (get_or ds 0 0) 48 (not-true (eqb (get_or ds 0 0) 48) y.0);
      least = leb-true 1 n z.0;
      most = leb-true n 2_097_151 z.1;
    }

pub addresses : (ds : List ℕ) → Addressed ds → address_like ds ≡ true
unfolding address_like
addresses ds a =
    rw (a.figures, ne_eqb (get_or ds 0 0) 48 a.leading, le-leb 1 (spelt 0 ds) a.least, le-leb (spelt 0 ds) 2_097_151 a.most) refl

-- the ways out of the code's tests of an address
module _ (ds : List ℕ) where
  pub address_zero : get_or ds 0 0 ≡ 48 → address_like ds ≡ false
  unfolding address_like
  address_zero e = rw (eq-eqb (get_or ds 0 0) 48 e, and-false (all_digits 10 ds)) refl

  pub address_other : all_digits 10 ds ≡ false → address_like ds ≡ false
  unfolding address_like
  address_other e = rw e refl

  pub address_digits : 0 < length ds → (get_or ds 0 0 ≡ 48 → ⊥) → all_digits 10 ds ≡ true → address_like ds ≡ leb (spelt 0 ds) 2_097_151
  unfolding address_like
  address_digits l z e = rw (e, ne_eqb (get_or ds 0 0) 48 z, le-leb 1 (spelt 0 ds) (spelt_some ds l e z)) refl

-- where a number is 0 for none: 0 is no address
pub address_none : (ds : List ℕ) (n : ℕ) → n ≡ cond (address_like ds) (spelt 0 ds) 0 → n ≡ 0 → address_like ds ≡ false
address_none ds n e z = go (address_like ds) refl e
  where
    go : (x : Bool) → address_like ds ≡ x → n ≡ cond x (spelt 0 ds) 0 → address_like ds ≡ false
    go false f e = f
    go true f e = absurd (omega (arith, (addressed ds f).least))

pub address_some : (ds : List ℕ) (n : ℕ) → n ≡ cond (address_like ds) (spelt 0 ds) 0 → (n ≡ 0 → ⊥) → (address_like ds ≡ true) × (n ≡ spelt 0 ds)
address_some ds n e z = go (address_like ds) refl e
  where
    go : (x : Bool) → address_like ds ≡ x → n ≡ cond x (spelt 0 ds) 0 → (address_like ds ≡ true) × (n ≡ spelt 0 ds)
    go false f e = absurd (z e)
    go true f e = (f, e)

pub pattern_is : (s : List ℕ) {x y z : Bool} → same_bytes (inner_part s) inner_mark ≡ x → all_digits 16 (hex_part s) ≡ y → address_like (address_part s) ≡ z
    → pattern_like s ≡ x && (y && z)
unfolding pattern_like
pattern_is s e f g = rw (e, f, g) refl

-- behind all other tests the address decides
pub around_ends : (s : List ℕ) → lead_of s ≡ 0 → same_bytes (inner_part s) inner_mark ≡ true → all_digits 16 (hex_part s) ≡ true
    → told_around (ok_or (cond (address_like (address_part s)) (Some (spelt 0 (address_part s))) None) Range) ≡ around_of (around_so s)
around_ends s e f g = go (address_like (address_part s)) refl
  where
    go : (x : Bool) → address_like (address_part s) ≡ x → told_around (ok_or (cond x (Some (spelt 0 (address_part s))) None) Range) ≡ around_of (around_so s)
    go true d = sym (ap around_of (around_like s e (pattern_is s f g d)))
    go false d = sym (ap around_of (around_unlike s e (pattern_is s f g d)))

-- ---- the loop of the comparison

pub same_turn : (s t : List ℕ) (i : ℕ) → i < length s → i < length t
    → same_bytes (drop i s) (drop i t) ≡ eqb (get_or s i 0) (get_or t i 0) && same_bytes (drop (i + 1) s) (drop (i + 1) t)
unfolding same_bytes
same_turn s t i h k = rw (add-one i, drop-cons s i 0 h, drop-cons t i 0 k)

pub same_long : (s t : List ℕ) → (length s ≡ length t → ⊥) → same_bytes s t ≡ false
unfolding same_bytes
same_long [] [] h = absurd (h refl)
same_long [] (d ∷ t) h = refl
same_long (c ∷ s) [] h = refl
same_long (c ∷ s) (d ∷ t) h = rw (same_long s t (λ e. h (ap suc e)), and-false) refl
