-- Counted groups, once for every layout: what holds of an item holds of it repeated. Assumes nothing.
use Rattle.std.specs.Prelude.{ℕ, zero, suc, ◌+◌, ◌*◌, ◌≤◌, ◌≡◌, refl, Bool, List, [], ◌∷◌, ◌++◌, length, take, drop, get_or}
use Rattle.std.proofs.Common.{sym, ap, ap₂, ◌∙◌, subst, append_assoc, append-nil, arith, length-drop, length-append, drop-drop, drop_at, take-add, take_at, take_all}
use Rattle.format.specs.Fmt.{Judge, Fmt, field, choice}
use Rattle.format.specs.Words.{Test, free, only, num, deciding}
use Rattle.format.specs.Laws.Past.{Past, Filled, past_then}
use Rattle.format.specs.Laws.Zero.{Numbered, Judged, only_numbered}
use Rattle.format.specs.Groups.{repeat, Measure, then_of, decided_of, repeat_of, Telling, one_told, then_told, decided_told, repeat_told}

-- A stretch of fields, none of them a count of bytes, which a row of numbers tells.
pub record Item (item : Fmt → Fmt) (tell : Telling) (long : Measure) : Type 0 where
  -- its judges refuse by numbers of the paper
  pub judged : (f : Fmt) → Judged f → Judged (item f)
  -- past its numbers stands what follows
  pub past : (row : List ℕ) (f : Fmt) → Past (item f) (tell row) f
  -- what has as many values as fields begins with its numbers
  pub filled : (us : List ℕ) (f : Fmt) → Filled (item f) us → (long us ≤ length us) × Filled f (drop (long us) us)
  -- how many they are
  pub many : (row : List ℕ) → length (tell row) ≡ long row
  -- they are the row's, where it has so many
  pub fits : (row : List ℕ) → long row ≤ length row → tell row ≡ take (long row) row
  -- how many they are is told by these alone, whatever follows
  pub again : (row vs : List ℕ) → long (tell row ++ vs) ≡ long row

-- nothing
nothing : Item (λ f. f) (λ row. []) (λ row. 0)
nothing = record {
  judged = λ f j. j;
  past = λ row f. refl;
  filled = λ us f x. (omega arith, x);
  many = λ row. refl;
  fits = λ row l. refl;
  again = λ row vs. refl;
}

-- one field
pub one : (g w : ℕ) (j : Judge) (m : List ℕ → Bool) → Numbered j → Item (field w j m) (one_told g) (λ row. 1)
one g w j m n = record {
  judged = λ f k. (n, k);
  past = λ row f. refl;
  filled = fills;
  many = λ row. refl;
  fits = there;
  again = λ row vs. refl;
}
  where
    fills : (us : List ℕ) (f : Fmt) → Filled (field w j m f) us → (1 ≤ length us) × Filled f (drop 1 us)
    fills [] f x = absurd x
    fills (u ∷ us) f x = (omega arith, x)

    there : (row : List ℕ) → 1 ≤ length row → one_told g row ≡ take 1 row
    there [] l = absurd (omega arith)
    there (x ∷ row) l = refl

-- a number
pub a_number : (g w : ℕ) (t : Test) → Item (num w t) (one_told g) (λ row. 1)
a_number g w t = one g w (only w 4 t) free (only_numbered w 3 t)

-- one behind the other
module _ {a b : Fmt → Fmt} {ta tb : Telling} {la lb : Measure} (x : Item a ta la) (y : Item b tb lb) where
  abbrev tells : Telling
  tells = then_told la ta tb

  abbrev both : Measure
  both = then_of la lb

  both_again : (row vs : List ℕ) → both (tells row ++ vs) ≡ both row
  both_again row vs =
      let n = la row in
      let us = tb (drop n row) ++ vs in
      let e : tells row ++ vs ≡ ta row ++ us = append_assoc (ta row) (tb (drop n row)) vs in
      let k : la (ta row ++ us) ≡ n = x.again row us in
      ap both e ∙ ap₂ ◌+◌ k (ap (λ k. lb (drop k (ta row ++ us))) k ∙ ap lb (drop_at (ta row) us n (x.many row)) ∙ y.again (drop n row) vs)

  pub next : Item (λ f. a (b f)) tells both
  next = record {
    judged = λ f j. x.judged (b f) (y.judged f j);
    past = λ row f. past_then (a (b f)) (b f) f (ta row) (tb (drop (la row) row)) (x.past row (b f)) (y.past (drop (la row) row) f);
    filled = λ us f z.
        let (l, z) = x.filled us (b f) z in
        let (m, z) = y.filled (drop (la us) us) f z in
        (omega (arith, l, m, length-drop (la us) us), subst (Filled f) (drop-drop (lb (drop (la us) us)) (la us) us) z);
    many = λ row. length-append (ta row) (tb (drop (la row) row)) ∙ ap₂ ◌+◌ (x.many row) (y.many (drop (la row) row));
    fits = λ row l. let n = la row in ap₂ ◌++◌ (x.fits row (omega arith)) (y.fits (drop n row) (omega (arith, length-drop n row))) ∙ sym (take-add n (lb (drop n row)) row);
    again = both_again;
  }

-- what a number decides; g counts for it where a row has none
module _ (g w : ℕ) (j : Judge) (n : Numbered j) {a : ℕ → Fmt → Fmt} {ta : ℕ → Telling} {la : ℕ → Measure} (x : (v : ℕ) → Item (a v) (ta v) (la v)) where
  abbrev deep : Measure
  deep = decided_of g la

  decided_filled : (us : List ℕ) (f : Fmt) → Filled (choice w j λ v. a v f) us → (deep us ≤ length us) × Filled f (drop (deep us) us)
  decided_filled [] f z = absurd z
  decided_filled (u ∷ us) f z =
      let (l, z) = (x u).filled us f z in
      let e : suc (la u us) ≡ 1 + la u us = omega arith in
      (omega (arith, l), subst (λ k. Filled f (drop k (u ∷ us))) e z)

  decided_fits : (row : List ℕ) → deep row ≤ length row → decided_told g ta row ≡ take (deep row) row
  decided_fits [] l = absurd (omega arith)
  decided_fits (v ∷ row) l =
      let e : suc (la v row) ≡ 1 + la v row = omega arith in
      ap (v ∷◌) ((x v).fits row (omega arith)) ∙ ap (λ k. take k (v ∷ row)) e

  pub decided : Item (λ f. choice w j λ v. a v f) (decided_told g ta) deep
  decided = record {
    judged = λ f k. (n, λ v. (x v).judged f k);
    past = λ row f. (x (get_or row 0 g)).past (drop 1 row) f;
    filled = decided_filled;
    many = λ row. let v = get_or row 0 g in omega (arith, (x v).many (drop 1 row));
    fits = decided_fits;
    again = λ row vs. ap (1 +◌) ((x (get_or row 0 g)).again (drop 1 row) vs);
  }

-- repeated
pub repeated : {item : Fmt → Fmt} {tell : Telling} {long : Measure} → Item item tell long → (n : ℕ) → Item (repeat n item) (repeat_told long n tell) (repeat_of long n long)
unfolding repeat repeat_told repeat_of
repeated x zero = nothing
repeated x (suc n) = next x (repeated x n)

-- items of one size
pub even : (l a n : ℕ) (row : List ℕ) → repeat_of (λ r. l) n (λ r. a) row ≡ n * a
unfolding repeat_of
even l a zero row = omega arith
even l a (suc n) row = omega (arith, even l a n (drop l row))

pub a_decider : (g w : ℕ) (t : Test) {a : ℕ → Fmt → Fmt} {ta : ℕ → Telling} {la : ℕ → Measure} → ((v : ℕ) → Item (a v) (ta v) (la v)) → Item (λ f. deciding w t λ v. a v f) (decided_told g ta) (decided_of g la)
a_decider g w t x = decided g w (only w 4 t) (only_numbered w 3 t) x

-- as many of what n items tell as of each together
pub told_long : {A : Type 0} (long : Measure) (n : ℕ) (f : List ℕ → List A) (row : List ℕ) → length (repeat_told long n f row) ≡ repeat_of long n (λ r. length (f r)) row
unfolding repeat_told repeat_of
told_long long zero f row = refl
told_long long (suc n) f row = let rest = drop (long row) row in length-append (f row) (repeat_told long n f rest) ∙ ap (length (f row) +◌) (told_long long n f rest)

-- ---- a row of an item's numbers

module _ {item : Fmt → Fmt} {tell : Telling} {long : Measure} (x : Item item tell long) where
  pub told_again : (row vs : List ℕ) → tell (tell row ++ vs) ≡ tell row
  told_again row vs =
      let n = long row in
      let us = tell row ++ vs in
      x.fits us (omega (arith, x.again row vs, length-append (tell row) vs, x.many row)) ∙ ap (λ k. take k us) (x.again row vs) ∙ take_at (tell row) vs n (x.many row)

  -- a row of these and no others
  pub told_exact : (row : List ℕ) → long row ≡ length row → tell row ≡ row
  told_exact row e = x.fits row (omega (arith, e)) ∙ take_all (long row) row (omega (arith, e))

  pub exact_more : (row us : List ℕ) → long row ≡ length row → long (row ++ us) ≡ length row
  exact_more row us e = ap (λ l. long (l ++ us)) (sym (told_exact row e)) ∙ x.again row us ∙ e

  pub exact_told : (row : List ℕ) → long (tell row) ≡ length (tell row)
  exact_told row = ap long (sym (append-nil (tell row))) ∙ x.again row [] ∙ sym (x.many row)
