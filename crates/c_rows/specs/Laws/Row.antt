-- The three ways in which a reading answers in a row, each from the definition by the answer's case; one store more; what the promise decides.
use Rattle.std.specs.Prelude.{ℕ, ◌+◌, ◌≤◌, ◌<◌, ◌≡◌, refl, List, ◌++◌, ℤ, pos, length, take, drop, get_or, set}
use Rattle.std.proofs.Common.{sym, ap, ◌∙◌, subst, zero-add, add-one, arith, length-set, le-leb}
use Rattle.std.proofs.Math.Path.{subst⁻¹}
use Rattle.std.proofs.Math.Seq.{take-length, paste-suc}
use Rattle.std.proofs.lemmas.Bool.{lt-leb}
use Rattle.format.specs.Fmt.{Out, accepted, refused, also}
use Rattle.format.specs.Message.{told, into, leaves, refuses, accepts}
use Rattle.format.specs.Refusals.{shown, bare}
use Rattle.format.specs.Refusals.{Verdict}
use Rattle.format.specs.Promises.{answered, refused_by}
use Rattle.format.specs.Laws.Answers.{good_accepts, bad_refuses}
use Rattle.format.specs.Laws.Family.{refused_stands}
use Rattle.c_rows.specs.Row.{Fills}

-- what is answered in a row, said as numbers
fills : {o : Out (List ℤ)} {row : List ℤ} {c : Verdict} {t : List ℤ} → (c ≡ told (into row o)) × (t ≡ leaves (into row o) row) → Fills o row c t
fills (x, y) = record { code_is = x; row_is = y }

module _ {o : Out (List ℤ)} (row : List ℤ) where
  pub row_refused : {c p : ℕ} → o ≡ refused c p → Fills o row (shown c p) row
  row_refused {c} {p} e = fills (refuses {p = p} (ap (into row) e))

  pub row_short : {xs : List ℤ} → o ≡ accepted xs → length row < length xs → Fills o row (bare 6) row
  row_short {xs} e h = fills (refuses {p = 0} (ap (into row) e ∙ rw (lt-leb (length xs) (length row) h) refl))

  pub row_full : {xs : List ℤ} → o ≡ accepted xs → length xs ≤ length row → Fills o row (bare 0) (xs ++ drop (length xs) row)
  row_full {xs} e h = fills (accepts row (ap (into row) e ∙ rw (le-leb (length xs) (length row) h) refl))

-- ---- the loop that stores numbers

-- the first i of the numbers xs stand at the front of t, which was `row`
pub record Stored (row xs : List ℤ) (i : ℕ) (t : List ℤ) : Type 0 where
  pub within : i ≤ length xs
  pub long : length t ≡ length row
  pub stands : t ≡ take i xs ++ drop i row

module _ (row xs : List ℤ) where
  pub stored_none : Stored row xs 0 row
  stored_none = record { within = omega arith; long = refl; stands = refl }

  pub stored_more : {i : ℕ} {t : List ℤ} {x : ℤ} → Stored row xs i t → i < length xs → i < length row → x ≡ get_or xs i (pos 0) → Stored row xs (i + 1) (set t i x)
  stored_more {i} {t} {x} s h k e = record {
    within = omega arith;
    long = simp length-set s.long;
    stands = rw (e, s.stands, add-one i) (simp zero-add at (paste-suc row 0 xs i (pos 0) (omega arith) h));
  }

  pub stored_all : {i : ℕ} {t : List ℤ} → Stored row xs i t → i ≡ length xs → length xs ≤ length row → Fills (accepted xs) row (bare 0) t
  stored_all {i} {t} s e h =
      let full = row_full {o = accepted xs} row refl h in
      record { code_is = full.code_is; row_is = s.stands ∙ rw (e, take-length xs) full.row_is }

-- ---- what the promise decides

-- two answers that the promise allows are equal
pub one_filling : {o : Out (List ℤ)} {row : List ℤ} {c d : Verdict} {t u : List ℤ} → Fills o row c t → Fills o row d u → (c ≡ d) × (t ≡ u)
one_filling f g = (f.code_is ∙ sym g.code_is, f.row_is ∙ sym g.row_is)

-- a refusal leaves the row
pub refused_filling : {o : Out (List ℤ)} {row : List ℤ} {c : Verdict} {t : List ℤ} → Fills o row c t → (c.code ≡ 0 → ⊥) → t ≡ row
refused_filling {o} {row} {c} {t} f = refused_stands (into row o) row t c f.code_is f.row_is

-- ---- a family's reading, from its own type of answer

-- q is what an answer tells of a record r; the code makes `row_of q` of it, and `as_row` the entries of that
module _ {R Q A N : Type 0} (part : R → Q) (good : Q → A) (bad : Verdict → A) (out_of : A → Out Q) (of-good : (q : Q) → out_of (good q) ≡ accepted q) (of-bad : (c : Verdict) → out_of (bad c) ≡ refused_by c)
    (as_row : N → List ℤ) (row_of : Q → N) (o : Out R) (row : List ℤ) {a : A} (reads : a ≡ answered (λ r. good (part r)) bad o) where
  pub fills_good : {q : Q} {xs : N} {c : Verdict} {t : List ℤ} → a ≡ good q → xs ≡ row_of q → Fills (accepted (as_row xs)) row c t → Fills (also (λ r. as_row (row_of (part r))) o) row c t
  fills_good {q} {xs} {c} {t} e x f =
      let (r, is, k) = good_accepts good bad out_of of-good of-bad part o (sym e ∙ reads) in
      subst (λ o. Fills o row c t) (ap (λ x. accepted (as_row x)) (x ∙ ap row_of (sym k)) ∙ sym (ap (also (λ r. as_row (row_of (part r)))) is)) f

  pub fills_refused : {c : Verdict} → a ≡ bad c → Fills (also (λ r. as_row (row_of (part r))) o) row c row
  fills_refused {c} e =
      let (p, is, k) = bad_refuses good bad out_of of-good of-bad part o (sym e ∙ reads) in
      subst⁻¹ (λ c. Fills (also (λ r. as_row (row_of (part r))) o) row c row) k (row_refused row (ap (also (λ r. as_row (row_of (part r)))) is))
