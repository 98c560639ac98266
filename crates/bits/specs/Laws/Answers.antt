-- What the answers say, for callers: two that a promise allows are equal; `within` as an inequality, both ways; what getting and putting answer where all fits. Assumes nothing.
use Rattle.std.specs.Prelude.{Bool, true, cond, List, ◌≡◌, ℕ, ◌+◌, ◌*◌, ◌^◌, ◌≤◌, ◌<◌, leb, length}
use Rattle.std.proofs.Math.Bool.{and-eq-true_iff}
use Rattle.std.proofs.Common.{sym, ap, ◌∙◌, leb-true, le-leb, lt-ltb}
use Rattle.bits.specs.Bits.{field_at, put_at}
use Rattle.bits.specs.Answers.{within, got, puttable}

-- a promise that has an equation for the answer, and one for what is left, by the answer or not, allows one of each
pub one_answer : {A B : Type 0} (left : A → B) {x a b : A} {t u : B} → (a ≡ x) × (t ≡ left a) → (b ≡ x) × (u ≡ left b) → (a ≡ b) × (t ≡ u)
one_answer left p q = let e = p.0 ∙ sym q.0 in (e, p.1 ∙ ap left e ∙ sym q.1)

module _ (n at w : ℕ) where
  pub within_true : within n at w ≡ true → (w ≤ 32) × (at + w ≤ n * 8)
  within_true h =
      let (a, b) = (and-eq-true_iff (leb w 32) (leb (at + w) (n * 8))).0 h in
      (leb-true w 32 a, leb-true (at + w) (n * 8) b)

  pub within_fits : w ≤ 32 → at + w ≤ n * 8 → within n at w ≡ true
  within_fits h f = rw (le-leb w 32 h, le-leb (at + w) (n * 8) f)

module _ (s : List ℕ) (at w : ℕ) where
  pub got_fits : w ≤ 32 → at + w ≤ length s * 8 → got s at w ≡ field_at s at w
  got_fits h f = rw (within_fits (length s) at w h f)

  pub puttable_fits : (v : ℕ) → w ≤ 32 → at + w ≤ length s * 8 → v < 2 ^ w → puttable s at w v ≡ true
  puttable_fits v h f l = rw (within_fits (length s) at w h f) (lt-ltb v (2 ^ w) l)

  -- what a call of `put` with the result r, that left t, has done where all fits
  pub put_done : (v : ℕ) (r : Bool) (t : List ℕ) → (r ≡ puttable s at w v) × (t ≡ cond r (put_at s at w v) s)
      → w ≤ 32 → at + w ≤ length s * 8 → v < 2 ^ w → (r ≡ true) × (t ≡ put_at s at w v)
  put_done v r t p h f l =
      let yes : r ≡ true = p.0 ∙ puttable_fits v h f l in
      (yes, p.1 ∙ rw yes)
