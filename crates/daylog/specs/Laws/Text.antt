-- Decimal digits by the last one, how long a line can be, and text stored part by part. Assumes nothing.
use Rattle.std.specs.Prelude.{◌≡◌, ℕ, zero, suc, ◌+◌, ◌/◌, ◌%◌, ◌^◌, ◌<◌, ◌≤◌, Bool, true, false, ◌⊎◌, List, [], ◌∷◌, ◌++◌, length, drop, nat_lt, slice_index, slice_set, refl}
use Rattle.std.proofs.Common.{sym, ap, ◌∙◌, inl, inr, ⊎_elim, pow-suc, add-one, arith, length-append, drop_of_length-le, drop-cons, lt-ltb, le-ltb, ltb-true, ltb-false}
use Rattle.std.proofs.lemmas.List.Edits.{sets}
use Rattle.std.proofs.lemmas.List.{set_comm}
use Rattle.format.specs.Refusals.{Verdict}
use Rattle.daylog.specs.LinesText.{digits_by, decimal, line}

either : (n m : ℕ) → (n < m) ⊎ (m ≤ n)
either n m = go (nat_lt n m) refl
  where
    go : (b : Bool) → nat_lt n m ≡ b → (n < m) ⊎ (m ≤ n)
    go true e = inl (ltb-true n m e)
    go false e = inr (ltb-false n m e)

-- ---- decimal digits

-- more than n digits are enough
enough : (f g n : ℕ) → n < f → n < g → digits_by f n ≡ digits_by g n
unfolding digits_by
enough zero g n h k = absurd (omega arith)
enough (suc f) zero n h k = absurd (omega arith)
enough (suc f) (suc g) n h k =
    ⊎_elim
    (λ (l : n < 10). rw (lt-ltb n 10 l))
    (λ (l : 10 ≤ n). rw (le-ltb n 10 l, enough f g (n / 10) (omega arith) (omega arith)))
    (either n 10)

pub decimal_small : (n : ℕ) → n < 10 → decimal n ≡ (48 + n % 10) ∷ []
unfolding decimal digits_by
decimal_small n h = rw (add-one, lt-ltb n 10 h)

pub decimal_more : (n : ℕ) → 10 ≤ n → decimal n ≡ decimal (n / 10) ++ ((48 + n % 10) ∷ [])
unfolding decimal digits_by
decimal_more n h = rw (add-one n, le-ltb n 10 h, enough n (n / 10 + 1) (n / 10) (omega arith) (omega arith))

pub digits_small : (n : ℕ) → n < 10 → length (decimal n) ≡ 1
digits_small n h = ap length (decimal_small n h)

pub digits_more : (n : ℕ) → 10 ≤ n → length (decimal n) ≡ length (decimal (n / 10)) + 1
digits_more n h = ap length (decimal_more n h) ∙ length-append (decimal (n / 10)) ((48 + n % 10) ∷ [])

pub digits_some : (n : ℕ) → 1 ≤ length (decimal n)
digits_some n = ⊎_elim (λ (l : n < 10). omega (arith, digits_small n l)) (λ (l : 10 ≤ n). omega (arith, digits_more n l)) (either n 10)

-- a number below 10 ^ (k + 1) has at most k + 1 digits
pub digits_few : (k n : ℕ) → n < 10 ^ suc k → length (decimal n) ≤ suc k
digits_few zero n h = omega (arith, digits_small n h)
digits_few (suc k) n h =
    ⊎_elim
    (λ (l : n < 10). omega (arith, digits_small n l))
    (λ (l : 10 ≤ n). omega (arith, digits_more n l, digits_few k (n / 10) (omega (arith, h, pow-suc 10 (suc k)))))
    (either n 10)

-- ---- lines

pub line_length : (n : ℕ) (word : List ℕ) (refusal : Verdict) (bytes : ℕ)
    → length (line n word refusal bytes)
    ≡ length (decimal n) + length word + length (decimal refusal.code) + length (decimal bytes) + length (decimal refusal.bit) + 5
unfolding line
line_length n word refusal bytes = simp length-append (omega arith)

pub line_some : (n : ℕ) (word : List ℕ) (refusal : Verdict) (bytes : ℕ) → 1 ≤ length (line n word refusal bytes)
line_some n word refusal bytes = omega (arith, line_length n word refusal bytes)

pub line_most : (n : ℕ) (word : List ℕ) (refusal : Verdict) (bytes : ℕ) → n < 2 ^ 64 → refusal.code < 256 → refusal.bit < 2 ^ 64 → bytes < 2 ^ 64
    → length (line n word refusal bytes) ≤ length word + 68
line_most n word refusal bytes a c b d =
    omega (arith, line_length n word refusal bytes, digits_few 19 n (omega arith), digits_few 2 refusal.code (omega arith), digits_few 19 refusal.bit (omega arith), digits_few 19 bytes (omega arith))

-- ---- text stored part by part

pub sets_append : (l : List ℕ) (i : ℕ) (xs ys : List ℕ) → sets l i (xs ++ ys) ≡ sets (sets l i xs) (i + length xs) ys
sets_append l i [] ys = ap (λ j. sets l j ys) (omega arith)
sets_append l i (x ∷ xs) ys = sets_append (slice_set l i x) (suc i) xs ys ∙ ap (λ j. sets (sets (slice_set l i x) (suc i) xs) j ys) (omega arith)

-- a store past the text may come first
pub sets_set : (l : List ℕ) (i : ℕ) (xs : List ℕ) (j x : ℕ) → i + length xs ≤ j → sets (slice_set l j x) i xs ≡ slice_set (sets l i xs) j x
sets_set l i [] j x h = refl
sets_set l i (y ∷ xs) j x h = ap (λ m. sets m (suc i) xs) (set_comm l j i x y (λ e. omega arith)) ∙ sets_set (slice_set l i y) (suc i) xs j x (omega arith)

-- the last byte first, then the others
pub sets_last : (l : List ℕ) (i : ℕ) (xs : List ℕ) (x : ℕ) → sets l i (xs ++ (x ∷ [])) ≡ sets (slice_set l (i + length xs) x) i xs
sets_last l i xs x = sets_append l i xs (x ∷ []) ∙ sym (sets_set l i xs (i + length xs) x (omega arith))

-- a loop that stores a text byte by byte: at its start, at each turn and at its end, what is left to store is the text past i
pub sets_start : (l : List ℕ) (at : ℕ) (xs : List ℕ) → sets l (at + 0) xs ≡ sets l at xs
sets_start l at xs = ap (λ j. sets l j xs) (omega arith)

pub sets_turn : (l : List ℕ) (at i : ℕ) (xs : List ℕ) → i < length xs → sets (slice_set l (at + i) (slice_index xs i)) (at + (i + 1)) (drop (i + 1) xs) ≡ sets l (at + i) (drop i xs)
sets_turn l at i xs h =
    let e : at + (i + 1) ≡ suc (at + i) = omega arith in
    rw (e, add-one i, drop-cons xs i 0 h)

pub sets_end : (l : List ℕ) (at i : ℕ) (xs : List ℕ) → length xs ≤ i → l ≡ sets l (at + i) (drop i xs)
sets_end l at i xs h = rw (drop_of_length-le xs {i = i} h)

-- a loop that stores a number's digits, the last one first
module _ (l : List ℕ) (at last n d : ℕ) (e : d ≡ 48 + n % 10) (k : last + 1 ≡ at + length (decimal n)) where
  pub decimal_turn : 10 ≤ n → sets (slice_set l last d) at (decimal (n / 10)) ≡ sets l at (decimal n)
  decimal_turn h =
      let j : last ≡ at + length (decimal (n / 10)) = omega (arith, digits_more n h) in
      rw (decimal_more n h, sets_last l at (decimal (n / 10)) (48 + n % 10), e, j)

  pub decimal_end : n < 10 → slice_set l last d ≡ sets l at (decimal n)
  decimal_end h =
      let j : last ≡ at = omega (arith, digits_small n h) in
      rw (decimal_small n h, e, j)
