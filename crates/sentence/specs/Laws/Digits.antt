-- One digit, and decimal numbers over every count of digits: spelt and read back, one way each. Assumes nothing.
use Rattle.std.specs.Prelude.{Bool, true, false, ◌&&◌, List, [], ◌∷◌, ◌++◌, ◌≡◌, refl, ℕ, zero, suc, ◌+◌, ◌*◌, ◌-◌, ◌/◌, ◌%◌, ◌^◌, ◌≤◌, ◌<◌, leb, ltb, length, take, drop, get_or, replicate}
use Rattle.std.proofs.Math.Bool.{and_assoc, and-eq-true_iff}
use Rattle.std.proofs.Common.{sym, ap, ◌∙◌, pow-suc, suc-add, arith, length-append, drop_at, take-suc, take_all, length-take-le, lt-ltb, le-ltb, le-leb, ltb-true, ltb-false, leb-true, ne_eqb}
use Rattle.std.proofs.lemmas.List.{length-replicate}
use Rattle.std.proofs.Math.ListN.{get_or-append}
use Rattle.std.proofs.lemmas.Bool.{lt-leb}
use Rattle.sentence.specs.Spelling.{figure_of, lower, digit_value, all_digits, decimal, Spells, spelt}

-- ---- one digit

pub figure_low : (ten n : ℕ) → n < 10 → figure_of ten n ≡ 48 + n
unfolding figure_of
figure_low ten n h = rw (lt-ltb n 10 h)

pub figure_high : (ten n : ℕ) → 10 ≤ n → figure_of ten n ≡ ten + (n - 10)
unfolding figure_of
figure_high ten n h = rw (le-ltb n 10 h)

pub value_low : (c : ℕ) → 48 ≤ c → c ≤ 57 → digit_value c ≡ c - 48
unfolding digit_value
value_low c l h = rw (le-leb 48 c l, le-leb c 57 h)

pub value_high : (c : ℕ) → 97 ≤ c → c ≤ 102 → digit_value c ≡ c - 87
unfolding digit_value
value_high c l h = rw (le-leb 48 c (omega arith), lt-leb c 57 (omega arith), le-leb 97 c l, le-leb c 102 h)

-- a digit has a letter's or a figure's offset, and another byte counts 16
pub data Digit (c : ℕ) : Type 0 where
  low : 48 ≤ c → c ≤ 57 → Digit c
  high : 97 ≤ c → c ≤ 102 → Digit c
  none : digit_value c ≡ 16 → Digit c

pub digit : (c : ℕ) → Digit c
unfolding digit_value
digit c = go (leb 48 c) refl (leb c 57) refl (leb 97 c) refl (leb c 102) refl
  where
    go : (w : Bool) → leb 48 c ≡ w → (x : Bool) → leb c 57 ≡ x → (y : Bool) → leb 97 c ≡ y → (z : Bool) → leb c 102 ≡ z → Digit c
    go true d true e y f z g = low (leb-true 48 c d) (leb-true c 57 e)
    go false d x e true f true g = high (leb-true 97 c f) (leb-true c 102 g)
    go true d false e true f true g = high (leb-true 97 c f) (leb-true c 102 g)
    go false d x e false f z g = none (rw (d, f) refl)
    go false d x e true f false g = none (rw (d, f, g) refl)
    go true d false e false f z g = none (rw (d, e, f) refl)
    go true d false e true f false g = none (rw (d, e, f, g) refl)

pub value_most : (c : ℕ) → digit_value c ≤ 16
value_most c = go (digit c)
  where
    go : Digit c → digit_value c ≤ 16
    go (low l h) = omega (arith, value_low c l h)
    go (high l h) = omega (arith, value_high c l h)
    go (none e) = omega arith

pub value_figure : (n : ℕ) → n < 16 → digit_value (lower n) ≡ n
value_figure n h = go (ltb n 10) refl
  where
    go : (x : Bool) → ltb n 10 ≡ x → digit_value (lower n) ≡ n
    go true e = let l = ltb-true n 10 e in rw (figure_low 97 n l, value_low (48 + n) (omega arith) (omega arith)) (omega arith)
    go false e = let l = ltb-false n 10 e in rw (figure_high 97 n l, value_high (97 + (n - 10)) (omega arith) (omega arith)) (omega arith)

pub figure_value : (c : ℕ) → digit_value c < 16 → lower (digit_value c) ≡ c
figure_value c h = go (digit c)
  where
    go : Digit c → lower (digit_value c) ≡ c
    go (low l m) = rw (value_low c l m, figure_low 97 (c - 48) (omega arith)) (omega arith)
    go (high l m) = rw (value_high c l m, figure_high 97 (c - 87) (omega arith)) (omega arith)
    go (none e) = absurd (omega arith)

-- ---- lists of digits

pub all_append : (base : ℕ) (s t : List ℕ) → all_digits base (s ++ t) ≡ all_digits base s && all_digits base t
unfolding all_digits
all_append base [] t = refl
all_append base (c ∷ s) t = rw (all_append base s t, and_assoc)

pub digit_at : (base : ℕ) (s : List ℕ) (i : ℕ) → all_digits base s ≡ true → i < length s → digit_value (get_or s i 0) < base
unfolding all_digits
digit_at base [] i e h = absurd (omega arith)
digit_at base (c ∷ s) zero e h = ltb-true (digit_value c) base ((and-eq-true_iff (ltb (digit_value c) base) (all_digits base s)).0 e).0
digit_at base (c ∷ s) (suc i) e h = digit_at base s i ((and-eq-true_iff (ltb (digit_value c) base) (all_digits base s)).0 e).1 (omega arith)

-- ---- decimal

pub spelt_nil : (n : ℕ) → spelt n [] ≡ n
unfolding spelt
spelt_nil n = refl

pub spelt_append : (n : ℕ) (s t : List ℕ) → spelt n (s ++ t) ≡ spelt (spelt n s) t
unfolding spelt
spelt_append n [] t = refl
spelt_append n (c ∷ s) t = spelt_append (n * 10 + digit_value c) s t

-- more digits never spell less
pub spelt_grows : (n : ℕ) (s : List ℕ) → n ≤ spelt n s
unfolding spelt
spelt_grows n [] = omega arith
spelt_grows n (c ∷ s) = omega (arith, spelt_grows (n * 10 + digit_value c) s)

decimal_zero : (n : ℕ) → decimal zero n ≡ []
unfolding decimal
decimal_zero n = refl

pub decimal_none : (k : ℕ) → decimal k 0 ≡ []
unfolding decimal
decimal_none zero = refl
decimal_none (suc k) = refl

pub decimal_next : (k n : ℕ) → 0 < n → decimal (suc k) n ≡ decimal k (n / 10) ++ (lower (n % 10) ∷ [])
unfolding decimal
decimal_next k n h = rw (ne_eqb n 0 (λ e. omega arith))

digit_small : (n : ℕ) → digit_value (lower (n % 10)) ≡ n % 10
digit_small n = value_figure (n % 10) (omega arith)

pub tenth_small : (k n : ℕ) → n < 10 ^ suc k → n / 10 < 10 ^ k
tenth_small k n h = omega (arith, pow-suc 10 k)

pub spelt_decimal : (k n : ℕ) → n < 10 ^ k → spelt 0 (decimal k n) ≡ n
unfolding spelt
spelt_decimal zero n h = let e : n ≡ 0 = omega arith in rw (e, decimal_none) refl
spelt_decimal (suc k) zero h = rw decimal_none refl
spelt_decimal (suc k) (suc n) h =
    let m = suc n in
    rw (decimal_next k m (omega arith), spelt_append 0 (decimal k (m / 10)) (lower (m % 10) ∷ []), spelt_decimal k (m / 10) (tenth_small k m h), digit_small m)
    (omega arith)

-- the head of a decimal is no zero
pub decimal_length : (k n : ℕ) → 0 < n → n < 10 ^ k → 0 < length (decimal k n)
decimal_length zero n s h = absurd (omega arith)
decimal_length (suc k) n s h =
    rw (decimal_next k n s, length-append (decimal k (n / 10)) (lower (n % 10) ∷ [])) (omega arith)

pub decimal_most : (k n : ℕ) → length (decimal k n) ≤ k
decimal_most zero n = rw decimal_zero (omega arith)
decimal_most (suc k) zero = rw decimal_none (omega arith)
decimal_most (suc k) (suc n) =
    rw (decimal_next k (suc n) (omega arith), length-append (decimal k (suc n / 10)) (lower (suc n % 10) ∷ [])) (omega (arith, decimal_most k (suc n / 10)))

pub decimal_head : (k n : ℕ) → 0 < n → n < 10 ^ k → get_or (decimal k n) 0 0 ≡ 48 → ⊥
decimal_head zero n s h e = omega arith
decimal_head (suc k) n s h e = go (n / 10) refl (λ p q f. decimal_head k (n / 10) p q f)
  where
    x : ℕ
    x = lower (n % 10)

    go : (m : ℕ) → n / 10 ≡ m → (0 < n / 10 → n / 10 < 10 ^ k → get_or (decimal k (n / 10)) 0 0 ≡ 48 → ⊥) → ⊥
    go zero q again =
        let d : decimal (suc k) n ≡ x ∷ [] = decimal_next k n s ∙ rw (q, decimal_none) refl in
        let f : x ≡ 48 = sym (ap (λ l. get_or l 0 0) d) ∙ e in
        omega (arith, f, figure_low 97 (n % 10) (omega arith))
    go (suc m) q again =
        let t = tenth_small k n h in
        let d = decimal_next k n s in
        let l = decimal_length k (n / 10) (omega arith) t in
        again (omega arith) t (sym (get_or-append (decimal k (n / 10)) (x ∷ []) 0 0 l) ∙ sym (ap (λ l. get_or l 0 0) d) ∙ e)

pub decimal_digits : (k n : ℕ) → all_digits 10 (decimal k n) ≡ true
unfolding all_digits
decimal_digits zero n = rw decimal_zero refl
decimal_digits (suc k) zero = rw decimal_none refl
decimal_digits (suc k) (suc n) =
    rw (decimal_next k (suc n) (omega arith), all_append 10 (decimal k (suc n / 10)) (lower (suc n % 10) ∷ []), decimal_digits k (suc n / 10), digit_small (suc n), lt-ltb (suc n % 10) 10 (omega arith))

-- more chars than a number has digits make no difference
pub decimal_wide : (j k n : ℕ) → n < 10 ^ k → decimal (k + j) n ≡ decimal k n
decimal_wide j zero n h = let e : n ≡ 0 = omega arith in rw (e, decimal_none, decimal_none)
decimal_wide j (suc k) zero h = rw (decimal_none, decimal_none)
decimal_wide j (suc k) (suc n) h =
    rw (suc-add k j, decimal_next (k + j) (suc n) (omega arith), decimal_next k (suc n) (omega arith), decimal_wide j k (suc n / 10) (tenth_small k (suc n) h))

-- where the digits stand among ten characters
module _ {n from : ℕ} {chars : List ℕ} (s : Spells n from chars) where
  pub spells_from : from + length (decimal 10 n) ≡ 10
  spells_from = omega (arith, s.long, ap length s.figures, length-append (replicate from 0) (decimal 10 n), length-replicate {A = ℕ} from 0)

  pub spells_digits : drop from chars ≡ decimal 10 n
  spells_digits = ap (drop from) s.figures ∙ drop_at (replicate from 0) (decimal 10 n) from (length-replicate from 0)

-- what digits with no zero in front spell is at least 1
pub spelt_some : (s : List ℕ) → 0 < length s → all_digits 10 s ≡ true → (get_or s 0 0 ≡ 48 → ⊥) → 0 < spelt 0 s
unfolding spelt
spelt_some [] l a z = absurd (omega arith)
spelt_some (c ∷ s) l a z =
    let v = digit_at 10 (c ∷ s) 0 a (omega arith) in
    let g = spelt_grows (0 * 10 + digit_value c) s in
    let p : digit_value c ≡ 0 → ⊥ = λ e. z (sym (figure_value c (omega arith)) ∙ ap lower e ∙ figure_low 97 0 (omega arith)) in
    omega (arith, g, p)

spelt_one : (n c : ℕ) → spelt n (c ∷ []) ≡ n * 10 + digit_value c
unfolding spelt
spelt_one n c = refl

head_of : {c : ℕ} (t : List ℕ) (d : ℕ) (i : List ℕ) → take (length t) (c ∷ t) ≡ d ∷ i → c ≡ d
head_of [] d i e = let z : ◌≡◌ {A = ℕ} 0 1 = cc in absurd (omega arith)
head_of (x ∷ t) d i e = cc

pub decimal_spelt : (k : ℕ) (s : List ℕ) → length s ≤ k → all_digits 10 s ≡ true → (get_or s 0 0 ≡ 48 → ⊥) → decimal k (spelt 0 s) ≡ s
decimal_spelt zero [] l a z = rw (spelt_nil, decimal_none)
decimal_spelt zero (c ∷ s) l a z = absurd (omega arith)
decimal_spelt (suc k) [] l a z = rw (spelt_nil, decimal_none)
decimal_spelt (suc k) (c ∷ t) l a z =
    let s = c ∷ t in
    let n = length t in
    let i = take n s in
    let x = get_or s n 0 in
    let w : s ≡ i ++ (x ∷ []) = sym (take_all (suc n) s (omega arith)) ∙ take-suc s n 0 (omega arith) in
    let li : length i ≡ n = length-take-le n s (omega arith) in
    let a2 = (and-eq-true_iff (all_digits 10 i) (all_digits 10 (x ∷ []))).0 (sym (all_append 10 i (x ∷ [])) ∙ ap (all_digits 10) (sym w) ∙ a) in
    let xs = digit_at 10 s n a (omega arith) in
    let v : spelt 0 s ≡ spelt 0 i * 10 + digit_value x = ap (spelt 0) w ∙ spelt_append 0 i (x ∷ []) ∙ spelt_one (spelt 0 i) x in
    let d : spelt 0 s / 10 ≡ spelt 0 i = omega (arith, v, xs) in
    let m : spelt 0 s % 10 ≡ digit_value x = omega (arith, v, xs) in
    let r : decimal k (spelt 0 i) ≡ i = decimal_spelt k i (omega (arith, li)) a2.0 (front i refl) in
    decimal_next k (spelt 0 s) (spelt_some s (omega arith) a z)
    ∙ ap (λ q. decimal k q ++ (lower (spelt 0 s % 10) ∷ [])) d
    ∙ ap (◌++ (lower (spelt 0 s % 10) ∷ [])) r
    ∙ ap (λ q. i ++ (lower q ∷ [])) m
    ∙ ap (λ q. i ++ (q ∷ [])) (figure_value x (omega (arith, xs)))
    ∙ sym w
  where
    front : (i : List ℕ) → take (length t) (c ∷ t) ≡ i → get_or i 0 0 ≡ 48 → ⊥
    front [] e h = omega arith
    front (d ∷ i) e h = z (head_of t d i e ∙ h)

-- Two answers that spelling a number allows are equal.
pub one_spelling : (n from from' : ℕ) (chars chars' : List ℕ) → Spells n from chars → Spells n from' chars' → (from ≡ from') × (chars ≡ chars')
one_spelling n from from' chars chars' x y =
    let long : (k : ℕ) → length (replicate k 0 ++ decimal 10 n) ≡ k + length (decimal 10 n) = λ k. length-append (replicate k 0) (decimal 10 n) ∙ ap (◌+ length (decimal 10 n)) (length-replicate k 0) in
    let same : from ≡ from' = omega (arith, x.long, y.long, ap length x.figures ∙ long from, ap length y.figures ∙ long from') in
    (same, x.figures ∙ ap (λ k. replicate k 0 ++ decimal 10 n) same ∙ sym y.figures)
