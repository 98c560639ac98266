-- The records of a log, one by one: what its bytes begin with decides the first, and the rest follows. Assumes nothing.
use Rattle.std.specs.Prelude.{◌≡◌, ℕ, zero, suc, ◌+◌, ◌-◌, ◌<◌, ◌≤◌, Bool, true, false, ◌&&◌, List, [], ◌∷◌, ◌++◌, length, take, drop, ◌≢◌, nat_le, refl}
use Rattle.std.proofs.Common.{sym, ap, ◌∙◌, arith, length-append, length-drop, le-leb, leb-true, leb-false}
use Rattle.format.specs.Message.{between}
use Rattle.std.proofs.Math.ListN.{get_or-append}
use Rattle.daylog.specs.Records.{pair_at, front, opened, records_by, records}
use Rattle.daylog.specs.declared.records.Next.{Next}
use Rattle.daylog.specs.declared.records.Next.TheVariants.{Record, Bad, Short}

-- ---- what the bytes begin with

-- what was tested, and what it says
data View (s : List ℕ) : Type 0 where
  few : length s < 4 → front s ≡ Short → View s
  bad : 4 ≤ length s → between 4 256 (pair_at s 0) ≡ false → front s ≡ Bad → View s
  cut : between 4 256 (pair_at s 0) ≡ true → length s < pair_at s 0 → front s ≡ Short → View s
  whole : 4 ≤ length s → between 4 256 (pair_at s 0) ≡ true → pair_at s 0 ≤ length s → front s ≡ Record (pair_at s 2) (pair_at s 0 - 4) → View s

view : (s : List ℕ) → View s
unfolding front
view s = go (nat_le 4 (length s)) (between 4 256 (pair_at s 0)) (nat_le (pair_at s 0) (length s)) refl refl refl
  where
    go : (a b c : Bool) → nat_le 4 (length s) ≡ a → between 4 256 (pair_at s 0) ≡ b → nat_le (pair_at s 0) (length s) ≡ c → View s
    go false b c x y z = few (leb-false 4 (length s) x) (rw x)
    go true false c x y z = bad (leb-true 4 (length s) x) y (rw (x, y))
    go true true false x y z = cut y (leb-false (pair_at s 0) (length s) z) (rw (x, y, z))
    go true true true x y z = whole (leb-true 4 (length s) x) y (leb-true (pair_at s 0) (length s) z) (rw (x, y, z))

pub inside : (n : ℕ) → between 4 256 n ≡ true → (4 ≤ n) × (n ≤ 256)
inside n e = go (nat_le 4 n) (nat_le n 256) refl refl e
  where
    go : (a b : Bool) → nat_le 4 n ≡ a → nat_le n 256 ≡ b → a && b ≡ true → (4 ≤ n) × (n ≤ 256)
    go true true x y e = (leb-true 4 n x, leb-true n 256 y)
    go true false x y e = let z : ◌≡◌ {A = ℕ} 0 1 = cc in absurd (omega arith)
    go false b x y e = let z : ◌≡◌ {A = ℕ} 0 1 = cc in absurd (omega arith)

-- a whole record lies within the bytes, and has at most 256
pub front_size : (s : List ℕ) (k n : ℕ) → front s ≡ Record k n → (4 + n ≤ length s) × (4 + n ≤ 256)
front_size s k n e = go (view s)
  where
    go : View s → (4 + n ≤ length s) × (4 + n ≤ 256)
    go (few h f) = let z : ◌≡◌ {A = ℕ} 0 1 = cc in absurd (omega arith)
    go (bad h b f) = let z : ◌≡◌ {A = ℕ} 0 1 = cc in absurd (omega arith)
    go (cut b h f) = let z : ◌≡◌ {A = ℕ} 0 1 = cc in absurd (omega arith)
    go (whole h b l f) = let m : pair_at s 0 - 4 ≡ n = cc in let i = inside (pair_at s 0) b in (omega arith, omega arith)

-- Fewer bytes than a record has are fewer than 256: what a window keeps for the next one.
pub short_few : (s : List ℕ) → front s ≡ Short → length s < 256
short_few s e = go (view s)
  where
    go : View s → length s < 256
    go (few h f) = omega arith
    go (bad h b f) = let z : ◌≡◌ {A = ℕ} 0 1 = cc in absurd (omega arith)
    go (cut b h f) = omega (arith, (inside (pair_at s 0) b).1)
    go (whole h b l f) = let z : ◌≡◌ {A = ℕ} 0 1 = cc in absurd (omega arith)

pair_stays : (s t : List ℕ) (i : ℕ) → i + 1 < length s → pair_at (s ++ t) i ≡ pair_at s i
pair_stays s t i h = rw (get_or-append s t 0 i (omega arith), get_or-append s t 0 (i + 1) h)

-- where more bytes come, only a short beginning becomes another
pub front_stays : (s t : List ℕ) → (front s ≢ Short) → front (s ++ t) ≡ front s
unfolding front
front_stays s t h = go (view s)
  where
    go : View s → front (s ++ t) ≡ front s
    go (few l f) = absurd (h f)
    go (cut b l f) = absurd (h f)
    go (bad l b f) =
        let more : 4 ≤ length (s ++ t) = simp length-append (omega arith) in
        let e : front (s ++ t) ≡ Bad = rw (le-leb 4 (length (s ++ t)) more, pair_stays s t 0 (omega arith), b) in
        e ∙ sym f
    go (whole l b m f) =
        let more : 4 ≤ length (s ++ t) = simp length-append (omega arith) in
        let all : pair_at s 0 ≤ length (s ++ t) = simp length-append (omega arith) in
        let e : front (s ++ t) ≡ Record (pair_at s 2) (pair_at s 0 - 4) =
        rw
        (le-leb 4 (length (s ++ t)) more, pair_stays s t 0 (omega arith), pair_stays s t 2 (omega arith), b, le-leb (pair_at s 0) (length (s ++ t)) all) in
        e ∙ sym f

-- ---- records

empty : (f : ℕ) (s : List ℕ) → length s ≤ 0 → records_by f s ≡ []
unfolding records_by front
empty zero [] h = refl
empty (suc f) [] h = refl
empty f (b ∷ s) h = absurd (omega arith)

pub records_empty : (s : List ℕ) → length s ≤ 0 → records s ≡ []
unfolding records
records_empty s h = empty (length s) s h

enough : (f g : ℕ) (s : List ℕ) → length s ≤ f → length s ≤ g → records_by f s ≡ records_by g s
unfolding records_by
enough zero g s h k = sym (empty g s h)
enough (suc f) zero s h k = empty (suc f) s k
enough (suc f) (suc g) s h k =
    go (front s) (λ m. enough f g (drop (4 + m) s) (simp length-drop (omega arith)) (simp length-drop (omega arith)))
  where
    go : (x : Next) → ((m : ℕ) → records_by f (drop (4 + m) s) ≡ records_by g (drop (4 + m) s)) → opened x s (records_by f) ≡ opened x s (records_by g)
    go (Record k m) r = ap (λ es. record { kind = k; body = take m (drop 4 s) } ∷ es) (r m)
    go Bad r = refl
    go Short r = refl

-- the records of s, by what it begins with
pub records_open : (s : List ℕ) → records s ≡ opened (front s) s records
unfolding records records_by
records_open s = enough (length s) (suc (length s)) s (omega arith) (omega arith) ∙ go (front s)
  where
    go : (x : Next) → opened x s (records_by (length s)) ≡ opened x s records
    go (Record k m) =
        ap (λ es. record { kind = k; body = take m (drop 4 s) } ∷ es)
        (enough (length s) (length (drop (4 + m) s)) (drop (4 + m) s) (simp length-drop (omega arith)) (omega arith))
    go Bad = refl
    go Short = refl
