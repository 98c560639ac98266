-- What a call leaves in the bytes is, read as a row, what it leaves of the row: with this a run of calls over lent bytes is a run over places (desk_runs). Assumes nothing.
use Rattle.std.specs.Prelude.{◌≡◌, refl, Bool, true, false, not, cond, List, [], ◌∷◌, ◌⊎◌, ℕ, zero, suc, ◌+◌, ◌≤◌, ◌<◌, eqb, length, take, drop, set}
use Rattle.std.proofs.Common.{sym, ap, ◌∙◌, inl, inr, arith, le-leb}
use Rattle.packet.specs.Packet.{most_packets}
use Rattle.places.specs.Desk.{Change, applied, laid, accepting, asking, dropping}
use Rattle.places.specs.Places.{four_places}
use Rattle.places.specs.Laws.Laid.{length_laid, laid_there, laid_elsewhere}
use Rattle.places.specs.declared.Place.{Place}
use Rattle.desk_bytes.specs.Bytes.{place_bytes, begins, total_behind, place_of, place_in, row_in, bytes_of, changed_bytes}
use Rattle.desk_bytes.specs.Laws.Fits.{Fits, none, one, accepting_fits, asking_fits, dropping_fits}
use Rattle.desk_bytes.specs.Laws.Changes.{four_in, row_long, sized}
use Rattle.places.specs.Replies.{Reply}

-- ---- one place

-- a place with a size for each packet is what its bytes say
same_place : (p : Place) → place_of (bytes_of p) ≡ p
same_place p = λ i. record { «open» = mark p.«open» i; number = p.number; language = p.language; total = behind p.«open» p.total i; sizes = p.sizes }
  where
    mark : (x : Bool) → not (eqb (cond x 1 0) 0) ≡ x
    mark true = refl
    mark false = refl

    behind : (x : Bool) (n : ℕ) → total_behind (cond x 1 0) n ≡ n
    behind true n = refl
    behind false n = refl

module _ (bs : List ℕ) (long : begins four_places ≤ length bs) (i : ℕ) (low : i < four_places) (p : Place) (each : length p.sizes ≡ most_packets) where
  abbrev left : List ℕ
  left = laid bs (begins i) (bytes_of p)

  whole : length (bytes_of p) ≡ place_bytes
  whole = ap (λ n. suc (suc (suc (suc n)))) each

  fits : begins i + length (bytes_of p) ≤ length bs
  fits = omega (arith, whole, low, long)

  there : place_in left i ≡ p
  there = ap (λ n. place_of (take n (drop (begins i) left))) (sym whole) ∙ ap place_of (laid_there bs (begins i) (bytes_of p) fits) ∙ same_place p

  elsewhere : (j : ℕ) → (begins j + place_bytes ≤ begins i) ⊎ (begins i + length (bytes_of p) ≤ begins j) → place_in left j ≡ place_in bs j
  elsewhere j a = ap place_of (laid_elsewhere bs (begins i) (bytes_of p) fits (begins j) place_bytes a)

  below : (j : ℕ) → j < i → place_in left j ≡ place_in bs j
  below j l = elsewhere j (inl (omega (arith, l)))

  above : (j : ℕ) → i < j → place_in left j ≡ place_in bs j
  above j l = elsewhere j (inr (omega (arith, l, whole)))

  still : four_in left ≡ row_in left
  still = ap (λ t. cond t (four_in left) []) (sym (le-leb (begins four_places) (length left) (omega (arith, length_laid bs (begins i) (bytes_of p) fits, long))))

-- the row with one place changed
row_turned : (bs : List ℕ) → begins four_places ≤ length bs → (i : ℕ) → i < four_places → (p : Place) → length p.sizes ≡ most_packets → row_in (laid bs (begins i) (bytes_of p)) ≡ set (four_in bs) i p
row_turned bs long zero low p each =
    let above = above bs long 0 low p each in
    sym (still bs long 0 low p each) ∙ (λ x. there bs long 0 low p each x ∷ above 1 (omega arith) x ∷ above 2 (omega arith) x ∷ above 3 (omega arith) x ∷ [])
row_turned bs long (suc zero) low p each =
    let above = above bs long 1 low p each in
    sym (still bs long 1 low p each) ∙ (λ x. below bs long 1 low p each 0 (omega arith) x ∷ there bs long 1 low p each x ∷ above 2 (omega arith) x ∷ above 3 (omega arith) x ∷ [])
row_turned bs long (suc (suc zero)) low p each =
    let below = below bs long 2 low p each in
    sym (still bs long 2 low p each) ∙ (λ x. below 0 (omega arith) x ∷ below 1 (omega arith) x ∷ there bs long 2 low p each x ∷ above bs long 2 low p each 3 (omega arith) x ∷ [])
row_turned bs long (suc (suc (suc zero))) low p each =
    let below = below bs long 3 low p each in
    sym (still bs long 3 low p each) ∙ (λ x. below 0 (omega arith) x ∷ below 1 (omega arith) x ∷ below 2 (omega arith) x ∷ there bs long 3 low p each x ∷ [])
row_turned bs long (suc (suc (suc (suc i)))) low p each = absurd (omega (arith, low))

-- ---- what each call leaves

-- the change c, made in the bytes: read as a row, and as many bytes
pub record Leaves (bs : List ℕ) (c : Change) : Type 0 where
  pub row : row_in (changed_bytes bs c) ≡ applied (row_in bs) c
  pub long : length (changed_bytes bs c) ≡ length bs

left_fits : (bs : List ℕ) → begins four_places ≤ length bs → {a : Reply} {c : Change} → Fits a c → Leaves bs c
left_fits bs long (none e) = record { row = refl; long = refl }
left_fits bs long (one e i low p each) = record {
  row = row_turned bs long i low p each ∙ ap (λ ps. set ps i p) (row_long bs long);
  long = length_laid bs (begins i) (bytes_of p) (fits bs long i low p each);
}

module _ (bs : List ℕ) (long : begins four_places ≤ length bs) where
  pub accepts_leaves : (s m : List ℕ) → Leaves bs (accepting (row_in bs) s m).change
  accepts_leaves s m = left_fits bs long (accepting_fits (row_in bs) (sized bs long) s m).is

  pub asks_leaves : (s : List ℕ) (n : ℕ) (b w : List ℕ) → Leaves bs (asking (row_in bs) s n b w).change
  asks_leaves s n b w = left_fits bs long (asking_fits (row_in bs) (sized bs long) s n b w).is

  pub drops_leaves : (s : List ℕ) (n : ℕ) → Leaves bs (dropping (row_in bs) s n).change
  drops_leaves s n = left_fits bs long (dropping_fits (row_in bs) (sized bs long) s n).is
