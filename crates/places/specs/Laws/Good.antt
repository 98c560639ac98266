-- The open place of a number is good where the four are, and a good place's total and sizes are within their limits. Assumes nothing.
use Rattle.std.specs.Prelude.{ℕ, ◌≤◌, ◌<◌, Bool, true, false, not, cond, ◌&&◌, ◌||◌, List, ◌≡◌, refl, length, leb, ltb, eqb}
use Rattle.std.proofs.Math.Bool.{and-eq-true_iff}
use Rattle.std.proofs.Common.{arith, leb-true, le-leb, eqb-true}
use Rattle.packet.specs.Packet.{most_packets, part_bytes_of}
use Rattle.places.specs.Desk.{store_bytes, first_tests}
use Rattle.places.specs.Places.{every_below, held, lacks, entry_good, good_place, passes, serves, four_places, place_at, all_apart, good_places, open_at}
use Rattle.places.specs.Laws.Below.{every_each, first_holds}
use Rattle.places.specs.declared.Place.{Place}

pub open_serves : (ps : List Place) (n : ℕ) → open_at ps n < four_places → serves (place_at ps (open_at ps n)) n ≡ true
unfolding open_at
open_serves ps n h = first_holds 0 four_places (λ i. serves (place_at ps i) n) h

-- the total is at most the most packets, and each size at most a packet's
pub record Sized (p : Place) : Type 0 where
  pub few : p.total ≤ most_packets
  pub small : (k : ℕ) → k < most_packets → held p k ≤ part_bytes_of

entry_small : (p : Place) (k : ℕ) → entry_good p k ≡ true → held p k ≤ part_bytes_of
entry_small p k e = by_case (lacks p k) refl e
  where
    by_case : (b : Bool) → lacks p k ≡ b → (b || (ltb k p.total && leb (held p k) part_bytes_of)) ≡ true → held p k ≤ part_bytes_of
    by_case true q _ = omega (arith, eqb-true (held p k) 0 q)
    by_case false q l = leb-true (held p k) part_bytes_of ((and-eq-true_iff (ltb k p.total) (leb (held p k) part_bytes_of)).0 l).1

pub good_sized : (p : Place) → good_place p ≡ true → Sized p
unfolding good_place
good_sized p e =
    let (total, rest) = (and-eq-true_iff (leb 1 p.total && leb p.total most_packets) (not (every_below most_packets (lacks p)) && every_below most_packets (entry_good p))).0 e in
    let (_, few) = (and-eq-true_iff (leb 1 p.total) (leb p.total most_packets)).0 total in
    let (_, entries) = (and-eq-true_iff (not (every_below most_packets (lacks p))) (every_below most_packets (entry_good p))).0 rest in
    record { few = leb-true p.total most_packets few; small = λ k h. entry_small p k (every_each most_packets (entry_good p) entries k h) }

pub open_sized : (ps : List Place) (n : ℕ) → good_places ps ≡ true → open_at ps n < four_places → Sized (place_at ps (open_at ps n))
unfolding good_places
open_sized ps n e h =
    let i = open_at ps n in
    let p = place_at ps i in
    let (_, each) = (and-eq-true_iff (all_apart ps) (every_below four_places (λ i. passes (place_at ps i)))).0 e in
    let (at-work, _) = (and-eq-true_iff p.«open» (eqb p.number n)).0 (open_serves ps n h) in
    let good : passes p ≡ true = every_each four_places (λ i. passes (place_at ps i)) each i h in
    good_sized p (rw at-work at good)

-- where the first tests pass, the store is long enough and the places are good
pub tests_passed : (ps : List Place) (s : List ℕ) → first_tests ps s ≡ 0 → (store_bytes ≤ length s) × (good_places ps ≡ true)
unfolding first_tests
tests_passed ps s e = go (leb four_places (length ps)) (leb store_bytes (length s)) (good_places ps) refl refl e
  where
    go : (wide deep good : Bool) → leb store_bytes (length s) ≡ deep → good_places ps ≡ good → ◌≡◌ {A = ℕ} (cond (wide && deep) (cond good 0 4) 6) 0 → (store_bytes ≤ length s) × (good_places ps ≡ true)
    go true true true d g _ = (leb-true store_bytes (length s) d, g)
    go true true false d g z = absurd (omega (arith, z))
    go true false _ d g z = absurd (omega (arith, z))
    go false _ _ d g z = absurd (omega (arith, z))

-- and where they are, the first tests pass
pub pass_tests : (ps : List Place) (s : List ℕ) → four_places ≤ length ps → store_bytes ≤ length s → good_places ps ≡ true → first_tests ps s ≡ 0
unfolding first_tests
pass_tests ps s wide deep good = rw (le-leb four_places (length ps) wide, le-leb store_bytes (length s) deep, good) refl
