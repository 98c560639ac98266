-- A time and the number that it spells are one another's. Assumes nothing.
use Rattle.std.specs.Prelude.{◌≡◌, refl, Bool, true, false, cond, ◌&&◌, ℕ, ◌+◌, ◌*◌, ◌/◌, ◌%◌, ◌<◌, ◌^◌, ltb}
use Rattle.std.proofs.Common.{ap, ◌∙◌, arith, lt-ltb, ltb-true}
use Rattle.ais_common.specs.Time.{dated, timed, spell_short, spell_time, short_of, time_of}
use Rattle.ais_common.specs.declared.time.Time.{Time}
use Rattle.ais_common.specs.declared.time.ShortTime.{ShortTime}

-- a date that fits its bits has parts that fit theirs
module _ (month day hour : ℕ) where
  dated_fits : dated month day hour < 2 ^ 14 → (month < 16) × (day < 32) × (hour < 32) × (dated month day hour ≡ month * 1_024 + day * 32 + hour)
  dated_fits = go (ltb month 16) (ltb day 32) (ltb hour 32) refl refl refl
    where
      n : ℕ
      n = month * 1_024 + day * 32 + hour

      go : (x y z : Bool) → ltb month 16 ≡ x → ltb day 32 ≡ y → ltb hour 32 ≡ z → cond (x && y && z) n (2 ^ 14) < 2 ^ 14
          → (month < 16) × (day < 32) × (hour < 32) × (cond (x && y && z) n (2 ^ 14) ≡ n)
      go true true true a b c l = (ltb-true month 16 a, ltb-true day 32 b, ltb-true hour 32 c, refl)
      go true true false a b c l = absurd (omega (arith, l))
      go true false z a b c l = absurd (omega (arith, l))
      go false y z a b c l = absurd (omega (arith, l))

  dated_parts : dated month day hour < 2 ^ 14
      → (dated month day hour / 1_024 % 16 ≡ month) × (dated month day hour / 32 % 32 ≡ day) × (dated month day hour % 32 ≡ hour)
  dated_parts l =
      let (a, b, c, e) = dated_fits l in
      (omega (arith, a, b, c, e), omega (arith, a, b, c, e), omega (arith, a, b, c, e))

-- the parts of a number of 14 bits spell it
dated_of : (v : ℕ) → v < 2 ^ 14 → dated (v / 1_024 % 16) (v / 32 % 32) (v % 32) ≡ v
dated_of v l = rw (lt-ltb (v / 1_024 % 16) 16 (omega arith), lt-ltb (v / 32 % 32) 32 (omega arith), lt-ltb (v % 32) 32 (omega arith)) (omega arith)

timed_fits : (date minute : ℕ) → timed date minute < 2 ^ 20 → (date < 2 ^ 14) × (timed date minute / 64 ≡ date) × (timed date minute % 64 ≡ minute)
timed_fits date minute = go (ltb date (2 ^ 14)) (ltb minute 64) refl refl
  where
    n : ℕ
    n = date * 64 + minute

    go : (x y : Bool) → ltb date (2 ^ 14) ≡ x → ltb minute 64 ≡ y → cond (x && y) n (2 ^ 20) < 2 ^ 20
        → (date < 2 ^ 14) × (cond (x && y) n (2 ^ 20) / 64 ≡ date) × (cond (x && y) n (2 ^ 20) % 64 ≡ minute)
    go true true a b l = let m = ltb-true minute 64 b in (ltb-true date (2 ^ 14) a, omega (arith, m), omega (arith, m))
    go true false a b l = absurd (omega (arith, l))
    go false y a b l = absurd (omega (arith, l))

-- ---- of 14 bits

pub short_spell : (t : ShortTime) → spell_short t < 2 ^ 14 → short_of (spell_short t) ≡ t
unfolding spell_short short_of
short_spell t l =
    let (a, b, c) = dated_parts t.month t.day t.hour l in
    λ i. record { month = a i; day = b i; hour = c i }

pub spell_short_lem : (v : ℕ) → v < 2 ^ 14 → spell_short (short_of v) ≡ v
unfolding spell_short short_of
spell_short_lem v l = dated_of v l

-- ---- of 20 bits

pub time_spell : (t : Time) → spell_time t < 2 ^ 20 → time_of (spell_time t) ≡ t
unfolding spell_time time_of
time_spell t l =
    let date = dated t.month t.day t.hour in
    let (k, d, m) = timed_fits date t.minute l in
    let (a, b, c) = dated_parts t.month t.day t.hour k in
    λ i. record {
      month = (ap (λ v. v / 1_024 % 16) d ∙ a) i;
      day = (ap (λ v. v / 32 % 32) d ∙ b) i;
      hour = (ap (λ v. v % 32) d ∙ c) i;
      minute = m i;
    }

pub spell_time_lem : (v : ℕ) → v < 2 ^ 20 → spell_time (time_of v) ≡ v
unfolding spell_time time_of
spell_time_lem v l =
    let d = dated_of (v / 64) (omega (arith, l)) in
    ap (λ date. timed date (v % 64)) d ∙ rw (lt-ltb (v / 64) (2 ^ 14) (omega (arith, l)), lt-ltb (v % 64) 64 (omega arith)) (omega arith)
