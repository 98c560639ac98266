-- What is told of a refusal: showing it twice is showing it once, C takes apart what was packed, and is given one number. Assumes nothing.
use Rattle.std.specs.Prelude.{◌≡◌, refl, Bool, true, false, cond, ℕ, ◌/◌, ◌%◌, ◌^◌, ◌<◌}
use Rattle.std.proofs.Common.{sym, ap, ◌∙◌, arith, mod-eq_of_lt}
use Rattle.format.specs.Fmt.{Out, accepted, refused}
use Rattle.format.specs.Message.{told}
use Rattle.format.specs.Promises.{Packs}
use Rattle.format.specs.Refusals.{placed, shown, bare, packed, unpacked}
use Rattle.format.specs.Refusals.{Verdict}

pub shown_again : (c p : ℕ) → shown c (shown c p).bit ≡ shown c p
shown_again c p = go (placed c)
  where
    go : (b : Bool) → ◌≡◌ {A = Verdict} (record { code = c; bit = cond b (cond b p 0) 0 }) (record { code = c; bit = cond b p 0 })
    go true = refl
    go false = refl

-- what no field gave has no bit to show
pub shown_bare : (c : ℕ) → shown c 0 ≡ bare c
shown_bare c = go (placed c)
  where
    go : (b : Bool) → ◌≡◌ {A = Verdict} (record { code = c; bit = cond b 0 0 }) (bare c)
    go true = refl
    go false = refl

-- number 0 is no refusal
pub told_none : {A : Type 0} (o : Out A) {r : Verdict} → r ≡ told o → r.code ≡ 0 → r ≡ bare 0
told_none (accepted a) e z = e
told_none (refused c p) e z = e ∙ ap (λ c. shown c p) (ap (λ r. r.code) (sym e) ∙ z)

-- What C takes apart is what was packed: a number below 256, and a bit below 2^24.
pub unpacks : (r : Verdict) → r.code < 256 → r.bit < 2 ^ 24 → unpacked (packed r) ≡ r
unpacks r c b = λ i. record { code = low i; bit = high i }
  where
    small : r.bit % 2 ^ 24 ≡ r.bit
    small = mod-eq_of_lt b

    low : packed r % 256 ≡ r.code
    low = rw small (omega (arith, c))

    high : packed r / 256 ≡ r.bit
    high = rw small (omega (arith, c))

-- A call for C that promises one refusal gives one number.
pub one_packed : {P : Verdict → Type 0} → ((x y : Verdict) → P x → P y → x ≡ y) → {m n : ℕ} → Packs P m → Packs P n → m ≡ n
one_packed same (x, a, p) (y, b, q) = a ∙ ap packed (same x y p q) ∙ sym b
