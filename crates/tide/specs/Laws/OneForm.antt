-- A level has one form: accepted telegrams that say the same, each level by its height, are the same bytes. So no two of them differ only in how a height of 0 is said. Assumes nothing.
use Rattle.std.specs.Prelude.{ℕ, zero, suc, ◌≤◌, ◌<◌, ◌≡◌, refl, List, [], ◌∷◌}
use Rattle.std.proofs.Common.{ap, subst, arith}
use Rattle.bits.specs.Bits.{Bytes}
use Rattle.format.specs.Codes.{codes, headed}
use Rattle.format.specs.Fmt.{accepted, end}
use Rattle.format.specs.Groups.{repeat}
use Rattle.format.specs.Promises.{read_record}
use Rattle.format.proofs.Laws.Family.{read_values}
use Rattle.format.specs.Laws.Legal.{Legal}
use Rattle.format.proofs.Laws.Legal.{legal}
use Rattle.format.proofs.Laws.Round.{read_write}
use Rattle.format.proofs.Laws.Whole.{was}
use Rattle.tide.specs.Heights.{height_of}
use Rattle.tide.specs.Record.{Whole, values_of, record_of}
use Rattle.tide.specs.Tide.{least_of, tide_record, tides}
use Rattle.tide.specs.Laws.Demands.{row_is, family}

-- ---- one level

pub level_one_lem : (s v t w : ℕ) → s < 2 → t < 2 → least_of s ≤ v → least_of t ≤ w → height_of s v ≡ height_of t w → (s ≡ t) × (v ≡ w)
level_one_lem zero zero t w a b c d e = absurd (omega arith)
level_one_lem zero (suc v) zero zero a b c d e = absurd (omega arith)
level_one_lem zero (suc v) zero (suc w) a b c d e = let z : v ≡ w = cc in (refl, ap suc z)
level_one_lem zero (suc v) (suc zero) w a b c d e = let z : ◌≡◌ {A = ℕ} 0 1 = cc in absurd (omega arith)
level_one_lem zero (suc v) (suc (suc t)) w a b c d e = absurd (omega arith)
level_one_lem (suc zero) v zero zero a b c d e = absurd (omega arith)
level_one_lem (suc zero) v zero (suc w) a b c d e = let z : ◌≡◌ {A = ℕ} 0 1 = cc in absurd (omega arith)
level_one_lem (suc zero) v (suc zero) w a b c d e = let z : v ≡ w = cc in (refl, z)
level_one_lem (suc zero) v (suc (suc t)) w a b c d e = absurd (omega arith)
level_one_lem (suc (suc s)) v t w a b c d e = absurd (omega arith)

-- ---- telegrams

-- the numbers that were read are accepted ones
pub read_legal : (s : List ℕ) (x : Whole) → Bytes s → read_record tides record_of s ≡ accepted x → Legal (repeat x.0.count tide_record end) (x.0.count ∷ 0 ∷ 1 ∷ 0xE4 ∷ []) x.1
unfolding tides headed codes values_of
read_legal s x fine e =
    let (m, lent) = read_values family s x fine e in
    let h = legal tides.fmt [] 0 (values_of x) _ (read_write tides.fmt [] 0 (values_of x) _ (was tides s (values_of x) m).walked) in
    subst (Legal (repeat x.0.count tide_record end) (x.0.count ∷ 0 ∷ 1 ∷ 0xE4 ∷ [])) (row_is x lent) h.2.2.2.2
