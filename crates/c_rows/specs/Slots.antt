-- The slots told in a lent number (paper 01, "AIS"). Assumes nothing.
use Rattle.std.specs.Prelude.{ℕ, ◌≡◌}
use Rattle.std.proofs.Common.{sym, ◌∙◌}
use Rattle.format.specs.Message.{told, leaves}
use Rattle.format.specs.Refusals.{Verdict}
use Rattle.ais.specs.Slots.{slots_for}

-- the call's refusal, and what it leaves of the lent number n
abbrev pub SlotsTold : ℕ → ℕ → ℕ → Verdict → ℕ → Type 0
SlotsTold message bytes n code m = (code ≡ told (slots_for message bytes)) × (m ≡ leaves (slots_for message bytes) n)

-- two answers that it allows are equal
pub one_telling : (message bytes n : ℕ) (c d : Verdict) (m k : ℕ) → SlotsTold message bytes n c m → SlotsTold message bytes n d k → (c ≡ d) × (m ≡ k)
one_telling message bytes n c d m k x y = (x.0 ∙ sym y.0, x.1 ∙ sym y.1)
