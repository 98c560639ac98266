-- The report's layout is sound: what its fields accept leaves nothing to the first tests. Assumes nothing.
use Rattle.std.specs.Prelude.{List, ◌≡◌, refl, ℕ, eqb, length}
use Rattle.std.proofs.Common.{arith, eq-eqb}
use Rattle.std.proofs.lemmas.Bool.{false≢true}
use Rattle.bits.specs.Bits.{field_at}
use Rattle.format.specs.Message.{Sound}
use Rattle.format.specs.Words.{kept}
use Rattle.format.specs.Laws.First.{led_between}
use Rattle.format.proofs.Laws.First.{opens, bytes_long}
use Rattle.distress.specs.Report.{report, reports, plain}

pub sound : Sound reports
unfolding reports report
sound = record {
  sized = λ s vs e. rw (bytes_long reports plain s vs e, eq-eqb (field_at s 0 16) 0xBDC1 (opens 16 1 0xBDC1 kept _ s vs e)) refl;
  kinds = λ b vs e. refl;
  stays = λ vs i v p w e. refl;
  some = λ e. absurd (false≢true e);
}

-- what its first tests pass has 17 bytes
pub sized : (s : List ℕ) → reports.lead s ≡ 0 → length s ≡ 17
unfolding reports
sized s e = let (a, b) = led_between 17 17 17 (λ s. eqb (field_at s 0 16) 0xBDC1) s e in omega arith
