-- The notice's layout is sound, and its judges refuse by the paper's numbers: so the laws on all layouts hold of it. Assumes nothing.
use Rattle.std.specs.Prelude.{◌≡◌, refl, Bool, true, false, cond, ◌&&◌, List, ℕ, ◌≤◌, leb, length}
use Rattle.std.proofs.lemmas.Bool.{false≢true}
use Rattle.std.proofs.Common.{arith}
use Rattle.bits.specs.Bits.{bytes_of}
use Rattle.format.specs.Fmt.{bad, end}
use Rattle.format.specs.Message.{Sound}
use Rattle.format.specs.Words.{unless}
use Rattle.format.specs.Laws.Zero.{Numbered, Judged, only_numbered}
use Rattle.notice_fields.specs.Laws.Instances.{some_areas}
use Rattle.notice_fields.specs.Laws.PartsWalking.{expiry_numbered}
use Rattle.packet.specs.Packet.{joined}
use Rattle.notice_fields.specs.Terms.{Terms}
use Rattle.notice.specs.Notice.{text, notice, notices}

pub sound : (terms : Terms) → Sound (notices terms)
unfolding notices
sound terms = record {
  sized = λ s vs e. first (leb 8 (length s)) (leb (length s) joined);
  kinds = λ b vs e. refl;
  stays = λ vs i v p w e. refl;
  some = λ e. absurd (false≢true e);
}
  where
    first : (x y : Bool) → ◌≡◌ {A = ℕ} (cond x (cond (x && y) 0 1) 1) (cond (x && y) 0 1)
    first true y = refl
    first false y = refl

-- ---- every judge refuses by a number of the paper

spoken : (terms : Terms) (n : ℕ) → Numbered (λ h b. unless (terms.text (bytes_of n b)) 4 0)
spoken terms n = (λ h b i. named (terms.text (bytes_of n b)), λ h b c i. points (terms.text (bytes_of n b)) b c i)
  where
    named : (x : Bool) {i : ℕ} → unless x 4 0 ≡ bad 0 i → ⊥
    named true e = let z : ◌≡◌ {A = ℕ} 0 1 = cc in omega arith
    named false e = let z : ◌≡◌ {A = ℕ} 4 0 = cc in omega arith

    points : (x : Bool) (b : List Bool) (c i : ℕ) → unless x 4 0 ≡ bad c i → i ≤ length b
    points true b c i e = let z : ◌≡◌ {A = ℕ} 0 1 = cc in absurd (omega arith)
    points false b c i e = let z : ◌≡◌ {A = ℕ} 0 i = cc in omega arith

pub judged : (terms : Terms) → Judged (notice terms)
unfolding notice
judged terms = (
  only_numbered 5 3 _,
  (
    only_numbered 4 3 _,
    (
      only_numbered 14 3 _,
      (
        only_numbered 7 3 _,
        (only_numbered 4 3 _, (only_numbered 4 3 _, (expiry_numbered, (only_numbered 4 3 _, λ n. (some_areas terms.point n).judged (text terms end) (λ m. (spoken terms m, tt)))))),
      ),
    ),
  ),
)
