-- Calls that are lent rows, for any answer and any layout: 0 is an acceptance; what a test that comes last lets through; and writing from a row that may be too short, which where the row has enough is what every writing is. Assumes nothing.
use Rattle.std.specs.Prelude.{◌≡◌, refl, Bool, true, false, List, [], ℕ, ◌<◌, leb, length}
use Rattle.std.proofs.Common.{sym, ap, ◌∙◌, arith, leb-true}
use Rattle.std.proofs.lemmas.Bool.{false≢true}
use Rattle.format.specs.Fmt.{Out, accepted, refused, or_bad, check}
use Rattle.format.specs.Message.{Layout, told, into, ahead, write_message}
use Rattle.format.specs.Refusals.{bare}
use Rattle.format.specs.Refusals.{Verdict}
use Rattle.format.specs.Promises.{Writes, Lays}
use Rattle.format.specs.Laws.Lead.{sized_by}
use Rattle.format.proofs.Laws.Whole.{made}

-- ---- writing from a row

module _ (l : Layout) (vs s : List ℕ) where
  -- from a row that has enough
  pub enough_lays : (has : Bool) (code : Verdict) (t : List ℕ) → has ≡ true → Lays has (write_message l vs) s code t → Writes l s code t vs
  enough_lays true code t e x = x
  enough_lays false code t e x = absurd (false≢true e)

  -- Where it told no refusal, the row had enough: a message has some bytes.
  pub accepted_lays : (has : Bool) (t : List ℕ) → 0 < l.least → ((p : ℕ) → write_message l vs ≡ refused 0 p → ⊥) → Lays has (write_message l vs) s (bare 0) t → (has ≡ true) × Writes l s (bare 0) t vs
  accepted_lays true t some never x = (refl, x)
  accepted_lays false t some never x = absurd (go (write_message l vs) refl x.0)
    where
      none : (m : List ℕ) (b : Bool) → leb (length m) 0 ≡ b → write_message l vs ≡ accepted m → bare 0 ≡ told (check (or_bad b 6) 0 (accepted (ahead m []))) → ⊥
      none m true e is z = omega (arith, (sized_by l (length m) (made l m vs is).fits).0, leb-true (length m) 0 e, some)
      none m false e is z = omega (arith, ap (λ r. r.code) z)

      go : (o : Out (List ℕ)) → write_message l vs ≡ o → bare 0 ≡ told (into [] o) → ⊥
      go (accepted m) is z = none m (leb (length m) 0) refl is z
      go (refused c p) is z = never p (is ∙ ap (λ r. refused r.code p) (sym z))
