-- Values that are as a layout wants them are written: what accepted values have (laws/Legal), the other way. Assumes nothing.
use Rattle.std.specs.Prelude.{◌≡◌, refl, Bool, List, [], ◌∷◌, ◌++◌, ℕ, ◌+◌, ◌^◌}
use Rattle.std.proofs.Common.{lt-ltb}
use Rattle.bits.specs.Bits.{digits}
use Rattle.format.specs.Fmt.{accepted, Fmt, end, field, choice, bytes, pad, write_field, write}
use Rattle.format.specs.Message.{Layout, closed, write_message}
use Rattle.format.specs.Laws.Legal.{Legal}
use Rattle.format.specs.Laws.Round.{sized_at}
use Rattle.format.proofs.Laws.Round.{write_lay}
use Rattle.format.specs.Laws.Zero.{Counted}

pub legal_written : (f : Fmt) (h : List ℕ) (at : ℕ) (vs : List ℕ) → Legal f h vs → Counted f at vs → (b : List Bool) × (write f h at vs ≡ accepted b)
unfolding write write_field
legal_written end h at [] g c = (digits (pad at) 0, refl)
legal_written end h at (v ∷ vs) g c = absurd g
legal_written (field w j m f) h at [] g c = absurd g
legal_written (field w j m f) h at (v ∷ vs) g c = let (b, e) = legal_written f (v ∷ h) (at + w) vs g.2 c in (digits w v ++ b, rw (e, lt-ltb v (2 ^ w) g.0, g.1) refl)
legal_written (choice w j f) h at [] g c = absurd g
legal_written (choice w j f) h at (v ∷ vs) g c = let (b, e) = legal_written (f v) (v ∷ h) (at + w) vs g.2 c in (digits w v ++ b, rw (e, lt-ltb v (2 ^ w) g.0, g.1) refl)
legal_written (bytes f) h at [] g c = absurd g
legal_written (bytes f) h at (n ∷ vs) g c = let (b, e) = legal_written (f n) (n ∷ h) at vs g c.0 in (b, rw e (sized_at n at b (c.1 b (write_lay (f n) (n ∷ h) at vs b e))))

-- Only the message's size is left to test.
pub legal_message : (l : Layout) (vs : List ℕ) → l.kind vs ≡ 0 → Legal l.fmt [] vs → Counted l.fmt 0 vs → (b : List Bool) × (write l.fmt [] 0 vs ≡ accepted b) × (write_message l vs ≡ closed l b)
unfolding write_message
legal_message l vs k g c = let (b, e) = legal_written l.fmt [] 0 vs g c in (b, e, rw (k, e) refl)
