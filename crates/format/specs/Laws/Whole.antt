-- Demands 2 and 3 for whole messages, for every layout. Assumes nothing.
use Rattle.std.specs.Prelude.{◌≡◌, Bool, true, false}
use Rattle.std.proofs.Math.Path.{refl}
use Rattle.std.proofs.Common.{arith, length-append, take_at}
use mathlib.Core.List.{List, [], ◌∷◌}
use Prim.Native.Nat.{ℕ, ◌-◌}
use Rattle.std.proofs.Math.ListN.{length}
use Rattle.bits.specs.Xor.{xor_of}
use Rattle.format.specs.Fmt.{Out, accepted, refused, after}
use Rattle.format.specs.Message.{body, sealed}
use Rattle.format.specs.Laws.Round.{clash}

pub after_inv : {A B : Type 0} (o : Out A) (k : A → Out B) {y : B} → after o k ≡ accepted y → (x : A) × (o ≡ accepted x) × (k x ≡ accepted y)
after_inv (accepted a) k e = (a, refl, e)
after_inv (refused c p) k e = clash e

-- ---- seals

pub body_sealed : (z : Bool) (t : List ℕ) → body z (sealed z t) ≡ t
body_sealed false t = refl
body_sealed true t =
    let n : length (sealed true t) - 1 ≡ length t = omega (arith, length-append t (xor_of t ∷ [])) in
    rw n (take_at t (xor_of t ∷ []) (length t) refl)

pub length_sealed : (z : Bool) (s t : List ℕ) → length s ≡ length t → length (sealed z s) ≡ length (sealed z t)
length_sealed false s t e = e
length_sealed true s t e = omega (arith, length-append s (xor_of s ∷ []), length-append t (xor_of t ∷ []))
