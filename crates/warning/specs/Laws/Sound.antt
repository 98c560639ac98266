-- A warning's layout is sound: what its fields accept leaves nothing to the first tests. Assumes nothing.
use Rattle.std.specs.Prelude.{◌≡◌, refl, true, length}
use Rattle.std.proofs.Math.Path.{sym, ap}
use Rattle.std.proofs.Common.{◌∙◌, arith, lit≤}
use Rattle.std.proofs.lemmas.Bool.{false≢true}
use mathlib.Core.List.{List, [], ◌∷◌}
use Prim.Native.Nat.{ℕ}
use Rattle.std.proofs.Math.ListN.{get_or, drop}
use Rattle.ais_common.specs.Laws.Sound.{leaves_size, sized as head_sized}
use Rattle.bits.specs.Bits.{bits_of, field_at}
use Rattle.bits.specs.Laws.Bytes.{length_bits}
use Rattle.warning.specs.Bodies.{Kind, cyclone, gale, waves, fog, surge, kind_of, body}
use Rattle.format.specs.Fmt.{accepted, read}
use Rattle.format.specs.Message.{Sound, between}
use Rattle.format.specs.Words.{◌‥◌, only, wide, kept}
use Rattle.format.specs.Laws.Extent.{extent}
use Rattle.format.proofs.Laws.Extent.{extent_laid}
use Rattle.format.specs.Laws.Legal.{Legal, passed, exactly}
use Rattle.format.proofs.Laws.Legal.{legal}
use Rattle.format.proofs.Laws.Offsets.{value_at, choice_at}
use Rattle.format.proofs.Laws.Round.{read_write}
use Rattle.warning.specs.Warning.{asked, tail, rest, warning, warnings}

-- ---- what accepted values begin with

pub record Front (vs : List ℕ) : Type 0 where
  pub message : ℕ
  pub repeat : ℕ
  pub source : ℕ
  pub spare : ℕ
  pub authority : ℕ
  pub application : ℕ
  pub type : ℕ
  pub longitude : ℕ
  pub latitude : ℕ
  pub left : List ℕ
  pub is : vs ≡ message ∷ repeat ∷ source ∷ spare ∷ authority ∷ application ∷ type ∷ longitude ∷ latitude ∷ left
  pub message_is : message ≡ 8
  pub spare_is : spare ≡ 0
  pub authority_is : authority ≡ 412
  pub application_is : application ≡ 3
  pub type_is : between 1 5 type ≡ true
  pub before : List ℕ
  pub holds : Legal (body (kind_of type) tail) before left

pub front : (vs : List ℕ) → Legal warning [] vs → Front vs
unfolding warning
front [] h = absurd h
front (a ∷ []) h = absurd h.2
front (a ∷ b ∷ []) h = absurd h.2.2
front (a ∷ b ∷ c ∷ []) h = absurd h.2.2.2
front (a ∷ b ∷ c ∷ d ∷ []) h = absurd h.2.2.2.2
front (a ∷ b ∷ c ∷ d ∷ e ∷ []) h = absurd h.2.2.2.2.2
front (a ∷ b ∷ c ∷ d ∷ e ∷ f ∷ []) h = absurd h.2.2.2.2.2.2
front (a ∷ b ∷ c ∷ d ∷ e ∷ f ∷ t ∷ []) h = absurd h.2.2.2.2.2.2.2
front (a ∷ b ∷ c ∷ d ∷ e ∷ f ∷ t ∷ x ∷ []) h = absurd h.2.2.2.2.2.2.2.2
front (a ∷ b ∷ c ∷ d ∷ e ∷ f ∷ t ∷ x ∷ y ∷ us) h =
    let h3 = h.2.2.2 in
    let h4 = h3.2 in
    let h5 = h4.2 in
    let h6 = h5.2 in
    record {
      message = a;
      repeat = b;
      source = c;
      spare = d;
      authority = e;
      application = f;
      type = t;
      longitude = x;
      latitude = y;
      left = us;
      is = refl;
      message_is = exactly 6 1 8 _ a h.0 h.1;
      spare_is = exactly 2 4 0 _ d h3.0 h3.1;
      authority_is = exactly 10 1 412 _ e h4.0 h4.1;
      application_is = exactly 6 1 3 _ f h5.0 h5.1;
      type_is = passed 4 1 (1 ‥ 5) _ t h6.0 h6.1;
      before = y ∷ x ∷ t ∷ f ∷ e ∷ d ∷ c ∷ b ∷ a ∷ [];
      holds = h6.2.2.2;
    }

-- ---- what an accepted message has

-- whatever its body, 78 bits from there on
spans : (t : Kind) (us : List ℕ) → extent (body t tail) 106 us ≡ 78
unfolding wide
spans cyclone us = refl
spans gale us = refl
spans waves us = refl
spans fog us = refl
spans surge us = refl

module _ (s vs : List ℕ) (e : read warning [] 0 (bits_of s) ≡ accepted vs) where
  abbrev begins : Front vs
  begins = front vs (legal warning [] 0 vs (bits_of s) (read_write warning [] 0 vs (bits_of s) e))

  pub bytes : length s ≡ 23
  unfolding warning
  bytes =
      let n = extent_laid warning [] 0 vs (bits_of s) (read_write warning [] 0 vs (bits_of s) e) in
      let d : List ℕ → List ℕ = drop 1 in
      let us = d (d (d (d (d (d vs))))) in
      omega (arith, n, spans (kind_of (get_or us 0 0)) (d (d (d us))), length_bits s)

  message_at : field_at s 0 6 ≡ 8
  unfolding field_at warning
  message_at = sym (value_at 0 warning vs (bits_of s) e 6 (only 6 2 (8 ‥ 8)) kept _ refl) ∙ ap (λ l. get_or l 0 0) begins.is ∙ begins.message_is

  authority_at : field_at s 40 10 ≡ 412
  unfolding field_at warning
  authority_at = sym (value_at 4 warning vs (bits_of s) e 10 (only 10 2 (412 ‥ 412)) kept _ refl) ∙ ap (λ l. get_or l 4 0) begins.is ∙ begins.authority_is

  application_at : field_at s 50 6 ≡ 3
  unfolding field_at warning
  application_at = sym (value_at 5 warning vs (bits_of s) e 6 (only 6 2 (3 ‥ 3)) kept _ refl) ∙ ap (λ l. get_or l 5 0) begins.is ∙ begins.application_is

  pub type_at : field_at s 56 4 ≡ get_or vs 6 0
  unfolding field_at warning
  type_at = sym (choice_at 6 warning vs (bits_of s) e 4 (only 4 2 (1 ‥ 5)) (λ t. rest (kind_of t)) refl)

  typed_at : between 1 5 (field_at s 56 4) ≡ true
  typed_at = ap (between 1 5) (type_at ∙ ap (λ l. get_or l 6 0) begins.is) ∙ begins.type_is

pub sound : Sound warnings
unfolding warnings
sound = record {
  sized = λ s vs e. leaves_size asked 40 56 4 s 3 (omega (arith, bytes s vs e)) (lit≤ tt) (message_at s vs e) (authority_at s vs e) (application_at s vs e) refl (typed_at s vs e);
  kinds = λ b vs e. refl;
  stays = λ vs i v p w e. refl;
  some = λ e. absurd (false≢true e);
}

-- what its first tests pass has 23 bytes
pub sized : (s : List ℕ) → warnings.lead s ≡ 0 → length s ≡ 23
unfolding warnings
sized = head_sized asked 40 56 4
