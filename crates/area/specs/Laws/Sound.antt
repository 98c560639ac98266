-- An area's layout is sound: what its fields accept leaves nothing to the first tests. Assumes nothing.
use Rattle.std.specs.Prelude.{◌≡◌, refl, true, List, [], ℕ, ◌+◌, length, get_or, drop}
use Rattle.std.proofs.Math.Path.{sym}
use Rattle.std.proofs.Common.{ap, ◌∙◌, subst, arith, lit≤}
use Rattle.std.proofs.lemmas.Bool.{false≢true}
use Rattle.ais_common.specs.Laws.Sound.{leaves_size, sized as head_sized}
use Rattle.bits.specs.Bits.{bits_of, field_at}
use Rattle.bits.specs.Laws.Bytes.{length_bits}
use Rattle.format.specs.Fmt.{accepted, read}
use Rattle.format.specs.Message.{Sound, between}
use Rattle.format.specs.Words.{◌‥◌, only, wide, kept}
use Rattle.format.specs.Laws.Entries.{Long, entries, legal_entries}
use Rattle.format.specs.Laws.Extent.{extent}
use Rattle.format.proofs.Laws.Extent.{extent_laid}
use Rattle.format.specs.Laws.Legal.{Legal, passed, exactly}
use Rattle.format.proofs.Laws.Legal.{legal}
use Rattle.format.proofs.Laws.Offsets.{value_at, choice_at}
use Rattle.format.proofs.Laws.Round.{read_write}
use Rattle.area.specs.Area.{asked, tail, area, areas}
use Rattle.area.specs.Shapes.{Kind, circle, rectangle, kind_of, shape}

-- ---- accepted values

-- whatever the shape, 19 of them
long : (t : Kind) → Long (shape t tail) 8
long circle = tt
long rectangle = tt

-- those that are one number each, and the shape's, behind which the others stand
pub record Front (vs : List ℕ) : Type 0 where
  pub is : entries 0 19 vs ≡ vs
  pub message_is : get_or vs 0 0 ≡ 6
  pub fill_is : get_or vs 6 0 ≡ 0
  pub authority_is : get_or vs 7 0 ≡ 412
  pub application_is : get_or vs 8 0 ≡ 11
  pub shape_is : between 1 2 (get_or vs 10 0) ≡ true
  pub before : List ℕ
  pub holds : Legal (shape (kind_of (get_or vs 10 0)) tail) before (entries 11 8 vs)

pub front : (vs : List ℕ) → Legal area [] vs → Front vs
unfolding area entries
front vs h =
    let is = legal_entries area 19 vs (λ v. long (kind_of v)) h in
    let g = subst (Legal area []) (sym is) h in
    let g6 = g.2.2.2.2.2.2 in
    let g7 = g6.2 in
    let g8 = g7.2 in
    let g10 = g8.2.2 in
    record {
      is = is;
      message_is = exactly 6 1 6 _ (get_or vs 0 0) g.0 g.1;
      fill_is = exactly 1 4 0 _ (get_or vs 6 0) g6.0 g6.1;
      authority_is = exactly 10 1 412 _ (get_or vs 7 0) g7.0 g7.1;
      application_is = exactly 6 1 11 _ (get_or vs 8 0) g8.0 g8.1;
      shape_is = passed 2 1 (1 ‥ 2) _ (get_or vs 10 0) g10.0 g10.1;
      before = _;
      holds = g10.2;
    }

-- ---- what an accepted message has

-- whatever its shape, 248 bits
spans : (t : Kind) (us : List ℕ) → extent (shape t tail) 94 us ≡ 154
unfolding wide
spans circle us = refl
spans rectangle us = refl

extent_area : (vs : List ℕ) → extent area 0 vs ≡ 248
unfolding area
extent_area vs =
    let us = drop 1 (drop 1 (drop 1 (drop 1 (drop 1 (drop 1 (drop 1 (drop 1 (drop 1 (drop 1 vs))))))))) in
    ap (λ x. 6 + (2 + (30 + (2 + (30 + (1 + (1 + (10 + (6 + (4 + (2 + x))))))))))) (spans (kind_of (get_or us 0 0)) (drop 1 us))

module _ (s vs : List ℕ) (e : read area [] 0 (bits_of s) ≡ accepted vs) where
  abbrev begins : Front vs
  begins = front vs (legal area [] 0 vs (bits_of s) (read_write area [] 0 vs (bits_of s) e))

  pub bytes : length s ≡ 31
  bytes =
      let n = extent_laid area [] 0 vs (bits_of s) (read_write area [] 0 vs (bits_of s) e) ∙ extent_area vs in
      omega (arith, n, length_bits s)

  message_at : field_at s 0 6 ≡ 6
  unfolding field_at area
  message_at = sym (value_at 0 area vs (bits_of s) e 6 (only 6 2 (6 ‥ 6)) kept _ refl) ∙ begins.message_is

  authority_at : field_at s 72 10 ≡ 412
  unfolding field_at area
  authority_at = sym (value_at 7 area vs (bits_of s) e 10 (only 10 2 (412 ‥ 412)) kept _ refl) ∙ begins.authority_is

  application_at : field_at s 82 6 ≡ 11
  unfolding field_at area
  application_at = sym (value_at 8 area vs (bits_of s) e 6 (only 6 2 (11 ‥ 11)) kept _ refl) ∙ begins.application_is

  pub shape_at : field_at s 92 2 ≡ get_or vs 10 0
  unfolding field_at area
  shape_at = sym (choice_at 10 area vs (bits_of s) e 2 (only 2 2 (1 ‥ 2)) (λ t. shape (kind_of t) tail) refl)

  shaped_at : between 1 2 (field_at s 92 2) ≡ true
  shaped_at = ap (between 1 2) shape_at ∙ begins.shape_is

pub sound : Sound areas
unfolding areas
sound = record {
  sized = λ s vs e. leaves_size asked 72 92 2 s 11 (omega (arith, bytes s vs e)) (lit≤ tt) (message_at s vs e) (authority_at s vs e) (application_at s vs e) refl (shaped_at s vs e);
  kinds = λ b vs e. refl;
  stays = λ vs i v p w e. refl;
  some = λ e. absurd (false≢true e);
}

-- what its first tests pass has 31 bytes
pub sized : (s : List ℕ) → areas.lead s ≡ 0 → length s ≡ 31
unfolding areas
sized = head_sized asked 72 92 2
