-- The ways of a packet into a notice that is open, each with the facts that lead to it; runs of bytes compared byte by byte.
use mathlib.Core.Path.{◌≡◌, refl, sym, ap, ◌∙◌}
use mathlib.Core.Bool.{Bool, true, false, not, ◌&&◌, ◌||◌, and-true, and_assoc}
use mathlib.Core.List.{List}
use Prim.Native.Nat.{ℕ, suc, ◌+◌, ◌≤◌, ◌<◌}
use native.Mathlib.Omega.{arith}
use lib.Dec.{eqb}
use lib.ListN.{length, drop, get_or, drop_of_length-le}
use lib.Seq.{drop-cons}
use borrow.Author.Tests.{eq-eqb, ne_eqb}
use Rattle.format.specs.Refusals.{bare}
use Rattle.packet.specs.declared.reading.Packet.{Packet}
use Rattle.places.specs.Places.{held, holding, lacks}
use Rattle.places.specs.Desk.{stays, turned_away, taken, in_cell_of, alike, contradicts, joins}
use Rattle.places.specs.Laws.Alike.{alike_same}
use Rattle.places.specs.declared.Place.{Place}
use Rattle.places.specs.Replies.{Again}

module _ (s : List ℕ) (i : ℕ) (p : Place) (r : Packet) (c : List ℕ) where
  abbrev pub agree : Bool
  agree = eqb r.language p.language && eqb r.total p.total

  -- a packet contradicts by its language and total, or by its content at a held number
  apart : {x : Bool} → agree ≡ x → contradicts s i p r c ≡ not (x && (lacks p r.own || alike (in_cell_of s i p r.own) c))
  apart e = ap not (sym (and_assoc (eqb r.language p.language) (eqb r.total p.total) _) ∙ ap (λ x. x && (lacks p r.own || alike (in_cell_of s i p r.own) c)) e)

  pub other_head : agree ≡ false → joins s i p r c ≡ turned_away s (bare 7)
  unfolding joins
  other_head e = rw (apart e) refl

  module _ (agreed : agree ≡ true) where
    pub not_held : held p r.own ≡ 0 → joins s i p r c ≡ taken s i (holding p r.own (length c)) r c
    unfolding joins
    not_held n = rw (apart agreed, eq-eqb (held p r.own) 0 n) refl

    pub held_again : (held p r.own ≡ 0 → ⊥) → alike (in_cell_of s i p r.own) c ≡ true → joins s i p r c ≡ record { reply = Again; change = stays; store = s }
    unfolding joins
    held_again n e = rw (apart agreed, ne_eqb (held p r.own) 0 n, e) refl

    pub other_content : (held p r.own ≡ 0 → ⊥) → alike (in_cell_of s i p r.own) c ≡ false → joins s i p r c ≡ turned_away s (bare 7)
    unfolding joins
    other_content n e = rw (apart agreed, ne_eqb (held p r.own) 0 n, e) refl

-- ---- bytes

pub other_length : (s t : List ℕ) → (length s ≡ length t → ⊥) → alike s t ≡ false
other_length s t n = go (alike s t) refl
  where
    go : (x : Bool) → alike s t ≡ x → x ≡ false
    go true e = absurd (n (ap length (alike_same s t e)))
    go false e = refl

-- one byte more
pub alike_next : (s t : List ℕ) (i : ℕ) (same : Bool) → i < length s → length s ≡ length t → (same && alike (drop i s) (drop i t)) ≡ ((same && eqb (get_or s i 0) (get_or t i 0)) && alike (drop (i + 1) s) (drop (i + 1) t))
unfolding alike
alike_next s t i same l e =
    let next : i + 1 ≡ suc i = omega arith in
    rw (drop-cons s i 0 l, drop-cons t i 0 (omega (arith, l, e)), next) (sym (and_assoc same (eqb (get_or s i 0) (get_or t i 0)) (alike (drop (suc i) s) (drop (suc i) t))))

pub alike_none : (s t : List ℕ) (i : ℕ) (same : Bool) → length s ≤ i → length s ≡ length t → (same && alike (drop i s) (drop i t)) ≡ same
unfolding alike
alike_none s t i same l e = rw (drop_of_length-le s l, drop_of_length-le t {i = i} (omega (arith, l, e))) (and-true same)
