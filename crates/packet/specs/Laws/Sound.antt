-- The packet's layout is sound: what its fields accept has its code and version where the first tests look. Assumes nothing.
use Rattle.std.specs.Prelude.{◌≡◌, ℕ, ◌≤◌, Bool, true, false, cond, ◌&&◌, List, [], length, ◌==◌, nat_le, slice_index, refl}
use Rattle.std.proofs.Common.{sym, ◌∙◌, subst, eq-eqb}
use Rattle.std.proofs.lemmas.Bool.{false≢true}
use Rattle.bits.specs.Bits.{bits_of, field_at}
use Rattle.format.specs.Fmt.{accepted, read}
use Rattle.format.specs.Message.{Sound, told, read_message}
use Rattle.format.specs.Words.{◌‥◌, only, kept}
use Rattle.format.specs.Laws.Entries.{entries, legal_entries}
use Rattle.format.specs.Laws.First.{led_between}
use Rattle.format.specs.Laws.Legal.{Legal, exactly}
use Rattle.format.proofs.Laws.Legal.{legal}
use Rattle.format.specs.Laws.Lead.{read_led}
use Rattle.format.proofs.Laws.Offsets.{value_at}
use Rattle.format.proofs.Laws.Round.{read_write}
use Rattle.packet.specs.Packet.{version, greatest, packet, packets}

-- accepted values, entry by entry
pub listed : (vs : List ℕ) → Legal packet [] vs → entries 0 8 vs ≡ vs
unfolding packet
listed vs h = legal_entries packet 8 vs (λ n. tt) h

-- the code and the version are in front
pub named : (s vs : List ℕ) → read packet [] 0 (bits_of s) ≡ accepted vs → (field_at s 0 8 ≡ 0xE1) × (field_at s 8 3 ≡ version)
unfolding packet entries field_at
named s vs e =
    let b = bits_of s in
    let h = legal packet [] 0 vs b (read_write packet [] 0 vs b e) in
    let g = subst (Legal packet []) (sym (listed vs h)) h in
    let kind = exactly 8 1 0xE1 _ (slice_index vs 0) g.0 g.1 in
    let edition = exactly 3 1 version _ (slice_index vs 1) g.2.0 g.2.1 in (
      sym (value_at 0 packet vs b e 8 (only 8 2 (0xE1 ‥ 0xE1)) kept _ refl) ∙ kind,
      sym (value_at 1 packet vs b e 3 (only 3 2 (version ‥ version)) kept _ refl) ∙ edition,
    )

pub sound : Sound packets
unfolding packets
sound = record {
  sized = λ s vs e. let (kind, edition) = named s vs e in rw (eq-eqb (field_at s 0 8) 0xE1 kind, eq-eqb (field_at s 8 3) version edition) (go (nat_le 5 (length s)) (nat_le (length s) greatest));
  kinds = λ b vs e. refl;
  stays = λ vs i v p w e. refl;
  some = λ e. absurd (false≢true e);
}
  where
    go : (x y : Bool) → ◌≡◌ {A = ℕ} (cond x (cond (x && y) 0 1) 1) (cond (x && y) 0 1)
    go true y = refl
    go false y = refl

-- what its first tests pass has a packet's size
pub sized : (s : List ℕ) → packets.lead s ≡ 0 → (5 ≤ length s) × (length s ≤ greatest)
unfolding packets
sized s e = led_between 5 5 greatest (λ s. (field_at s 0 8 == 0xE1) && field_at s 8 3 == version) s e

-- and so has a packet that is read
pub read_sized : (s : List ℕ) → (told (read_message packets s)).code ≡ 0 → (5 ≤ length s) × (length s ≤ greatest)
read_sized s e = sized s (read_led packets s e)
