-- What comes after case J of paper 01, "Numbers to stand by" (crate numbers_to_stand_by): runs computed from the definitions on an empty desk.
use Rattle.std.specs.Prelude.{◌≡◌, refl, List, [], ◌∷◌, ℕ}
use Rattle.std.proofs.Common.{sym, ap, le_refl, le_of_eq}
use Rattle.std.proofs.lemmas.List.{length-replicate, get_or-replicate}
use Rattle.bits.specs.Bits.{bit, value_of, digits, bits_of, bytes_of, field_at}
use Rattle.format.specs.Fmt.{read_field, read}
use Rattle.format.specs.Message.{read_message}
use Rattle.format.specs.Words.{walk}
use Rattle.packet.specs.Packet.{packet, packets, record_of}
use Rattle.places.specs.Places.{blank, four_places, every_below, first_from, good_place, all_apart, good_places, open_at, free_at}
use Rattle.places.specs.Desk.{store_bytes, alike, first_tests, joins, received, accepting, missing_below, joined_below, answers, asking, dropping}
use Rattle.places.specs.Replies.{Joined, Missing, Refused}
use Rattle.desk_runs.specs.Runs.{Empty, empty, comes, drops, reply_to, run, asked}

-- the theorems speak of the desk that the runs begin with
is_empty : Empty empty
is_empty = record {
  wide = le_refl four_places;
  deep = le_of_eq (sym (length-replicate {A = ℕ} store_bytes 0));
  closed = λ i l. ap (λ p. p.«open») (get_or-replicate four_places i blank blank l);
}

-- message number 7, total 3: packets 0, 1 and 2, of one byte each
abbrev first : List ℕ
first = 0xE1 ∷ 0x20 ∷ 0x70 ∷ 0xC0 ∷ 0x41 ∷ []

abbrev second : List ℕ
second = 0xE1 ∷ 0x20 ∷ 0x70 ∷ 0xC1 ∷ 0x42 ∷ []

abbrev third : List ℕ
third = 0xE1 ∷ 0x20 ∷ 0x70 ∷ 0xC2 ∷ 0x43 ∷ []

-- when packets 0, 1 and 2 have come, the notice is handed out in number order
then_whole : asked 7 (9 ∷ 9 ∷ 9 ∷ 9 ∷ []) [] (run empty (comes second ∷ comes first ∷ comes third ∷ [])) ≡ record { reply = Joined 3 0; notice = 0x41 ∷ 0x42 ∷ 0x43 ∷ 9 ∷ []; missing = [] }
unfolding run accepting received joins asking answers missing_below joined_below first_tests good_places all_apart good_place every_below first_from open_at free_at alike read_message packets packet record_of read read_field walk field_at value_of bit digits bits_of bytes_of
then_whole = refl

-- the old box's fault: packets of a notice that was dropped are none of the next one's under the same number
number_again : asked 7 [] (9 ∷ 9 ∷ []) (run empty (comes second ∷ drops 7 ∷ comes first ∷ comes third ∷ [])) ≡ record { reply = Missing 2; notice = []; missing = 0 ∷ 2 ∷ [] }
unfolding run accepting received joins asking answers dropping missing_below joined_below first_tests good_places all_apart good_place every_below first_from open_at free_at alike read_message packets packet record_of read read_field walk field_at value_of bit digits bits_of bytes_of
number_again = refl

-- A packet that is refused at the desk tells its field at fault. The head is 8 bits of code, 3 of version, 1 of language, 8 of message number, 6 of total, 6 of own number:
-- the total begins at bit 8 + 3 + 1 + 8 = 20, the own number at 26. Of three packets none has own number 3;
own_past_total : reply_to (comes (0xE1 ∷ 0x20 ∷ 0x70 ∷ 0xC3 ∷ 0x44 ∷ [])) (run empty (comes first ∷ [])) ≡ Refused (record { code = 4; bit = 26 })
unfolding run accepting received joins first_tests good_places all_apart good_place every_below first_from open_at free_at alike read_message packets packet record_of read read_field walk field_at value_of bit digits bits_of bytes_of
own_past_total = refl

-- no notice has no packets;
total_of_none : reply_to (comes (0xE1 ∷ 0x20 ∷ 0x70 ∷ 0x00 ∷ 0x44 ∷ [])) (run empty (comes first ∷ [])) ≡ Refused (record { code = 4; bit = 20 })
unfolding run accepting received joins first_tests good_places all_apart good_place every_below first_from open_at free_at alike read_message packets packet record_of read read_field walk field_at value_of bit digits bits_of bytes_of
total_of_none = refl

-- and a head without content is too short, which no field tells.
head_alone : reply_to (comes (0xE1 ∷ 0x20 ∷ 0x70 ∷ 0xC3 ∷ [])) (run empty (comes first ∷ [])) ≡ Refused (record { code = 1; bit = 0 })
unfolding run accepting received joins first_tests good_places all_apart good_place every_below first_from open_at free_at alike read_message packets packet record_of read read_field walk field_at value_of bit digits bits_of bytes_of
head_alone = refl

-- Another content under packet number 0 contradicts it: the desk's own refusal has no bit.
other_content : reply_to (comes (0xE1 ∷ 0x20 ∷ 0x70 ∷ 0xC0 ∷ 0x44 ∷ [])) (run empty (comes first ∷ [])) ≡ Refused (record { code = 7; bit = 0 })
unfolding run accepting received joins first_tests good_places all_apart good_place every_below first_from open_at free_at alike read_message packets packet record_of read read_field walk field_at value_of bit digits bits_of bytes_of
other_content = refl
