-- A to L: every letter has its rows; one test that is computed over the whole table, and one law that turns it into the equation of each row. Assumes nothing.
use Rattle.std.specs.Prelude.{ℕ, true, List, [], ◌∷◌, ◌≡◌, refl, get_or}
use Rattle.bits.specs.Bits.{bit, value_of, digits, bits_of, bytes_of, field_at, put_at}
use Rattle.bits.specs.Xor.{xor_of}
use Rattle.walk.specs.Sign.{int_of, spell_of}
use Rattle.text.specs.Text.{english, chinese, in_language}
use Rattle.format.specs.Fmt.{read_field, read, write_field, sized, write, spot}
use Rattle.format.specs.Message.{read_message, write_message, correct_message}
use Rattle.format.specs.Words.{walk, wide, or_zero}
use Rattle.frame.specs.Frame.{leads}
use Rattle.txsq.specs.Txsq.{txsq, txsqs, record_of as txsq_of}
use Rattle.gljc.specs.Gljc.{gljc, gljcs}
use Rattle.distress.specs.Report.{report, reports, report_of, values_of as report_values}
use Rattle.distress.specs.Changed.{changed}
use Rattle.notice_fields.specs.Parts.{subtypes, subtype}
use Rattle.format.specs.Groups.{repeat, repeat_of, repeat_told}
use Rattle.notice.specs.Notice.{notice, notices}
use Rattle.notice.specs.Record.{head_of, text_of, record_of as notice_of, values_of as notice_values}
use Rattle.packet.specs.Packet.{packet, packets, record_of as packet_of, values_of as packet_values}
use Rattle.places.specs.Places.{every_below, first_from, good_place, all_apart, good_places, open_at, free_at}
use Rattle.places.specs.Desk.{alike, first_tests, joins, received, accepting, missing_below, answers, asking}
use Rattle.desk_runs.specs.Runs.{run, log}
use Rattle.ais.specs.Slots.{first_of, slots_in, slots_for}
use Rattle.numbers_to_stand_by.specs.Cases.{signs, replies}
use Rattle.numbers_to_stand_by.specs.Table.{A, B, C, D, E, F, G, H, I, J, K, L, Row, says, table, standing, rank, one_more, tally}

-- no letter is left out, and none of its rows
pub all_letters : tally table ≡ (A, 1) ∷ (B, 2) ∷ (C, 1) ∷ (D, 2) ∷ (E, 2) ∷ (F, 2) ∷ (G, 4) ∷ (H, 4) ∷ (I, 2) ∷ (J, 2) ∷ (K, 4) ∷ (L, 3) ∷ []
unfolding tally one_more rank
all_letters = refl

pub all_stand : standing table ≡ true
unfolding standing signs replies alike read_message write_message correct_message read read_field write write_field sized spot walk wide or_zero value_of bit digits bits_of bytes_of field_at put_at xor_of int_of spell_of in_language english chinese leads txsq txsqs txsq_of gljc gljcs report reports report_of report_values changed subtypes subtype repeat repeat_of repeat_told notice notices head_of text_of notice_of notice_values packet packets packet_of packet_values every_below first_from good_place all_apart good_places open_at free_at first_tests joins received accepting missing_below answers asking run log first_of slots_in slots_for
all_stand = refl

-- row i of a table
abbrev pub row_at : List Row → ℕ → Row
row_at rs i = get_or rs i (says A [] [])
