-- Where a reading in a row answers 0, the message was read, and its numbers stand at the front of the row: for each call, by one law (Refused `zero_filling`), since no family refuses by 0. Assumes nothing.
use Rattle.std.specs.Prelude.{ℕ, ◌≡◌, List, ◌∷◌, ℤ, pos, length}
use Rattle.std.proofs.Common.{sym, ap}
use Rattle.format.specs.Promises.{read_record, plain}
use Rattle.format.specs.Refusals.{Verdict}
use Rattle.format.proofs.Laws.Family.{never_read}
use Rattle.area.specs.Area.{areas, record_of as area_of}
use Rattle.area.specs.Laws.Demands.{family as area_family}
use Rattle.distress.specs.Report.{reports, report_of}
use Rattle.distress.proofs.Laws.Demands.{family as report_family}
use Rattle.gljc.specs.Gljc.{gljcs, record_of as gljc_of}
use Rattle.gljc.specs.Laws.Demands.{family as gljc_family}
use Rattle.packet.specs.Packet.{packets, record_of as packet_of}
use Rattle.packet.specs.Laws.Demands.{family as packet_family}
use Rattle.sentence.specs.Sentence.{read_sentence}
use Rattle.sentence.specs.Laws.Demands.{no_zero_heard}
use Rattle.txhz.specs.Txhz.{txhzs, record_of as txhz_of}
use Rattle.txhz.specs.Laws.Demands.{family as txhz_family}
use Rattle.txsq.specs.Txsq.{txsqs, record_of as txsq_of}
use Rattle.txsq.specs.Laws.Demands.{family as txsq_family}
use Rattle.txxx.specs.Txxx.{txxxs, record_of as txxx_of}
use Rattle.txxx.specs.Laws.Demands.{family as txxx_family}
use Rattle.warning.specs.Warning.{warnings, record_of as warning_of}
use Rattle.warning.specs.Laws.Demands.{family as warning_family}
use Rattle.c_rows.specs.Area.{row_of as area_row, numbers_of as area_numbers}
use Rattle.c_rows.specs.Gljc.{row_of as gljc_row, numbers_of as gljc_numbers}
use Rattle.c_rows.specs.Packet.{row_of as packet_row, numbers_of as packet_numbers}
use Rattle.c_rows.specs.Report.{row_of as report_row, numbers_of as report_numbers}
use Rattle.c_rows.specs.Row.{Fills, entries}
use Rattle.c_rows.specs.Sentence.{sentence_numbers}
use Rattle.c_rows.specs.Laws.Refused.{Filled, zero_filling}
use Rattle.c_rows.specs.Txhz.{row_of as txhz_row, numbers_of as txhz_numbers}
use Rattle.c_rows.specs.Txsq.{row_of as txsq_row, numbers_of as txsq_numbers}
use Rattle.c_rows.specs.Txxx.{row_of as txxx_row, numbers_of as txxx_numbers}
use Rattle.c_rows.specs.Warning.{row_of as warning_row, numbers_of as warning_numbers}

module _ (s : List ℕ) (row : List ℤ) (c : Verdict) (t : List ℤ) where
  pub zero_report : Fills (report_numbers s) row c t → c.code ≡ 0 → Filled (λ r. report_row r) (read_record reports report_of s) row t
  zero_report = zero_filling (λ r. report_row r) (read_record reports report_of s) (never_read report_family s)

  pub zero_gljc : Fills (gljc_numbers s) row c t → c.code ≡ 0 → Filled (λ r. entries (gljc_row r)) (read_record gljcs gljc_of s) row t
  zero_gljc = zero_filling (λ r. entries (gljc_row r)) (read_record gljcs gljc_of s) (never_read gljc_family s)

  pub zero_txsq : Fills (txsq_numbers s) row c t → c.code ≡ 0 → Filled (λ r. entries (txsq_row r.0)) (read_record txsqs txsq_of s) row t
  zero_txsq = zero_filling (λ r. entries (txsq_row r.0)) (read_record txsqs txsq_of s) (never_read txsq_family s)

  pub zero_txxx : Fills (txxx_numbers s) row c t → c.code ≡ 0 → Filled (λ r. entries (txxx_row r.0)) (read_record txxxs txxx_of s) row t
  zero_txxx = zero_filling (λ r. entries (txxx_row r.0)) (read_record txxxs txxx_of s) (never_read txxx_family s)

  pub zero_txhz : Fills (txhz_numbers s) row c t → c.code ≡ 0 → Filled (λ r. entries (txhz_row r)) (read_record txhzs txhz_of s) row t
  zero_txhz = zero_filling (λ r. entries (txhz_row r)) (read_record txhzs txhz_of s) (never_read txhz_family s)

  pub zero_warning : Fills (warning_numbers s) row c t → c.code ≡ 0 → Filled (λ r. entries (warning_row r)) (read_record warnings warning_of s) row t
  zero_warning = zero_filling (λ r. entries (warning_row r)) (read_record warnings warning_of s) (never_read warning_family s)

  pub zero_area : Fills (area_numbers s) row c t → c.code ≡ 0 → Filled (λ r. area_row r) (read_record areas area_of s) row t
  zero_area = zero_filling (λ r. area_row r) (read_record areas area_of s) (never_read area_family s)

  pub zero_packet : Fills (packet_numbers s) row c t → c.code ≡ 0 → Filled (λ r. entries (packet_row r.0 (length r.1))) (read_record packets packet_of s) row t
  zero_packet = zero_filling (λ r. entries (packet_row r.0 (length r.1))) (read_record packets packet_of s) (never_read packet_family s)

  pub zero_sentence : Fills (sentence_numbers s) row c t → c.code ≡ 0 → Filled (λ x. pos x.0 ∷ report_row x.1) (read_sentence s) row t
  zero_sentence = zero_filling (λ x. pos x.0 ∷ report_row x.1) (read_sentence s) (λ p e. no_zero_heard s (sym (ap plain e)))
