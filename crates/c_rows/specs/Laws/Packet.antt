-- The numbers of a good packet are its record's and its content's offset and size; a refused one has its refusal. Assumes nothing.
use Rattle.std.specs.Prelude.{◌≡◌, refl, List, ℕ, ◌-◌, ◌≤◌, ℤ, length, take, drop, Ok, Err}
use Rattle.std.proofs.Common.{sym, ap, ◌∙◌, arith, length-drop, length-take-le}
use Rattle.std.proofs.Math.Path.{subst⁻¹}
use Rattle.bits.specs.Bits.{Bytes}
use Rattle.format.specs.Fmt.{accepted, also}
use Rattle.format.specs.Refusals.{seen_refusal}
use Rattle.format.specs.Promises.{read_record, refused_by, verdict_of}
use Rattle.format.specs.Message.{read_message}
use Rattle.format.specs.Laws.Answers.{numbered, bad_refuses}
use Rattle.packet.specs.Packet.{greatest, packets, record_of}
use Rattle.packet.specs.Promises.{Reads}
use Rattle.packet.specs.Laws.Demands.{good}
use Rattle.packet.specs.Laws.Shown.{shown}
use Rattle.packet.specs.Laws.Sound.{read_sized}
use Rattle.packet.specs.declared.reading.Packet.{Packet}
use Rattle.format.specs.declared.Refusal.{Refusal}
use Rattle.c_rows.specs.Row.{Fills, entries}
use Rattle.c_rows.specs.Laws.Row.{row_refused}
use Rattle.c_rows.specs.Packet.{row_of, numbers_of}

module _ (s : List ℕ) (r : Packet) (reads : Reads s (Ok r)) where
  -- a good packet has a packet's size
  pub good_size : (5 ≤ length s) × (length s ≤ greatest)
  good_size = read_sized s (ap (λ r. r.code) (sym (ap verdict_of reads ∙ numbered (λ r. accepted r.0) refused_by record_of verdict_of (λ r. refl) (λ c. refl) (read_message packets s))))

  pub good_numbers : Bytes s → numbers_of s ≡ accepted (entries (row_of r (length s - 4)))
  good_numbers fine =
      let (n, is) = shown s (Ok r) reads refl fine refl in
      let c = take (length s - 4) (drop 4 s) in
      let long : length c ≡ length s - 4 = length-take-le (length s - 4) (drop 4 s) (omega (arith, length-drop 4 s)) in
      ap (also (λ r. entries (row_of r.0 (length r.1)))) (good s r c reads is) ∙ ap (λ n. accepted (entries (row_of r n))) long

pub refused_numbers : (s : List ℕ) (row : List ℤ) (f : Refusal) → Reads s (Err f) → Fills (numbers_of s) row (seen_refusal f) row
refused_numbers s row f e =
    let (p, is, k) = bad_refuses accepted refused_by (λ o. o) (λ q. refl) (λ c. refl) (λ r. r.0) (read_record packets record_of s) {c = seen_refusal f} e in
    subst⁻¹ (λ d. Fills (numbers_of s) row d row) k (row_refused row (ap (also (λ r. entries (row_of r.0 (length r.1)))) is))
