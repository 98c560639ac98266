-- The content that is shown stands in the packet itself, from byte 4 to its end. Assumes nothing.
use Rattle.std.specs.Prelude.{◌≡◌, ℕ, ◌+◌, ◌-◌, ◌*◌, ◌≤◌, List, [], length, take, drop, ◌≢◌, slice_index, slice_index_or, Result}
use Rattle.std.proofs.Math.Path.{refl, sym, ap}
use Rattle.std.proofs.Common.{◌∙◌, arith}
use Rattle.bits.specs.Bits.{Bytes, bits_of}
use Rattle.bits.specs.Laws.Bytes.{length_bits}
use Rattle.bits.specs.Laws.Runs.{run_whole}
use Rattle.format.specs.Fmt.{accepted, end, read}
use Rattle.format.specs.Words.{any, only, kept}
use Rattle.format.specs.Laws.Entries.{entries}
use Rattle.format.specs.Laws.Extent.{extent}
use Rattle.format.proofs.Laws.Extent.{extent_laid}
use Rattle.format.proofs.Laws.Legal.{legal}
use Rattle.format.proofs.Laws.Offsets.{value_at}
use Rattle.format.proofs.Laws.Round.{read_write}
use Rattle.format.specs.Laws.Runs.{run_stands}
use Rattle.format.proofs.Laws.Showing.{shows_none, shows_values}
use Rattle.format.proofs.Laws.Whole.{was}
use Rattle.format.specs.Refusals.{Verdict, told_of}
use Rattle.format.specs.Promises.{refused_by, verdict_of}
use Rattle.format.specs.Laws.Outcomes.{told_out}
use Rattle.packet.specs.Promises.{Reads, Shows}
use Rattle.packet.specs.Packet.{packet, packets, record_of}
use Rattle.packet.specs.declared.reading.Packet.{Packet}
use Rattle.format.specs.declared.Refusal.{Refusal}
use Rattle.packet.specs.Laws.Demands.{family}
use Rattle.packet.specs.Laws.Sound.{listed}

module _ (s : List ℕ) (a : Result Packet Refusal) {n : Verdict} (reads : Reads s a) (number : n ≡ told_of a) where
  -- a refused packet shows nothing
  pub hidden : (n.code ≢ 0) → Shows s []
  hidden = shows_none packets family.judged (λ r. accepted r.0) refused_by record_of verdict_of (λ r. refl) (λ c. refl) (λ r. r.1) [] s reads (number ∙ told_out a)

  -- A good packet shows its content.
  pub shown : Bytes s → n.code ≡ 0 → (4 ≤ length s) × Shows s (take (length s - 4) (drop 4 s))
  unfolding packets packet record_of entries
  shown fine z =
      let (vs, e, is-shown) = shows_values packets family.judged (λ r. accepted r.0) refused_by record_of verdict_of (λ r. refl) (λ c. refl) (λ r. r.1) [] s reads (number ∙ told_out a) z in
      let b = bits_of s in
      let walked : read packet [] 0 b ≡ accepted vs = (was packets s vs e).walked in
      let w = read_write packet [] 0 vs b walked in
      let h = legal packet [] 0 vs b w in
      let n = slice_index_or vs 6 0 in
      let size : length s ≡ 4 + n = omega (arith, extent_laid packet [] 0 vs b w ∙ ap (extent packet 0) (sym (listed vs h)), length_bits s) in
      let is = value_at 7 packet (entries 0 8 vs) b (walked ∙ ap accepted (sym (listed vs h))) (n * 8) (only (n * 8) 4 any) kept end refl in
      let left : n ≡ length s - 4 = omega (arith, size) in (
        omega (arith, size),
        sym (is-shown ∙ run_stands s 32 n (slice_index vs 7) (omega (arith, size)) is ∙ run_whole s 4 n fine (omega (arith, size)) ∙ ap (λ k. take k (drop 4 s)) left),
      )
