-- The content that is shown stands in the frame itself, from byte 17 to the seal. Assumes nothing.
use Rattle.std.specs.Prelude.{◌≡◌, ℕ, ◌+◌, ◌-◌, ◌*◌, ◌≤◌, take, drop}
use Rattle.std.proofs.Math.Path.{refl, sym, ap}
use Rattle.std.proofs.Common.{◌∙◌, arith, lit<, length-take-le}
use mathlib.Core.List.{List, []}
use Rattle.std.proofs.Math.ListN.{length, get_or}
use Rattle.bits.specs.Bits.{Bytes, bits_of}
use Rattle.bits.specs.Laws.Bytes.{length_bits}
use Rattle.frame.specs.Frame.{bytes_for}
use Rattle.frame.specs.Laws.Alone.{answered_alone}
use Rattle.frame.specs.Laws.Content.{content_part}
use Rattle.format.specs.Fmt.{accepted, end, pad, read}
use Rattle.format.proofs.Laws.Offsets.{value_at}
use Rattle.format.specs.Laws.Entries.{entries}
use Rattle.format.proofs.Laws.Legal.{legal}
use Rattle.format.proofs.Laws.Round.{read_write}
use Rattle.format.specs.Words.{any, ◌‥◌, only, kept, fill}
use Rattle.format.specs.Refusals.{Verdict, told_of}
use Rattle.format.specs.Promises.{answered, read_record, refused_by, out_of, verdict_of}
use Rattle.format.specs.Laws.Outcomes.{told_out}
use Rattle.format.proofs.Laws.Showing.{shows_none, shows_values}
use Rattle.format.proofs.Laws.Whole.{was}
use Rattle.txsq.specs.Promises.{Reads, Shows}
use Rattle.txsq.specs.Txsq.{txsq, txsqs, record_of}
use Rattle.format.specs.declared.Refusal.{Refusal}
use Rattle.std.specs.Prelude.{Result}
use Rattle.txsq.specs.declared.reading.Txsq.{Txsq}
use Rattle.txsq.specs.Laws.Demands.{family, listed, long, fit}

module _ (s : List ℕ) (a : Result Txsq Refusal) {n : Verdict} (reads : Reads s a) (number : n ≡ told_of a) where
  whole : out_of a ≡ answered (λ r. accepted r.0) refused_by (read_record txsqs record_of s)
  whole = reads ∙ answered_alone (read_record txsqs record_of s)

  told : n ≡ verdict_of (out_of a)
  told = number ∙ told_out a

  -- a refused frame shows nothing
  pub hidden : (n.code ≡ 0 → ⊥) → Shows s []
  hidden = shows_none txsqs family.judged (λ r. accepted r.0) refused_by record_of verdict_of (λ r. refl) (λ c. refl) (λ r. r.1) [] s whole told

  -- A good frame is long enough, and shows its content.
  pub shown : Bytes s → n.code ≡ 0 → (18 ≤ length s) × Shows s (take (length s - 1 - 17) (drop 17 s))
  unfolding txsqs txsq record_of entries
  shown fine z =
      let (vs, e, is-shown) = shows_values txsqs family.judged (λ r. accepted r.0) refused_by record_of verdict_of (λ r. refl) (λ c. refl) (λ r. r.1) [] s whole told z in
      let b = bits_of (take (length s - 1) s) in
      let walked : read txsq [] 0 b ≡ accepted vs = (was txsqs s vs e).walked in
      let h = legal txsq [] 0 vs b (read_write txsq [] 0 vs b walked) in
      let l = get_or vs 9 0 in
      let entered : read txsq [] 0 b ≡ accepted (entries 0 13 vs) = walked ∙ ap accepted (sym (listed vs h)) in
      let is = value_at 11 txsq (entries 0 13 vs) b entered l (only l 4 any) kept (fill (pad l) end) refl in
      let filled = value_at 12 txsq (entries 0 13 vs) b entered (pad l) (only (pad l) 5 (0 ‥ 0)) kept end refl in
      let n : length b ≡ (length s - 1) * 8 = length_bits (take (length s - 1) s) ∙ ap (◌* 8) (length-take-le (length s - 1) s (omega arith)) in
      let (bytes, _) = long b vs walked in
      let size : length s ≡ 17 + bytes_for l + 1 = omega (arith, bytes, n, fit vs h) in
      (omega (arith, size), sym (is-shown ∙ content_part s 17 1 l (get_or vs 11 0) (get_or vs 12 0) fine (lit< tt) size is filled))
