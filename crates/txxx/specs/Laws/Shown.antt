-- The content that is shown stands in the frame itself, from byte 18 to the mark. Assumes nothing.
use Rattle.std.specs.Prelude.{◌≡◌, cond, ℕ, ◌+◌, ◌-◌, ◌*◌, ◌≤◌, take, drop}
use Rattle.std.proofs.Math.Path.{refl, sym, ap}
use Rattle.std.proofs.Common.{◌∙◌, arith, lit<, le-leb}
use mathlib.Core.List.{List, []}
use Rattle.std.proofs.Math.ListN.{length, get_or}
use Rattle.bits.specs.Bits.{Bytes, bits_of}
use Rattle.frame.specs.Frame.{bytes_for}
use Rattle.frame.specs.Laws.Alone.{answered_alone}
use Rattle.frame.specs.Laws.Content.{content_part}
use Rattle.format.specs.Fmt.{accepted, end, pad, read}
use Rattle.format.specs.Message.{between, read_message}
use Rattle.format.specs.Promises.{answered, read_record, refused_by, out_of, verdict_of}
use Rattle.format.specs.Laws.Outcomes.{told_out}
use Rattle.format.proofs.Laws.Offsets.{value_at}
use Rattle.format.specs.Laws.Entries.{entries}
use Rattle.format.proofs.Laws.Legal.{legal}
use Rattle.format.specs.Laws.Round.{also_inv}
use Rattle.format.proofs.Laws.Round.{read_write}
use Rattle.format.specs.Words.{any, ◌‥◌, only, kept, num, fill}
use Rattle.format.specs.Refusals.{Verdict, told_of}
use Rattle.format.proofs.Laws.Showing.{shows_none, shows_values}
use Rattle.format.proofs.Laws.Whole.{was}
use Rattle.txxx.specs.Promises.{Reads, Shows}
use Rattle.txxx.specs.Txxx.{txxx, txxxs, record_of}
use Rattle.txxx.specs.declared.reading.Txxx.{Txxx}
use Rattle.format.specs.declared.Refusal.{Refusal}
use Rattle.std.specs.Prelude.{Result}
use Rattle.txxx.specs.Laws.Demands.{family, listed, read_long}

module _ (s : List ℕ) (a : Result Txxx Refusal) {n : Verdict} (reads : Reads s a) (number : n ≡ told_of a) where
  whole : out_of a ≡ answered (λ r. accepted r.0) refused_by (read_record txxxs record_of s)
  whole = reads ∙ answered_alone (read_record txxxs record_of s)

  told : n ≡ verdict_of (out_of a)
  told = number ∙ told_out a

  -- a refused frame shows nothing
  pub hidden : (n.code ≡ 0 → ⊥) → Shows s []
  hidden = shows_none txxxs family.judged (λ r. accepted r.0) refused_by record_of verdict_of (λ r. refl) (λ c. refl) (λ r. r.1) [] s whole told

  -- A good frame is long enough, and shows its content.
  pub shown : Bytes s → n.code ≡ 0 → (20 ≤ length s) × Shows s (take (length s - 2 - 18) (drop 18 s))
  unfolding txxxs txxx record_of entries
  shown fine z =
      let (vs, e, is-shown) = shows_values txxxs family.judged (λ r. accepted r.0) refused_by record_of verdict_of (λ r. refl) (λ c. refl) (λ r. r.1) [] s whole told z in
      let b = bits_of (take (length s - 1) s) in
      let walked : read txxx [] 0 b ≡ accepted vs = (was txxxs s vs e).walked in
      let l = get_or vs 8 0 in
      let entered : read txxx [] 0 b ≡ accepted (entries 0 12 vs) = walked ∙ ap accepted (sym (listed vs (legal txxx [] 0 vs b (read_write txxx [] 0 vs b walked)))) in
      let is = value_at 9 txxx (entries 0 12 vs) b entered l (only l 4 any) kept (fill (pad l) (num 8 (0 ‥ 255) end)) refl in
      let filled = value_at 10 txxx (entries 0 12 vs) b entered (pad l) (only (pad l) 5 (0 ‥ 0)) kept (num 8 (0 ‥ 255) end) refl in
      let size : length s ≡ 18 + bytes_for l + 2 = omega (arith, (read_long s vs e).1) in
      (omega (arith, size), sym (is-shown ∙ content_part s 18 2 l (get_or vs 9 0) (get_or vs 10 0) fine (lit< tt) size is filled))

-- the mark stands before the seal
pub mark_stands : (s : List ℕ) (r : Txxx × List ℕ) → read_record txxxs record_of s ≡ accepted r → cond (between 20 230 (length s)) ((length s - 2) * 8) 0 ≡ 144 + bytes_for r.0.size * 8
unfolding record_of
mark_stands s r e =
    let (vs, m, is) = also_inv record_of (read_message txxxs s) e in
    let (small, size) = read_long s vs m in
    let l : get_or vs 8 0 ≡ r.0.size = ap (λ r. r.0.size) is in
    rw (le-leb 20 (length s) (omega (arith, size)), le-leb (length s) 230 (omega (arith, size, small))) (omega (arith, size, l))
