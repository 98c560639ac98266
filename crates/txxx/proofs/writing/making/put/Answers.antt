-- `put` puts the values in bit order: each step is a law of putting, and the content is one run of bytes.
use mathlib.Core.Path.{◌≡◌, sym, ap, ◌∙◌}
use mathlib.Core.List.{[]}
use Prim.Native.Nat.{◌+◌, ◌*◌, ◌/◌}
use native.Mathlib.Omega.{arith}
use lib.Dec.{lit≤}
use lib.ListN.{length}
use Rattle.bits.specs.Bits.{Bytes, put_bytes_at}
use Rattle.frame.specs.Steps.{head_put}
use Rattle.frame.specs.Laws.Content.{padded, content_bits}
use Rattle.frame.specs.Laws.Head.{head_put_lem}
use Rattle.format.specs.Correcting.{put_in, put_in_lem}
use Rattle.format.specs.Fmt.{pad}
use Rattle.format.specs.Laws.Extent.{opens_field}
use Rattle.format.proofs.Laws.Legal.{legal}
use Rattle.format.specs.Laws.Putting.{put_start, begins_then, put_run, put_end}
use Rattle.format.proofs.Laws.Putting.{put_step, put_choice, put_number, begins}
use Rattle.txxx.specs.Txxx.{letters, body, txxx, values_of}
use Rattle.txxx.specs.Laws.Demands.{content_size}
use Rattle.txxx.proofs.writing.making.put.Goals.{After-put-4}
use Rattle.txxx.proofs.writing.making.put.Goals as goal

-- the first 4 puts leave as many bytes
half : (p : After-put-4) → length p.put-4.new.s ≡ length p.args.buf.now
half p = omega arith

pub shape_of-buf : goal.shape_of-buf
shape_of-buf c = let h = half (goal.at.shape_of-buf c).After-put-4 in omega arith

pub returns : goal.returns
unfolding txxx values_of put_bytes_at
returns c b e l =
    let a = c.args in
    let r = a.r in
    let x = a.content.now in
    let fine : Bytes a.buf.now = λ i. (c.slice_known-1.given i).fits in
    let size = content_size (r, x) (legal txxx [] 0 (values_of (r, x)) b e) in
    let offset : 144 + (r.size + 7) / 8 * 8 ≡ 144 + (r.size + pad r.size) = ap (144 +◌) (sym (padded r.size)) in
    let r0 = head_put_lem letters 0 65_535 body (put_start a.buf.now txxx (values_of (r, x)) b fine l e) (c.put.ensures ∙ ap (λ n. head_put letters n r.address a.buf.now) c.declared.ensures) in
    let r1 = put_step 8 (lit≤ tt) r0 c.put-2.ensures in
    let r2 = put_step 24 (lit≤ tt) r1 c.put-3.ensures in
    let r3 = put_step 8 (lit≤ tt) r2 c.put-4.ensures in
    let r4 = put_step 8 (lit≤ tt) r3 c.put-5.ensures in
    let r5 = put_choice 16 (lit≤ tt) r4 c.put-6.ensures in
    let r6 = put_run x (content_bits x r.size size) (begins_then (begins opens_field) (begins opens_field)) r5 c.put_bytes.ensures in
    put_end fine (omega arith) (put_number 8 (lit≤ tt) opens_field r6 (put_in_lem _ _ 8 r.mark c.put-7.ensures ∙ ap (λ k. put_in c.put_bytes.new.buf k 8 r.mark) offset))
