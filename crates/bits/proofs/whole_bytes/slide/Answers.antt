-- `whole_bytes::slide` meets its contract: the first i bytes of the run stand in `out`.
use Rattle.std.proofs.Common.{◌≡◌, ℕ, ◌+◌, ◌*◌, List, [], ◌∷◌, ◌++◌, length, drop, arith, sym, drop-drop, take_all}
use Rattle.std.proofs.lemmas.List.{take_more_set}
use Rattle.bits.specs.Bits.{bits_of, field_at, bytes_at}
use Rattle.bits.specs.Laws.Bytes.{bytes_add}
use Rattle.bits.specs.Laws.Digits.{bytes_zero, bytes_suc}
use Rattle.bits.specs.Laws.Pairs.{byte_across}
use Rattle.bits.proofs.whole_bytes.slide.Goals as goal

run_next : (s : List ℕ) (at i : ℕ) → bytes_at s at (i + 1) ≡ bytes_at s at i ++ (field_at s (at + i * 8) 8 ∷ [])
unfolding bytes_at field_at
run_next s at i = rw (bytes_add i 1 (drop at (bits_of s)), bytes_suc, bytes_zero, drop-drop (i * 8) at (bits_of s))

pub loop-i-init : goal.loop-i-init
unfolding bytes_at
loop-i-init c = sym (bytes_zero _)

pub loop-i-preserved : goal.loop-i-preserved
loop-i-preserved c =
    let s = c.args.s.now in
    let at = c.args.at in
    let i = c.loop-i.i in
    let byte = byte_across s at i c.bytes_to-low.result (λ j. (c.type_inv.s j).fits) c.bytes_to-low.ensures (omega arith) in
    rw (take_more_set c.loop-i.out i c.across.result (omega arith), run_next s at i) cc

pub returns : goal.returns
returns c =
    let e : c.loop-i.i ≡ length c.args.out.now = omega arith in
    let all = take_all c.loop-i.i c.loop-i.out (omega arith) in
    cc
