-- `walked` walks the frame as its layout stands: one step a field, then the record is that of the values.
use Rattle.std.proofs.Common.{[], ◌∷◌, take, drop, ap, ap₂, ◌∙◌, arith, ◌<◌, ◌^◌, false}
use lib.Dec.{lit<, lit≤}
use Rattle.bits.specs.Answers.{got}
use Rattle.bits.specs.Bits.{bits_of, value_of}
use Rattle.frame.specs.Laws.Alone.{alone}
use Rattle.frame.specs.Laws.Head.{head_read}
use Rattle.format.specs.Fmt.{check, pad, read}
use Rattle.format.specs.Message.{fault}
use Rattle.walk.specs.Reading.{ranged}
use Rattle.walk.specs.Walk.{seen}
use Rattle.format.specs.Laws.Outcomes.{walk_exit, walk_passed}
use Rattle.walk.specs.Laws.Reading.{step_num, step_given, step_content, step_fill}
use Rattle.format.specs.Laws.Tells.{twice_tells}
use Rattle.walk.specs.Laws.Walked.{Walked, finish}
use Rattle.txxx.specs.Txxx.{letters, bounded, limits, filling, txxx, record_of}
use Rattle.txxx.proofs.reading.walked.Goals.{After-end-w}
use Rattle.txxx.proofs.reading.walked.Goals as goal

-- the whole walk, with the record's values
all_walked : (c : After-end-w) → let s = c.args.s.now in
    Walked (check (fault 0) 0 (read txxx [] 0 (bits_of s))) txxx 0
    (0x24 ∷ letters ∷ got s 40 16 ∷ c.head-w.result.v ∷ c.num-w.result.v ∷ c.num-w-2.result.v ∷ c.num-w-3.result.v ∷ c.num-w-4.result.v ∷ c.given-w.result.v ∷ value_of (take c.given-w.result.v (drop 144 (bits_of s))) ∷ 0 ∷ c.num-w-5.result.v ∷ [])
    (seen c.end-w.result)
unfolding txxx
all_walked c =
    let s = c.args.s.now in
    let l = c.given-w.result.v in
    let small : l < 2 ^ 16 = c.given-w.ensures.1 in
    let r0 = head_read letters 0 65_535 _ s c.head-w.ensures.0 in
    let r1 = step_num 8 (lit< tt) (lit≤ tt) (lit< tt) 0 255 r0 c.num-w.ensures.0 in
    let r2 = step_num 24 (lit< tt) (lit≤ tt) (lit< tt) 0 2_097_151 r1 c.num-w-2.ensures.0 in
    let r3 = step_num 8 (lit< tt) (lit≤ tt) (lit< tt) 0 23 r2 c.num-w-3.ensures.0 in
    let r4 = step_num 8 (lit< tt) (lit≤ tt) (lit< tt) 0 59 r3 c.num-w-4.ensures.0 in
    let judged = c.limit-judged.ensures ∙ ap₂ bounded c.get.ensures c.get-2.ensures in
    let r5 = step_given 16 (lit≤ tt) (lit< tt) (lit< tt) (twice_tells 16 3 0 limits filling _) judged r4 c.given-w.ensures.0 in
    let r6 = step_content l (omega (arith, small)) r5 c.content.ensures in
    let r7 = step_fill (pad l) (omega arith) (omega (arith, small)) r6 (c.fill-w.ensures ∙ ap (λ p. ranged s p false 0 0 5 (seen c.content.result)) c.unused_bits.ensures) in
    let r8 = step_num 8 (lit< tt) (lit≤ tt) (omega (arith, small)) 0 255 r7 c.num-w-5.ensures.0 in
    finish (omega (arith, small)) r8 c.end-w.ensures

pub returns-in_err-passed : goal.returns-in_err-passed
returns-in_err-passed c =
    let w = all_walked (goal.at.returns-in_err-passed c).After-end-w in
    walk_exit (λ vs. (record_of vs).0) _ _ _ _ c.from_residual.result _ c.from_residual.ensures.1 c.in_err-passed.ensures w.so ∙ alone record_of (read txxx [] 0 (bits_of c.args.s.now))

pub returns : goal.returns
unfolding record_of
returns c =
    let w = all_walked (goal.at.returns c).After-end-w in
    walk_passed (λ vs. (record_of vs).0) _ _ _ _ c.in_ok-passed.ensures w.so ∙ alone record_of (read txxx [] 0 (bits_of c.args.s.now))
