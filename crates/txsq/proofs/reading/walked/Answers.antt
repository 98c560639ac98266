-- `walked` walks the frame as its layout stands: one step a field, then the record is that of the values.
use Rattle.std.proofs.Common.{[], ◌∷◌, take, drop, ap, ap₂, ◌∙◌, arith, refl, ◌<◌, ◌^◌, true, false}
use lib.Dec.{lit<, lit≤}
use Rattle.bits.specs.Answers.{got}
use Rattle.bits.specs.Bits.{bits_of, value_of}
use Rattle.frame.specs.Laws.Alone.{alone}
use Rattle.frame.specs.Laws.Head.{head_read}
use Rattle.format.specs.Fmt.{check, pad, read}
use Rattle.format.specs.Message.{fault}
use Rattle.walk.specs.Reading.{ranged}
use Rattle.walk.specs.Walk.{seen}
use Rattle.format.specs.Words.{◌‥◌, ago}
use Rattle.format.specs.Laws.Outcomes.{walk_exit, walk_passed}
use Rattle.walk.specs.Laws.Reading.{step_code, step_num, step_limits, step_given, step_content, step_fill}
use Rattle.format.specs.Laws.Tells.{twice_tells}
use Rattle.walk.specs.Laws.Walked.{Walked, finish}
use Rattle.txsq.specs.Txsq.{letters, allowed, bounded, limits, filling, txsq, record_of}
use Rattle.txsq.proofs.reading.walked.Goals.{After-end-w}
use Rattle.txsq.proofs.reading.walked.Goals as goal

-- the whole walk, with the record's values
all_walked : (c : After-end-w) → let s = c.args.s.now in
    Walked (check (fault 0) 0 (read txsq [] 0 (bits_of s))) txsq 0
    (0x24 ∷ letters ∷ got s 40 16 ∷ c.head-w.result.v ∷ 0b0100 ∷ c.num-w.result.v ∷ c.num-w-2.result.v ∷ c.num-w-3.result.v ∷ c.num-w-4.result.v ∷ c.given-w.result.v ∷ c.num-w-5.result.v ∷ value_of (take c.given-w.result.v (drop 136 (bits_of s))) ∷ 0 ∷ [])
    (seen c.end-w.result)
unfolding txsq
all_walked c =
    let s = c.args.s.now in
    let l = c.given-w.result.v in
    let small : l < 2 ^ 16 = c.given-w.ensures.1 in
    let r0 = head_read letters 0 65_535 _ s c.head-w.ensures.0 in
    let r1 = step_code 4 (lit≤ tt) (lit< tt) 0b0100 r0 c.code-w.ensures in
    let r2 = step_num 2 (lit< tt) (lit≤ tt) (lit< tt) 0 1 r1 c.num-w.ensures.0 in
    let r3 = step_num 1 (lit< tt) (lit≤ tt) (lit< tt) 0 1 r2 c.num-w-2.ensures.0 in
    let r4 = step_limits 1 (lit< tt) (lit≤ tt) (lit< tt) 3 0 _ (λ h. (0 ‥ allowed (ago 1 h) 1) h) (λ v. refl) r3 (c.num-w-3.ensures.0 ∙ ap (λ n. ranged s 1 true 0 n 4 (seen c.num-w-2.result)) c.allowed.ensures) in
    let r5 = step_num 24 (lit< tt) (lit≤ tt) (lit< tt) 0 2_097_151 r4 c.num-w-4.ensures.0 in
    let judged = c.limit-judged.ensures ∙ ap₂ (bounded c.num-w.result.v c.num-w-2.result.v c.num-w-3.result.v) c.get.ensures c.get-2.ensures in
    let r6 = step_given 16 (lit≤ tt) (lit< tt) (lit< tt) (twice_tells 16 3 0 limits filling _) judged r5 c.given-w.ensures.0 in
    let r7 = step_limits 8 (lit< tt) (lit≤ tt) (lit< tt) 3 0 _ (λ h. (0 ‥ allowed (ago 2 h) 255) h) (λ v. refl) r6 (c.num-w-5.ensures.0 ∙ ap (λ n. ranged s 8 true 0 n 4 (seen c.given-w.result)) c.allowed-2.ensures) in
    let r8 = step_content l (omega (arith, small)) r7 c.content.ensures in
    let r9 = step_fill (pad l) (omega arith) (omega (arith, small)) r8 (c.fill.ensures ∙ ap (λ p. ranged s p false 0 0 5 (seen c.content.result)) c.unused_bits.ensures) in
    finish (omega (arith, small)) r9 c.end-w.ensures

pub returns-in_err-passed : goal.returns-in_err-passed
returns-in_err-passed c =
    let w = all_walked (goal.at.returns-in_err-passed c).After-end-w in
    walk_exit (λ vs. (record_of vs).0) _ _ _ _ c.from_residual.result _ c.from_residual.ensures.1 c.in_err-passed.ensures w.so ∙ alone record_of (read txsq [] 0 (bits_of c.args.s.now))

pub returns : goal.returns
unfolding record_of
returns c =
    let w = all_walked (goal.at.returns c).After-end-w in
    walk_passed (λ vs. (record_of vs).0) _ _ _ _ c.in_ok-passed.ensures w.so ∙ alone record_of (read txsq [] 0 (bits_of c.args.s.now))
