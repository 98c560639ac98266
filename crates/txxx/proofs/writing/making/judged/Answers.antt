-- `judged` walks the values in bit order: each step is a law of judging.
use mathlib.Core.Path.{refl, sym, ap, ap₂, ◌∙◌}
use mathlib.Core.Bool.{false}
use mathlib.Core.List.{[], ◌∷◌}
use Prim.Native.Nat.{◌<◌, ◌^◌}
use native.Mathlib.Omega.{arith}
use lib.Dec.{lit<}
use lib.ListN.{length as length_of_lem}
use Rattle.bits.specs.Answers.{got as got_of}
use Rattle.bits.specs.Bits.{field_at}
use Rattle.bits.specs.Laws.Fields.{field_lt}
use Rattle.frame.specs.Frame.{declared}
use Rattle.frame.specs.Steps.{head_judged}
use Rattle.walk.specs.Walk.{seen}
use Rattle.frame.specs.Laws.Alone.{refused_told}
use Rattle.frame.specs.Laws.Content.{declared_small, got_fill}
use Rattle.frame.specs.Laws.Head.{head_judged_lem}
use Rattle.format.specs.Fmt.{choice, pad, write}
use Rattle.walk.specs.Judging.{filled}
use Rattle.format.specs.Words.{any, ◌‥◌, twice}
use Rattle.format.specs.Laws.Extent.{opens_field, opens_choice}
use Rattle.walk.specs.Laws.Judging.{Judging, judge_num, judge_tells, judge_refused, judge_end}
use Rattle.format.specs.Laws.Tells.{only_tells, twice_tells}
use Rattle.txxx.specs.Txxx.{letters, body, rest, bounded, limits, filling, txxx, values_of}
use Rattle.txxx.proofs.writing.making.judged.Goals.{After-on-w, After-value-w-4}
use Rattle.txxx.proofs.writing.making.judged.Goals as goal

-- up to the minute
timed : (c : After-value-w-4) → let a = c.args in
    let r = a.r in
    let b = a.content.now in
    Judging (write txxx [] 0 (values_of (r, b))) (choice 16 (twice 16 4 limits 1 filling) rest) (r.minute ∷ r.hour ∷ r.sender ∷ r.class ∷ r.address ∷ declared 20 (length_of_lem b) ∷ letters ∷ 0x24 ∷ []) 128
    (r.size ∷ field_at b 0 r.size ∷ field_at b r.size (pad r.size) ∷ r.mark ∷ []) (seen c.value-w-4.result)
unfolding txxx values_of
timed minute =
    let a = minute.args in
    let r = a.r in
    let b = a.content.now in
    let r0 = head_judged_lem letters 0 65_535 body (declared 20 (length_of_lem b)) r.address _ (lit< tt) (omega arith) (declared_small 20 (length_of_lem b)) (lit< tt)
    (minute.judged-w.ensures ∙ ap (λ n. head_judged letters n r.address) minute.declared-length.ensures) in
    let r1 = judge_num 8 (lit< tt) 0 255 (lit< tt) r0 minute.value-w.ensures in
    let r2 = judge_num 24 (lit< tt) 0 2_097_151 (lit< tt) r1 minute.value-w-2.ensures in
    let r3 = judge_num 8 (lit< tt) 0 23 (lit< tt) r2 minute.value-w-3.ensures in
    judge_num 8 (lit< tt) 0 59 (lit< tt) r3 minute.value-w-4.ensures

small : (c : After-value-w-4) → c.args.r.size < 2 ^ 16
small c = c.struct_known-1.given.1.1.1.1.1.0.fits

-- up to the bit length
sized : (c : After-on-w) → let a = c.args in
    let r = a.r in
    let b = a.content.now in
    Judging (write txxx [] 0 (values_of (r, b))) (rest r.size) (r.size ∷ r.minute ∷ r.hour ∷ r.sender ∷ r.class ∷ r.address ∷ declared 20 (length_of_lem b) ∷ letters ∷ 0x24 ∷ []) 144
    (field_at b 0 r.size ∷ field_at b r.size (pad r.size) ∷ r.mark ∷ []) (seen c.on-w.result)
unfolding txxx values_of
sized on =
    let minute = (goal.at.After-on-w on).After-value-w-4 in
    let r = on.args.r in
    let fault = on.limit.ensures ∙ ap (λ n. bounded n r.size) on.declared-length.ensures in
    judge_tells 16 false r.size _ (lit< tt) (small minute) (twice_tells 16 3 0 limits filling _) fault opens_choice (timed minute) on.on-w.ensures

pub returns-then-is_err : goal.returns-then-is_err
returns-then-is_err c = judge_end (judge_refused [] 0 [] (refused_told _ (sym c.is_err.ensures.value ∙ c.if-is_err.true)) (timed (goal.at.returns-then-is_err c).After-value-w-4))

pub returns-then-is_err-2 : goal.returns-then-is_err-2
returns-then-is_err-2 c = judge_end (judge_refused [] 0 [] (refused_told _ (sym c.is_err-2.ensures.value ∙ c.if-is_err-2.true)) (sized (goal.at.returns-then-is_err-2 c).After-on-w))

pub returns : goal.returns
unfolding txxx values_of
returns c =
    let on = (goal.at.returns c).After-on-w in
    let minute = (goal.at.returns c).After-value-w-4 in
    let a = c.args in
    let b = a.content.now in
    let l = a.r.size in
    let few = small minute in
    let r6 = judge_tells l false 0 0 (omega (arith, few)) (field_lt b 0 l) (only_tells l 3 any _) refl opens_field (sized on) c.wide-w.ensures in
    let spelled = c.get.ensures ∙ ap (λ p. got_of b l p) c.unused_bits-spare.ensures ∙ got_fill b l in
    let r7 = judge_tells (pad l) false (field_at b l (pad l)) _ (omega (arith, few)) (field_lt b l (pad l)) (only_tells (pad l) 4 (0 ‥ 0) _) refl opens_field r6
    (c.fill_value-w.ensures ∙ ap₂ (λ p v. filled p v (seen c.wide-w.result)) c.unused_bits-spare.ensures spelled) in
    judge_end (judge_num 8 (omega (arith, few)) 0 255 (lit< tt) r7 c.value.ensures)
