-- `judged` walks the values in bit order: each step is a law of judging.
use mathlib.Core.Path.{refl, sym, ap, ap₂, ◌∙◌}
use mathlib.Core.Bool.{false}
use mathlib.Core.List.{[], ◌∷◌}
use Prim.Native.Nat.{◌<◌, ◌^◌}
use native.Mathlib.Omega.{arith}
use lib.Dec.{lit<}
use lib.ListN.{length as length_of_lem}
use Rattle.bits.specs.Answers.{got as got_of}
use Rattle.bits.specs.Bits.{field_at}
use Rattle.bits.specs.Laws.Fields.{field_lt}
use Rattle.frame.specs.Frame.{declared}
use Rattle.frame.specs.Steps.{head_judged}
use Rattle.walk.specs.Walk.{seen}
use Rattle.frame.specs.Laws.Alone.{refused_told}
use Rattle.frame.specs.Laws.Content.{declared_small, got_fill}
use Rattle.frame.specs.Laws.Head.{head_judged_lem}
use Rattle.format.specs.Fmt.{choice, pad, write}
use Rattle.walk.specs.Judging.{valued, filled}
use Rattle.format.specs.Words.{any, ◌‥◌, ago, twice}
use Rattle.format.specs.Laws.Extent.{opens_field, opens_choice}
use Rattle.walk.specs.Laws.Judging.{Judging, judge_fixed, judge_num, judge_limits, judge_tells, judge_refused, judge_end}
use Rattle.format.specs.Laws.Tells.{only_tells, twice_tells}
use Rattle.txsq.specs.Txsq.{letters, body, rest, allowed, bounded, limits, filling, txsq, values_of}
use Rattle.txsq.specs.Laws.Demands.{allowed_below}
use Rattle.txsq.proofs.writing.making.judged.Goals.{After-on-w, After-value-w-4}
use Rattle.txsq.proofs.writing.making.judged.Goals as goal

-- up to the receiver
addressed : (c : After-value-w-4) → let a = c.args in
    let r = a.r in
    let b = a.content.now in
    Judging (write txsq [] 0 (values_of (r, b))) (choice 16 (twice 16 4 limits 1 filling) rest) (r.receiver ∷ r.password ∷ r.mode ∷ r.category ∷ 0b0100 ∷ r.address ∷ declared 18 (length_of_lem b) ∷ letters ∷ 0x24 ∷ []) 112
    (r.size ∷ r.answer ∷ field_at b 0 r.size ∷ field_at b r.size (pad r.size) ∷ []) (seen c.value-w-4.result)
unfolding txsq values_of
addressed receiver =
    let a = receiver.args in
    let r = a.r in
    let b = a.content.now in
    let r0 = head_judged_lem letters 0 65_535 body (declared 18 (length_of_lem b)) r.address _ (lit< tt) (omega arith) (declared_small 18 (length_of_lem b)) (lit< tt)
    (receiver.judged-w.ensures ∙ ap (λ n. head_judged letters n r.address) receiver.declared-length.ensures) in
    let r1 = judge_fixed 4 1 0b0100 (lit< tt) (lit< tt) r0 receiver.fixed-w.ensures in
    let r2 = judge_num 2 (lit< tt) 0 1 (lit< tt) r1 receiver.value-w.ensures in
    let r3 = judge_num 1 (lit< tt) 0 1 (lit< tt) r2 receiver.value-w-2.ensures in
    let r4 = judge_limits 1 (lit< tt) (λ h. (0 ‥ allowed (ago 1 h) 1) h) 0 (allowed r.category 1) (allowed_below r.category 1 2 (lit< tt) (lit< tt)) (λ l. refl) r3
    (receiver.value-w-3.ensures ∙ ap (λ n. valued 1 r.password 0 n (seen receiver.value-w-2.result)) receiver.allowed.ensures) in
    judge_num 24 (lit< tt) 0 2_097_151 (lit< tt) r4 receiver.value-w-4.ensures

small : (c : After-value-w-4) → c.args.r.size < 2 ^ 16
small c = c.struct_known-1.given.1.1.1.1.1.0.fits

-- up to the bit length
sized : (c : After-on-w) → let a = c.args in
    let r = a.r in
    let b = a.content.now in
    Judging (write txsq [] 0 (values_of (r, b))) (rest r.size) (r.size ∷ r.receiver ∷ r.password ∷ r.mode ∷ r.category ∷ 0b0100 ∷ r.address ∷ declared 18 (length_of_lem b) ∷ letters ∷ 0x24 ∷ []) 128
    (r.answer ∷ field_at b 0 r.size ∷ field_at b r.size (pad r.size) ∷ []) (seen c.on-w.result)
unfolding txsq values_of
sized on =
    let receiver = (goal.at.After-on-w on).After-value-w-4 in
    let r = on.args.r in
    let fault = on.limit.ensures ∙ ap (λ n. bounded r.category r.mode r.password n r.size) on.declared-length.ensures in
    judge_tells 16 false r.size _ (lit< tt) (small receiver) (twice_tells 16 3 0 limits filling _) fault opens_choice (addressed receiver) on.on-w.ensures

pub returns-then-is_err : goal.returns-then-is_err
returns-then-is_err c = judge_end (judge_refused [] 0 [] (refused_told _ (sym c.is_err.ensures.value ∙ c.if-is_err.true)) (addressed (goal.at.returns-then-is_err c).After-value-w-4))

pub returns-then-is_err-2 : goal.returns-then-is_err-2
returns-then-is_err-2 c = judge_end (judge_refused [] 0 [] (refused_told _ (sym c.is_err-2.ensures.value ∙ c.if-is_err-2.true)) (sized (goal.at.returns-then-is_err-2 c).After-on-w))

pub returns : goal.returns
unfolding txsq values_of
returns c =
    let on = (goal.at.returns c).After-on-w in
    let receiver = (goal.at.returns c).After-value-w-4 in
    let a = c.args in
    let r = a.r in
    let b = a.content.now in
    let l = r.size in
    let few = small receiver in
    let r7 = judge_limits 8 (lit< tt) (λ h. (0 ‥ allowed (ago 2 h) 255) h) 0 (allowed r.password 255) (allowed_below r.password 255 256 (lit< tt) (lit< tt)) (λ l. refl) (sized on)
    (c.value-w-5.ensures ∙ ap (λ n. valued 8 r.answer 0 n (seen c.on-w.result)) c.allowed-2.ensures) in
    let r8 = judge_tells l false 0 0 (omega (arith, few)) (field_lt b 0 l) (only_tells l 3 any _) refl opens_field r7 c.wide-w.ensures in
    let fill = c.get.ensures ∙ ap (λ p. got_of b l p) c.unused_bits-spare.ensures ∙ got_fill b l in
    judge_end (judge_tells (pad l) false (field_at b l (pad l)) _ (omega (arith, few)) (field_lt b l (pad l)) (only_tells (pad l) 4 (0 ‥ 0) _) refl opens_field r8
    (c.fill_value.ensures ∙ ap₂ (λ p v. filled p v (seen c.wide-w.result)) c.unused_bits-spare.ensures fill))
