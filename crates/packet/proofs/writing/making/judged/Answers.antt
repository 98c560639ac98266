-- `judged` walks the head's values in bit order, each step a law of judging; the content is as many bits as its bytes have, and any will do.
use Rattle.std.proofs.Common.{ℕ, ◌-◌, ◌*◌, Bool, List, [], ◌∷◌, length, refl, ap, ◌∙◌, arith, lit<}
use Rattle.bits.specs.Bits.{value_of, bits_of}
use Rattle.bits.specs.Laws.Runs.{bytes_value_lt}
use Rattle.format.specs.Fmt.{Out, end, field, write}
use Rattle.format.specs.Words.{only, kept, any, ◌‥◌, ago, num}
use Rattle.format.specs.Laws.Extent.{opens_field}
use Rattle.format.specs.Laws.Tells.{only_tells, wrong_tells}
use Rattle.walk.specs.Judging.{valued, beyond}
use Rattle.walk.specs.Laws.Judging.{Judging, Judged, judge_start, judge_fixed, judge_num, judge_late, valued_between, judge_bytes, judge_beyond, judge_end}
use Rattle.walk.specs.Walk.{Walk, seen}
use Rattle.packet.specs.Packet.{version, most_packets, content, packet, values_of}
use Rattle.packet.proofs.writing.making.judged.Goals.{After-value-w-3}
use Rattle.packet.proofs.writing.making.judged.Goals as goal

-- the content behind the head
carried : (x : List ℕ) {o : Out (List Bool)} {h : List ℕ} {at : ℕ} {r : Walk} → Judging o (field (length x * 8) (only (length x * 8) 4 any) kept end) h at (value_of (bits_of x) ∷ []) r → Judged o (beyond (length x * 8) 0 r)
carried x e = let w = length x * 8 in judge_end (judge_beyond 0 opens_field (wrong_tells w (value_of (bits_of x)) (only_tells w 3 any _) (bytes_value_lt x)) e)

-- up to the total
counted : (c : After-value-w-3) (x : List ℕ) → let r = c.args.r in
    Judging (write packet [] 0 (values_of (r, x))) (num 6 (λ h. (0 ‥ ago 0 h - 1) h) content) (r.total ∷ r.number ∷ r.language ∷ version ∷ 0xE1 ∷ []) 26 (r.own ∷ length x ∷ value_of (bits_of x) ∷ []) (seen c.value-w-3.result)
unfolding packet values_of
counted total x =
    let r = total.args.r in
    let r0 = judge_start packet 0 0 (values_of (r, x)) total.begin-w.ensures in
    let r1 = judge_fixed 8 1 0xE1 (lit< tt) (lit< tt) r0 total.fixed-w.ensures in
    let r2 = judge_fixed 3 1 version (lit< tt) (lit< tt) r1 total.fixed-w-2.ensures in
    let r3 = judge_num 1 (lit< tt) 0 1 (lit< tt) r2 total.value-w.ensures in
    let r4 = judge_num 8 (lit< tt) 0 255 (lit< tt) r3 total.value-w-2.ensures in
    judge_num 6 (lit< tt) 1 most_packets (lit< tt) r4 total.value-w-3.ensures

pub returns : goal.returns
unfolding packet values_of
returns c x =
    let total = (goal.at.returns c).After-value-w-3 in
    let r = c.args.r in
    let r6 = judge_late 6 (λ h. (0 ‥ ago 0 h - 1) h) 0 (r.total - 1) (lit< tt) (λ z. let (some, few) = valued_between (seen c.value-w-2.result) 6 r.total 1 most_packets c.value-w-3.ensures z in (omega (arith, few), λ l. refl)) (counted total x)
    (c.value.ensures ∙ ap (λ n. valued 6 r.own 0 n (seen c.value-w-3.result)) c.last_number.ensures) in
    carried x (judge_bytes (omega arith) r6)
