-- `fields` walks the packet as its layout stands: one step a field, then the record is that of the values.
use Rattle.std.proofs.Common.{◌≡◌, ℕ, ◌-◌, ◌*◌, true, List, [], ◌∷◌, length, take, drop, sym, refl, ap, ◌∙◌, arith, lit<, lit≤}
use Rattle.bits.specs.Bits.{value_of, bits_of}
use Rattle.walk.specs.Faults.{wholly}
use Rattle.format.specs.Fmt.{also, read}
use Rattle.format.specs.Message.{fields_of}
use Rattle.format.specs.Promises.{refused_by}
use Rattle.format.specs.Refusals.{shown, seen_refusal}
use Rattle.format.specs.Words.{◌‥◌, ago}
use Rattle.format.specs.Laws.Lead.{sized_fields, other_size}
use Rattle.format.specs.Laws.Outcomes.{number_some, out_exit, walk_exit, walk_passed}
use Rattle.walk.specs.Walk.{Walk, seen}
use Rattle.walk.specs.Reading.{ranged, carried}
use Rattle.walk.specs.Laws.Reading.{start, step_code, step_num, step_limits, step_rest, step_content}
use Rattle.walk.specs.Laws.Step.{stuck, Reading}
use Rattle.walk.specs.Laws.Walked.{Walked, finish}
use Rattle.packet.specs.Laws.Heads.{head_of, heads}
use Rattle.packet.specs.Packet.{version, content, greatest, most_packets, packet, record_of, answer_of}
use Rattle.packet.proofs.reading.fields.Goals.{After-num-w-4, After-end-w, Else-s-gt-GREATEST, then-s-lt-LEAST-via-then-s-lt-LEAST, then-s-lt-LEAST-via-else-s-lt-LEAST+then-s-gt-GREATEST}
use Rattle.packet.proofs.reading.fields.Goals as goal

-- a packet of another size is refused
pub returns-then-s-lt-LEAST : goal.returns-then-s-lt-LEAST
returns-then-s-lt-LEAST c =
    ap refused_by c.into.ensures
    ∙ sym (ap (λ o. answer_of (also record_of o)) (other_size packet 5 greatest c.args.s.now (λ l u. omega (arith, l, u, c.then-s-lt-LEAST.either))))

-- the walk w over a head with these values
abbrev Headed : (s : List ℕ) (language number total own : ℕ) (w : Walk) → Type 0
Headed s l m t n w = Reading (read packet [] 0 (bits_of s)) packet 0 s content (n ∷ t ∷ m ∷ l ∷ version ∷ 0xE1 ∷ []) 32 (λ vs. 0xE1 ∷ version ∷ l ∷ m ∷ t ∷ n ∷ vs) w

-- It goes as the layout stands.
headed : (own : After-num-w-4) → Headed own.args.s.now own.num-w.result.v own.num-w-2.result.v own.num-w-3.result.v own.num-w-4.result.v (seen own.num-w-4.result)
unfolding packet
headed own =
    let s = own.args.s.now in
    let r0 = start packet 0 0 s own.begin.ensures in
    let r1 = step_code 8 (lit≤ tt) (lit< tt) 0xE1 r0 own.code.ensures in
    let r2 = step_code 3 (lit≤ tt) (lit< tt) version r1 own.code-w.ensures in
    let r3 = step_num 1 (lit< tt) (lit≤ tt) (lit< tt) 0 1 r2 own.num-w.ensures.0 in
    let r4 = step_num 8 (lit< tt) (lit≤ tt) (lit< tt) 0 255 r3 own.num-w-2.ensures.0 in
    let r5 = step_num 6 (lit< tt) (lit≤ tt) (lit< tt) 1 most_packets r4 own.num-w-3.ensures.0 in
    step_limits 6 (lit< tt) (lit≤ tt) (lit< tt) 3 0 _ (λ h. (0 ‥ ago 0 h - 1) h) (λ v. refl) r5 (own.num-w-4.ensures.0 ∙ ap (λ n. ranged s 6 true 0 n 4 (seen own.num-w-3.result)) own.last_number.ensures)

-- what passed the tests of its size
sized : (high : Else-s-gt-GREATEST) → let s = high.args.s.now in read packet [] 0 (bits_of s) ≡ fields_of packet 5 greatest s
sized high =
    sym (sized_fields packet 5 greatest high.args.s.now (omega (arith, high.if-s-lt-LEAST.false)) (omega (arith, high.if-s-gt-GREATEST.false)))

-- a head that was refused
pub returns-in_err-passed : goal.returns-in_err-passed
returns-in_err-passed c =
    let own = (goal.at.returns-in_err-passed c).After-num-w-4 in
    let high = (goal.at.returns-in_err-passed c).Else-s-gt-GREATEST in
    let w = seen c.num-w-4.result in
    let f = c.in_err-passed.field-0.0 in
    let is : seen_refusal f ≡ shown w.code w.offset = c.in_err-passed.ensures in
    out_exit c.from_residual.result f c.from_residual.ensures.1 ∙ ap refused_by is
    ∙ sym (ap (λ o. answer_of (also record_of o)) (sym (sized high) ∙ (headed own).so ∙ stuck w _ (λ z. number_some f.reason (ap (λ v. v.code) is ∙ z))))

-- the whole walk, behind its head
all_walked : (c : After-end-w) → let s = c.args.s.now in
    let n = wholly s 32 in
    Headed s c.num-w.result.v c.num-w-2.result.v c.num-w-3.result.v c.num-w-4.result.v (seen c.num-w-4.result)
    → Walked (read packet [] 0 (bits_of s)) packet 0 (0xE1 ∷ version ∷ c.num-w.result.v ∷ c.num-w-2.result.v ∷ c.num-w-3.result.v ∷ c.num-w-4.result.v ∷ n ∷ value_of (take (n * 8) (drop 32 (bits_of s))) ∷ []) (seen c.end-w.result)
all_walked c h =
    let s = c.args.s.now in
    let n : wholly s 32 * 8 ≡ (length s - 4) * 8 = omega arith in
    let r7 = step_rest (lit< tt) h c.rest.ensures in
    let r8 = step_content (wholly s 32 * 8) (omega arith) r7 (c.content.ensures ∙ ap (λ w. carried s w (seen c.rest.result)) (sym n)) in
    finish (omega arith) r8 c.end-w.ensures

pub returns-in_err-passed-2 : goal.returns-in_err-passed-2
returns-in_err-passed-2 c =
    let high = (goal.at.returns-in_err-passed-2 c).Else-s-gt-GREATEST in
    let w = all_walked (goal.at.returns-in_err-passed-2 c).After-end-w (headed (goal.at.returns-in_err-passed-2 c).After-num-w-4) in
    walk_exit head_of _ _ _ _ c.from_residual-in_err-passed-2.result _ c.from_residual-in_err-passed-2.ensures.1 c.in_err-passed-2.ensures w.so
    ∙ heads (read packet [] 0 (bits_of c.args.s.now)) ∙ ap (λ o. answer_of (also record_of o)) (sized high)

pub returns : goal.returns
unfolding record_of
returns c =
    let high = (goal.at.returns c).Else-s-gt-GREATEST in
    let w = all_walked (goal.at.returns c).After-end-w (headed (goal.at.returns c).After-num-w-4) in
    walk_passed head_of _ _ _ _ c.in_ok-passed-2.ensures w.so
    ∙ heads (read packet [] 0 (bits_of c.args.s.now)) ∙ ap (λ o. answer_of (also record_of o)) (sized high)
