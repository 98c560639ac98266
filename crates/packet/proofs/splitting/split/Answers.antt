-- `split` tests the size and the packet's number, and then is the writing of that packet.
use mir.Val.{bool_byte}
use Rattle.std.proofs.Common.{◌≡◌, ◌+◌, ◌-◌, ◌/◌, Bool, true, false, cond, length, sym, refl, ap, ◌∙◌, arith, le-ltb, lt-ltb, le-leb}
use mathlib.Core.Bool.{and-false}
use borrow.Author.Tests.{lt-leb}
use Rattle.format.specs.Fmt.{refused}
use Rattle.format.specs.Message.{told, leaves, into, write_message, refuses}
use Rattle.packet.specs.Packet.{part_bytes_of, joined, packets, values_of}
use Rattle.packet.specs.SplittingPromises.{splitting}
use Rattle.packet.specs.Splitter.{packet_count, packet_of}
use Rattle.packet.proofs.splitting.split.Goals.{then-size-eq0-via-then-size-eq0, then-size-eq0-via-else-size-eq0+then-size-gt-JOINED}
use Rattle.packet.proofs.splitting.split.Goals as goal

pub returns-then-size-eq0 : goal.returns-then-size-eq0
unfolding splitting
returns-then-size-eq0 c =
    let a = c.args in
    let s = a.buf.now in
    let x = a.content.now in
    let m : splitting s x a.english a.number a.packet ≡ refused 1 0 =
    elim c.then-size-eq0.branch [
      | then-size-eq0-via-then-size-eq0 w ↦ rw (lt-leb 1 (length x) (omega (arith, w.if-size-eq0.true))) refl
      | then-size-eq0-via-else-size-eq0+then-size-gt-JOINED w ↦ rw (lt-leb (length x) joined w.if-size-gt-JOINED.true, and-false) refl
    ] in
    let (tells, stays) = refuses {s = s} m in
    (c.into.ensures ∙ tells, stays)

pub returns-then-packet-count : goal.returns-then-packet-count
unfolding splitting
returns-then-packet-count c =
    let a = c.args in
    let s = a.buf.now in
    let x = a.content.now in
    let m : splitting s x a.english a.number a.packet ≡ refused 4 0 = rw (le-leb 1 (length x) (omega (arith, c.if-size-eq0.false)), le-leb (length x) joined (omega (arith, c.if-size-gt-JOINED.false)), le-ltb a.packet (packet_count (length x)) (omega (arith, c.if-packet-count.true, c.if-size-eq0.false))) refl in
    let (tells, stays) = refuses {s = s} m in
    (c.into-then-packet-count.ensures ∙ tells, stays)

-- 1 for English
byte : (english : Bool) → bool_byte english ≡ cond english 1 0
byte true = refl
byte false = refl

pub returns : goal.returns
unfolding splitting
returns c =
    let a = c.args in
    let s = a.buf.now in
    let x = a.content.now in
    let k = a.packet in
    let count : (length x - 1) / part_bytes_of + 1 ≡ packet_count (length x) = omega (arith, c.if-size-eq0.false) in
    let on : splitting s x a.english a.number k ≡ into s (write_message packets (values_of (packet_of a.english a.number x k))) =
    rw (le-leb 1 (length x) (omega (arith, c.if-size-eq0.false)), le-leb (length x) joined (omega (arith, c.if-size-gt-JOINED.false)), lt-ltb k (packet_count (length x)) (omega (arith, c.if-packet-count.false, c.if-size-eq0.false))) refl in
    let is : (record { language = c.from.result; number = a.number; total = (length x - 1) / part_bytes_of + 1; own = k }, c.part.result.now) ≡ packet_of a.english a.number x k =
    λ y. (record { language = (c.from.ensures ∙ byte a.english) y; number = a.number; total = count y; own = k }, c.part.ensures y) in
    let o = ap (λ r. into s (write_message packets (values_of r))) is ∙ sym on in
    (c.write.ensures.0 ∙ ap told o, c.write.ensures.1 ∙ ap (λ o. leaves o s) o)
