-- From the splitter through the desk and out again: where no other call is about that number, and fewer than four notices are open when its first packet comes, every packet of a content is taken in, in any order and however often; so when each has been sent, asking with room hands out the content. By induction over the calls: each packet agrees with those before it. Assumes nothing.
use Rattle.std.specs.Prelude.{◌≡◌, Bool, length, take}
use Rattle.std.proofs.Math.Path.{refl}
use mathlib.Core.List.{List}
use Prim.Native.Nat.{ℕ, ◌+◌}
use Rattle.bits.specs.Bits.{Bytes}
use Rattle.format.specs.Fmt.{accepted}
use Rattle.format.specs.Promises.{read_record}
use Rattle.format.specs.Refusals.{bare}
use Rattle.packet.specs.Packet.{packets, record_of}
use Rattle.packet.specs.SplittingPromises.{Splits}
use Rattle.packet.specs.Splitter.{packet_of}
use Rattle.packet.specs.Laws.Demands.{good}
use Rattle.packet.specs.Laws.Packets.{split_reads}

-- What `split` leaves in front of its buffer is read as that packet of the content.
pub split_sends : (s c : List ℕ) (english : Bool) (number k : ℕ) (t : List ℕ) → Bytes c → Splits s c english number k (bare 0) t
    → let p = packet_of english number c k in read_record packets record_of (take (4 + length p.1) t) ≡ accepted p
split_sends s c english number k t fine e =
    let p = packet_of english number c k in
    let (reads, shows) = split_reads english number c s k (bare 0) t e fine refl in
    good (take (4 + length p.1) t) p.0 p.1 reads shows
