-- `place` meets its contract: its bytes in turn.
use mathlib.Core.Path.{◌≡◌, ap, ap₂, ◌∙◌}
use mathlib.Core.Bool.{not}
use Prim.Native.Nat.{◌+◌, ◌-◌}
use native.Mathlib.Omega.{arith}
use lib.Dec.{eqb, lit<}
use lib.ListN.{get_or, take, drop}
use Rattle.packet.specs.Packet.{most_packets}
use Rattle.desk_bytes.specs.Bytes.{total_behind, begins, place_bytes}
use Rattle.desk_bytes.proofs.Stored.{byte_there, sizes_there}
use Rattle.desk_bytes.proofs.place.Goals as goal

pub returns : goal.returns
returns c =
    let a = c.args in
    let at = begins a.i in
    let count : at + place_bytes - (at + 4) ≡ most_packets = omega arith in
    let sizes = c.copy_from_slice.ensures.after ∙ ap (λ n. take n (drop (at + 4) a.s.now)) count ∙ sizes_there a.s.now at in
    let start : at ≡ at + 0 = omega arith in
    let mark = ap (λ n. get_or a.s.now n 0) start ∙ byte_there a.s.now at 0 (lit< tt) in
    let total = c.total_behind.ensures ∙ ap₂ total_behind mark (byte_there a.s.now at 3 (lit< tt)) in
    λ i. record { «open» = not (eqb (mark i) 0); number = byte_there a.s.now at 1 (lit< tt) i; language = byte_there a.s.now at 2 (lit< tt) i; total = total i; sizes = sizes i }
