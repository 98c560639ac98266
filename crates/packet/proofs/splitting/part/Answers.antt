-- `part` is the front of what is left from the packet's first byte on.
use Rattle.std.proofs.Common.{◌-◌, ◌*◌, length, take, drop, ap, ◌∙◌, arith, length-drop, take_all}
use Rattle.std.proofs.lemmas.List.{take_min}
use Rattle.packet.specs.Packet.{part_bytes_of}
use Rattle.packet.proofs.splitting.part.Goals as goal

pub returns : goal.returns
returns c =
    let s = c.args.content.now in
    let k = c.args.packet * part_bytes_of in
    let rest = take (length s - k) (drop k s) in
    ap (λ n. take n rest) c.min.ensures ∙ take_min part_bytes_of rest ∙ ap (take part_bytes_of) (take_all (length s - k) (drop k s) (omega (arith, length-drop k s)))
