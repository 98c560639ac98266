-- `bits::scatter` meets its contract: the bytes from k on are stored, and `rest` is what they leave of `all`.
use Rattle.std.proofs.Common.{◌≡◌, arith}
use Rattle.bits.specs.Laws.Loops.{filled_none, filled_next, filled_all, rest_none, rest_next}
use Rattle.bits.proofs.scatter.Goals as goal

pub loop-k-init : goal.loop-k-init
loop-k-init c =
    let a = c.args in
    record { rest = rest_none a.count a.all; stored = filled_none a.s.now a.from a.count a.all }

pub loop-k-preserved : goal.loop-k-preserved
loop-k-preserved c =
    let a = c.args in
    let k = c.loop-k.k in
    let rest = rest_next a.s.now a.from a.count k a.all (omega arith) (omega arith) in
    let next = filled_next a.s.now a.from a.count k a.all (omega arith) (omega arith) (omega arith) in
    record { rest = cc; stored = cc }

pub returns : goal.returns
returns c =
    let a = c.args in
    let e : c.loop-k.k ≡ 0 = omega arith in
    cc (filled_all a.s.now a.from a.count a.all)
