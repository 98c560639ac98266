-- `end` answers what `ending` made, where there was room to read into.
use Rattle.std.proofs.Common.{ap, ◌∙◌, arith}
use Rattle.format.specs.Laws.Outcomes.{number_some}
use Rattle.daylog.specs.Turns.{seen}
use Rattle.daylog.proofs.Turning.{closed, shut, last_roomed}
use Rattle.daylog.proofs.turns.end.Goals as goal

pub returns-in-Ok : goal.returns-in-Ok
returns-in-Ok c =
    let a = c.args in
    record {
      by_index = λ input e. closed (seen a.t) a.left input (omega arith) c.in-Ok.ensures c.stop.ensures;
      code_value = λ h w. ap (λ r. r.code) c.stop.ensures;
    }

pub returns-in-Err : goal.returns-in-Err
returns-in-Err c =
    let a = c.args in
    let p = c.in-Err.ensures in
    record {
      by_index = λ input e. closed (seen a.t) a.left input (omega arith) p c.stop-in-Err.ensures;
      code_value = λ h w. absurd (number_some c.in-Err.reason (p.code ∙ last_roomed a.t.number a.left a.text.now (omega arith) (omega arith) h));
    }

pub returns : goal.returns
returns c =
    let a = c.args in
    record { by_index = λ input e. shut (seen a.t) a.left input (omega arith) c.stop-2.ensures; code_value = λ h w. absurd (omega arith) }
