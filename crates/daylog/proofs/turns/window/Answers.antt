-- `window` lists, and ends, keeps or counts by what was listed.
use Rattle.std.proofs.Common.{◌≡◌, ◌+◌, length, take, sym, refl, arith, length-take, length-take-le}
use Rattle.format.specs.Laws.Outcomes.{number_some}
use Rattle.daylog.specs.Laws.Windows.{used_within}
use Rattle.daylog.specs.Turns.{seen}
use Rattle.daylog.proofs.Turning.{crammed, ends, goes, keeps_code}
use Rattle.daylog.proofs.turns.window.Goals as goal

pub returns-in-Err : goal.returns-in-Err
returns-in-Err c =
    let a = c.args in
    let p = c.in-Err.ensures in
    record {
      gives = crammed (seen a.t) (take (a.t.waiting + a.got) a.input.now) a.input.now a.got p (number_some c.in-Err.reason) c.stop.ensures;
      code_value = λ h w. absurd (number_some c.in-Err.reason (p.enough h));
    }

pub overflow_add-used : goal.overflow_add-used
overflow_add-used c = omega (arith, simp length-take at (used_within c.in-Ok.ensures))

pub returns-then-used-got-eq0 : goal.returns-then-used-got-eq0
returns-then-used-got-eq0 c =
    let a = c.args in
    let w = take (a.t.waiting + a.got) a.input.now in
    let l : a.t.waiting + a.got ≡ length w = sym (length-take-le (a.t.waiting + a.got) a.input.now (omega arith)) in
    let p = c.end.ensures in
    record {
      gives = ends (seen a.t) w a.input.now a.got c.in-Ok.ensures refl (omega arith) (rw l at (p.by_index a.input.now refl));
      code_value = λ h w. p.code_value (omega arith) w;
    }

pub rest-requires : goal.rest-requires
rest-requires c = (omega (arith, simp length-take at (used_within c.in-Ok.ensures)), omega arith)

pub returns : goal.returns
returns c =
    let a = c.args in
    let g = c.rest.ensures c.list.new.out in
    let w = take (a.t.waiting + a.got) a.input.now in
    record { gives = goes (seen a.t) w a.input.now a.got c.in-Ok.ensures refl (λ z. omega arith) g; code_value = λ h k. keeps_code _ _ _ _ _ g }
