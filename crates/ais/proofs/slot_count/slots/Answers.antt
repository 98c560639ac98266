-- `slots` takes the message's table.
use Rattle.std.proofs.Common.{ap, arith, ne_eqb}
use Rattle.format.specs.Promises.{refused_by}
use Rattle.ais.specs.Slots.{slots_for}
use Rattle.ais.proofs.slot_count.slots.Goals as goal

pub returns-in-6 : goal.returns-in-6
unfolding slots_for
returns-in-6 c = rw c.in-6.is c.slots_in.ensures

pub returns-in-8 : goal.returns-in-8
unfolding slots_for
returns-in-8 c = rw c.in-8.is c.slots_in-in-8.ensures

pub returns-in_default : goal.returns-in_default
unfolding slots_for
returns-in_default c =
    let a = c.args in
    rw (ne_eqb a.message 6 (λ e. omega (arith, e)), ne_eqb a.message 8 (λ e. omega (arith, e))) (ap refused_by c.into.ensures)
