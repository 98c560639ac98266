-- `content` is the part of a good packet where its content stands.
use Rattle.std.proofs.Common.{◌-◌, ◌≤◌, length, take, drop, refl, sym, ap, ◌∙◌}
use Rattle.format.specs.Refusals.{told_of}
use Rattle.format.specs.Laws.Outcomes.{number_some}
use Rattle.packet.specs.Promises.{Shows}
use Rattle.packet.specs.Laws.Shown.{hidden, shown}
use Rattle.packet.proofs.reading.content.Goals.{In-Ok}
use Rattle.packet.proofs.reading.content.Goals as goal

pub returns-in-Err : goal.returns-in-Err
returns-in-Err c = hidden c.args.s.now c.read.result c.read.ensures refl (λ z. number_some c.in-Err.field-0.reason (ap (λ a. (told_of a).code) (sym c.in-Err.is) ∙ z))

good : (c : In-Ok) → let s = c.args.s.now in (4 ≤ length s) × Shows s (take (length s - 4) (drop 4 s))
good c = shown c.args.s.now c.read.result c.read.ensures refl (λ i. (c.type_inv.s i).fits) (ap (λ a. (told_of a).code) c.in-Ok.is)

pub slice_bounds-result-count : goal.slice_bounds-result-count
slice_bounds-result-count c = (good c).0

pub slice_bounds-result-start : goal.slice_bounds-result-start
slice_bounds-result-start c = (good c).0

pub returns-in-Ok : goal.returns-in-Ok
returns-in-Ok c = (good (goal.at.returns-in-Ok c).In-Ok).1
