-- `settle` meets its contract: the place is put back where the reply comes with one that changed.
use mathlib.Core.Path.{refl, sym, ◌∙◌}
use Rattle.desk_bytes.proofs.settle.Goals as goal

pub returns-then-moves : goal.returns-then-moves
returns-then-moves c = c.put.ensures ∙ sym (rw (sym c.moves.ensures ∙ c.if-moves.true) refl)

pub returns-else-moves : goal.returns-else-moves
returns-else-moves c = sym (rw (sym c.moves.ensures ∙ c.if-moves.false) refl)
