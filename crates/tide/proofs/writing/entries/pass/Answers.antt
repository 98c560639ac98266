-- `pass` leaves the walk where judging n good entries one by one does (`entries_quiet`).
use Rattle.walk.specs.Walk.{seen}
use Rattle.tide.specs.Laws.RowEntries.{pass_quiet}
use Rattle.tide.proofs.writing.entries.pass.Goals as goal

pub returns : goal.returns
returns c =
    let a = c.args in
    pass_quiet a.row.now a.n a.k (seen a.w) c.requires.0 c.requires.2 c.entry.ensures
