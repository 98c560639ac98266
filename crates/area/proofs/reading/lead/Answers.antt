-- `lead` gives 01's first tests: those of every AIS message, from its head as it is got.
use mathlib.Core.Path.{◌∙◌}
use lib.Dec.{lit≤}
use Rattle.ais_common.specs.Laws.Sound.{got_lead}
use Rattle.area.specs.Area.{asked, areas}
use Rattle.area.proofs.reading.lead.Goals as goal

pub returns : goal.returns
unfolding areas
returns c =
    let s = c.args.s.now in
    c.lead.ensures ∙ got_lead asked 72 92 2 s _ c.get.ensures c.get-2.ensures c.get-3.ensures (lit≤ tt) (lit≤ tt) (lit≤ tt)
