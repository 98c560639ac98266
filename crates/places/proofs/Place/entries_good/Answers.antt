-- `Place::entries_good` meets its contract: of the entries below k, whether all are good, and whether the greatest is 0.
use mathlib.Core.Path.{refl, sym, ap, ap₂, ◌∙◌}
use mathlib.Core.Bool.{◌&&◌}
use lib.Dec.{eqb, leb}
use Rattle.places.specs.Places.{every_below, held, lacks, entry_good}
use Rattle.places.specs.Laws.Below.{every_next}
use Rattle.places.proofs.Entries.{entry_limit, none_greater}
use Rattle.places.proofs.Place.entries_good.Goals as goal

pub loop-k-init : goal.loop-k-init
unfolding every_below
loop-k-init c = (refl, refl)

pub loop-k-preserved : goal.loop-k-preserved
loop-k-preserved c =
    let p = c.args.self.now in
    let k = c.loop-k.k in
    let (good, none) = c.loop-k.invariant in (
      ap₂ ◌&&◌ good (ap (leb (held p k)) c.size_limit.ensures ∙ sym (entry_limit p k)) ∙ sym (every_next k (entry_good p)),
      ap (λ n. eqb n 0) c.max-most.ensures ∙ none_greater c.loop-k.most (held p k) ∙ ap (◌&& lacks p k) none ∙ sym (every_next k (lacks p)),
    )
