-- `Place::good` meets its contract: the total, then the entries.
use mathlib.Core.Path.{◌≡◌, refl, sym, ap, ◌∙◌}
use mathlib.Core.Bool.{◌&&◌}
use borrow.Author.Tests.{le-leb, lt-leb}
use lib.Dec.{leb}
use Rattle.packet.specs.Packet.{most_packets}
use Rattle.places.specs.Places.{good_place}
use Rattle.places.proofs.Place.good.Goals.{then-self-ge1, else-self-ge1}
use Rattle.places.proofs.Place.good.Goals as goal

pub returns-then-self-le-MOST : goal.returns-then-self-le-MOST
unfolding good_place
returns-then-self-le-MOST c =
    let t = c.args.self.now.total in
    let total : c.if-self-ge1.value ≡ (leb 1 t && leb t most_packets) =
    elim c.if-self-ge1.branch [
      | then-self-ge1 w ↦ w.value-is ∙ sym (rw (le-leb 1 t w.if-self-ge1.true) refl)
      | else-self-ge1 w ↦ let n = lt-leb 1 t w.if-self-ge1.false in w.value-is ∙ n ∙ sym (ap (◌&& leb t most_packets) n)
    ] in
    c.entries_good.ensures ∙ sym (rw (sym total ∙ c.if-self-le-MOST.true) refl)

pub returns-else-self-le-MOST : goal.returns-else-self-le-MOST
unfolding good_place
returns-else-self-le-MOST c =
    let t = c.args.self.now.total in
    let total : c.if-self-ge1.value ≡ (leb 1 t && leb t most_packets) =
    elim c.if-self-ge1.branch [
      | then-self-ge1 w ↦ w.value-is ∙ sym (rw (le-leb 1 t w.if-self-ge1.true) refl)
      | else-self-ge1 w ↦ let n = lt-leb 1 t w.if-self-ge1.false in w.value-is ∙ n ∙ sym (ap (◌&& leb t most_packets) n)
    ] in
    c.if-self-le-MOST.false ∙ sym (rw (sym total ∙ c.if-self-le-MOST.false) refl)
