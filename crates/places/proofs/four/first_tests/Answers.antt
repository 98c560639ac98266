-- `first_tests` meets its contract: four places are a row long enough.
use mathlib.Core.Path.{◌≡◌, refl, sym, ◌∙◌}
use borrow.Author.Rules.{rules}
use borrow.Author.Tests.{le-leb, lt-leb}
use lib.ListN.{length}
use Rattle.places.specs.Desk.{first_tests}
use Rattle.places.specs.Places.{four_places}
use Rattle.places.proofs.four.first_tests.Goals as goal

pub returns-then-store-lt-STORE : goal.returns-then-store-lt-STORE
unfolding first_tests
returns-then-store-lt-STORE c =
    let wide : length c.args.places.now ≡ four_places = search rules in
    sym (rw (wide, lt-leb _ _ c.if-store-lt-STORE.true) refl)

pub returns-then-not-sound : goal.returns-then-not-sound
unfolding first_tests
returns-then-not-sound c =
    let wide : length c.args.places.now ≡ four_places = search rules in
    sym (rw (wide, le-leb _ _ c.if-store-lt-STORE.false, sym c.sound.ensures ∙ c.if-not-sound.true) refl)

pub returns : goal.returns
unfolding first_tests
returns c =
    let wide : length c.args.places.now ≡ four_places = search rules in
    sym (rw (wide, le-leb _ _ c.if-store-lt-STORE.false, sym c.sound.ensures ∙ c.if-not-sound.false) refl)
