-- `drop` meets its contract: each way out is one case of `dropping`.
use mathlib.Core.Path.{◌≡◌, sym, ap, ◌∙◌}
use borrow.Author.Rules.{rules}
use lib.Dec.{lit<}
use Rattle.format.specs.Laws.Outcomes.{number_some}
use Rattle.places.specs.Desk.{turn_of, stays}
use Rattle.places.specs.Places.{freed, place_at}
use Rattle.places.specs.Replies.{Done, Refused}
use Rattle.places.specs.Replies.{Turn}
use Rattle.places.specs.Laws.Outcomes.{dropping_refused, dropping_unknown}
use Rattle.places.specs.Laws.Four.{first_again}
use Rattle.desk.proofs.Ways.{tests_turn}
use Rattle.desk.proofs.AskingWays.{nowhere, found, drops, dropped}
use Rattle.desk.proofs.asking.drop.Goals as goal

pub returns-in_err-first_tests : goal.returns-in_err-first_tests
returns-in_err-first_tests c =
    let a = c.args in
    let s = a.store.now in
    let e = c.in_err-first_tests.ensures in
    let again = tests_turn (place_at a.places.now 0) c.from_residual.result _ _ c.from_residual.ensures.1 e in
    dropped a.places.now s a.number _ _ (dropping_refused a.places.now s a.number (λ z. number_some _ (e ∙ z))) again (first_again _ (place_at a.places.now 0) _ again)

pub returns-in_default : goal.returns-in_default
returns-in_default c =
    let a = c.args in
    let s = a.store.now in
    let none = nowhere a.places.now s a.number (search rules) (sym c.in_default.is ∙ c.open_at.ensures) in
    dropped a.places.now s a.number _ _ (dropping_unknown a.places.now s a.number (sym c.in_ok-first_tests.ensures) none)
    (ap (λ v. turn_of a.places.now (Refused v) stays) c.into.ensures) (lit< tt)

pub returns : goal.returns
returns c =
    let a = c.args in
    let s = a.store.now in
    let i = c.in-Some.at in
    let z = sym c.in_ok-first_tests.ensures in
    let f = found a.places.now s a.number (search rules) i c.place_at-dropped.result z (sym c.in-Some.is ∙ c.open_at.ensures) c.place_at-dropped.ensures in
    let turn : ◌≡◌ {A = Turn} (record { at = i; place = c.freed.result; reply = Done }) (record { at = i; place = freed c.place_at-dropped.result; reply = Done }) =
    λ y. record { at = i; place = c.freed.ensures y; reply = Done } in
    dropped a.places.now s a.number _ _ (drops a.places.now s a.number f) turn f.within
