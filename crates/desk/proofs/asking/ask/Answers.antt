-- `ask` meets its contract: the first tests refuse, no place has the number, or it is `answer` at the place that has it.
use mathlib.Core.List.{[], ◌∷◌}
use mathlib.Core.Path.{refl, sym, ap, ◌∙◌}
use borrow.Author.Rules.{rules}
use lib.Dec.{lit<}
use Rattle.format.specs.Laws.Outcomes.{number_some}
use Rattle.places.specs.Desk.{turn_of, stays}
use Rattle.places.specs.Places.{place_at}
use Rattle.places.specs.Replies.{Refused}
use Rattle.places.specs.Laws.Outcomes.{asking_refused, asking_unknown}
use Rattle.places.specs.Laws.Four.{first_again}
use Rattle.desk.proofs.Ways.{tests_turn}
use Rattle.desk.proofs.AskingWays.{Found, nowhere, found, asks, asked}
use Rattle.desk.proofs.asking.ask.Goals.{After-place_at-p}
use Rattle.desk.proofs.asking.ask.Goals as goal

pub returns-in_err-first_tests : goal.returns-in_err-first_tests
returns-in_err-first_tests c =
    let a = c.args in
    let s = a.store.now in
    let b = a.notice.now in
    let w = a.missing.now in
    let e = c.in_err-first_tests.ensures in
    let first = place_at a.places.now 0 in
    let again = tests_turn first c.from_residual.result _ _ c.from_residual.ensures.1 e in
    asked a.places.now s a.number b w b w _ _ (asking_refused a.places.now s a.number b w (λ z. number_some _ (e ∙ z)))
    (again, first_again _ first _ again, refl, refl)

pub returns-in_default : goal.returns-in_default
returns-in_default c =
    let a = c.args in
    let s = a.store.now in
    let b = a.notice.now in
    let w = a.missing.now in
    let none = nowhere a.places.now s a.number (search rules) (sym c.in_default.is ∙ c.open_at.ensures) in
    let first = place_at a.places.now 0 in
    let again = ap (λ v. turn_of (first ∷ []) (Refused v) stays) c.into.ensures in
    asked a.places.now s a.number b w b w _ _ (asking_unknown a.places.now s a.number b w (sym c.in_ok-first_tests.ensures) none)
    (again, lit< tt, refl, refl)

-- what is known of the place that was picked
here : (k : After-place_at-p) → let a = k.args in Found a.places.now a.store.now a.number k.in-Some.at k.place_at-p.result
here k =
    let a = k.args in
    found a.places.now a.store.now a.number (search rules) k.in-Some.at k.place_at-p.result
    (sym k.in_ok-first_tests.ensures) (sym k.in-Some.is ∙ k.open_at.ensures) k.place_at-p.ensures

pub answer-requires : goal.answer-requires
answer-requires c = let f = here (goal.at.answer-requires c).After-place_at-p in (f.sized, f.within, f.deep)

pub returns : goal.returns
returns c =
    let k = (goal.at.returns c).After-place_at-p in
    let a = c.args in
    let s = a.store.now in
    let b = a.notice.now in
    let w = a.missing.now in
    asked a.places.now s a.number b w _ _ _ _ (asks a.places.now s a.number (here k) b w) c.answer.ensures
