-- `join` meets its contract: each way of the packet in turn.
use mathlib.Core.Path.{◌≡◌, refl, sym, ap, ◌∙◌}
use mathlib.Core.Bool.{true}
use mathlib.Core.List.{[], ◌∷◌}
use Prim.Native.Nat.{◌+◌, ◌-◌}
use native.Mathlib.Omega.{arith}
use lib.Dec.{lit<}
use lib.ListN.{length, take, drop}
use Rattle.format.specs.Refusals.{bare}
use Rattle.places.specs.Places.{held, holding, place_at}
use Rattle.places.specs.Desk.{alike, turned_away, taken, stays, turn_of, cell}
use Rattle.places.specs.Replies.{Done, Again, Refused}
use Rattle.places.specs.Laws.Four.{settled}
use Rattle.places.specs.Laws.Laid.{laid_within_lem}
use Rattle.desk.proofs.Joins.{agree, other_head, not_held, held_again, other_content}
use Rattle.desk.proofs.accepting.placing.join.Goals.{After-agrees}
use Rattle.desk.proofs.accepting.placing.join.Goals as goal

pub returns-then-not-agrees : goal.returns-then-not-agrees
returns-then-not-agrees c =
    let a = c.args in
    settled (place_at a.places.now 0) _ (turned_away a.store.now (bare 7)) _ _ (other_head a.store.now a.i (place_at a.places.now a.i) a.r a.content.now (sym c.agrees.ensures ∙ c.if-not-agrees.true)) (ap (λ v. turn_of ((place_at a.places.now 0) ∷ []) (Refused v) stays) c.into.ensures) (lit< tt) refl

-- behind the first test language and total are the same
agreed : (g : After-agrees) → g.agrees.result ≡ true → let a = g.args in agree a.store.now a.i (place_at a.places.now a.i) a.r a.content.now ≡ true
agreed g e = sym g.agrees.ensures ∙ e

pub returns-then-size-eq0 : goal.returns-then-size-eq0
returns-then-size-eq0 c =
    let a = c.args in
    settled (place_at a.places.now 0) _ (taken a.store.now a.i (holding (place_at a.places.now a.i) a.r.own (length a.content.now)) a.r a.content.now) _ _
    (not_held a.store.now a.i (place_at a.places.now a.i) a.r a.content.now (agreed (goal.at.returns-then-size-eq0 c).After-agrees c.if-not-agrees.false) c.if-size-eq0.true)
    (ap (λ q. record { at = a.i; place = q; reply = Done }) c.holding.ensures) (omega arith)
    (c.lay.ensures ∙ laid_within_lem a.store.now (cell a.i a.r.own) a.content.now (omega arith))

pub returns-then-same : goal.returns-then-same
returns-then-same c =
    let a = c.args in
    let size : held (place_at a.places.now a.i) a.r.own ≡ cell a.i a.r.own + held (place_at a.places.now a.i) a.r.own - cell a.i a.r.own = omega arith in
    settled (place_at a.places.now 0) _ (record { reply = Again; change = stays; store = a.store.now }) _ _
    (held_again a.store.now a.i (place_at a.places.now a.i) a.r a.content.now (agreed (goal.at.returns-then-same c).After-agrees c.if-not-agrees.false) c.if-size-eq0.false
    (ap (λ n. alike (take n (drop (cell a.i a.r.own) a.store.now)) a.content.now) size ∙ sym c.same.ensures ∙ c.if-same.true)) c.staying.ensures (lit< tt) refl

pub returns : goal.returns
returns c =
    let a = c.args in
    let size : held (place_at a.places.now a.i) a.r.own ≡ cell a.i a.r.own + held (place_at a.places.now a.i) a.r.own - cell a.i a.r.own = omega arith in
    settled (place_at a.places.now 0) _ (turned_away a.store.now (bare 7)) _ _
    (other_content a.store.now a.i (place_at a.places.now a.i) a.r a.content.now (agreed (goal.at.returns c).After-agrees c.if-not-agrees.false) c.if-size-eq0.false
    (ap (λ n. alike (take n (drop (cell a.i a.r.own) a.store.now)) a.content.now) size ∙ sym c.same.ensures ∙ c.if-same.false)) (ap (λ v. turn_of ((place_at a.places.now 0) ∷ []) (Refused v) stays) c.into-2.ensures) (lit< tt) refl
