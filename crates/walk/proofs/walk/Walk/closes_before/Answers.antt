-- `closes_before`: each test that fails decides the answer.
use mathlib.Core.Bool.{and-false}
use Rattle.std.proofs.Common.{◌≡◌, ℕ, ◌+◌, ◌*◌, ◌<◌, Bool, cond, leb, ne_eqb, sym, refl, ap, ap₂, ◌∙◌, arith, le-leb}
use borrow.Author.Tests.{lt-leb}
use Rattle.format.specs.Message.{between}
use Rattle.format.specs.Refusals.{shown, bare, seen_refusal}
use Rattle.format.specs.Laws.Outcomes.{told_exit, number_some}
use Rattle.walk.specs.Walk.{Walk, seen}
use Rattle.walk.specs.Judging.{verdict, made, beyond, closing}
use Rattle.walk.specs.Laws.Making.{closing_beyond}
use Rattle.walk.proofs.walk.Walk.closes_before.Goals.{then-most-head-via-then-most-head, then-most-head-via-else-most-head+then-most-head-2}
use Rattle.walk.proofs.walk.Walk.closes_before.Goals as goal

-- where nothing was refused before, the size and the room decide
tests : (z : Bool) (least most room more n : ℕ) (r : Walk) → bare 0 ≡ shown r.code r.offset → n ≡ made z r.at
    → closing z least most room (beyond (more * 8) 0 r) ≡ cond (between least most (n + more)) (cond (leb (n + more) room) (bare 0) (bare 6)) (bare 1)
tests z least most room more n r e h = closing_beyond z least most room more r ∙ ap₂ (λ v n. verdict v least most room (n + more)) (sym e) (sym h)

pub returns-in_err-passed : goal.returns-in_err-passed
returns-in_err-passed c =
    let a = c.args in
    let r = seen a.self in
    let f = c.in_err-passed.field-0.0 in
    let own : seen_refusal f ≡ shown r.code r.offset = c.in_err-passed.ensures in
    let some : r.code ≡ 0 → ⊥ = λ z. number_some f.reason (ap (λ v. v.code) own ∙ z) in
    told_exit c.from_residual.result f c.from_residual.ensures.1 ∙ own
    ∙ sym (closing_beyond a.seal a.least a.most a.room a.more r ∙ rw (ne_eqb r.code 0 some) refl)

pub returns-then-most-head : goal.returns-then-most-head
returns-then-most-head c =
    let a = c.args in
    let n = c.bytes-head.result + a.more in
    let far : a.most < n = elim c.then-most-head.branch [
      | then-most-head-via-then-most-head w ↦ omega (arith, w.if-most-head.true)
      | then-most-head-via-else-most-head+then-most-head-2 w ↦ omega (arith, w.if-most-head.false, w.if-most-head-2.true)
    ] in
    c.into.ensures ∙ sym (tests a.seal a.least a.most a.room a.more c.bytes-head.result (seen a.self) c.in_ok-passed.ensures c.bytes-head.ensures ∙ rw (lt-leb n a.most far, and-false) refl)

pub returns-then-n-least : goal.returns-then-n-least
returns-then-n-least c =
    let a = c.args in
    let n = c.bytes-head.result + a.more in
    c.into-then-n-least.ensures ∙ sym (tests a.seal a.least a.most a.room a.more c.bytes-head.result (seen a.self) c.in_ok-passed.ensures c.bytes-head.ensures ∙ rw (lt-leb a.least n c.if-n-least.true) refl)

pub returns-then-room-n : goal.returns-then-room-n
returns-then-room-n c =
    let a = c.args in
    let n = c.bytes-head.result + a.more in
    c.into-then-room-n.ensures ∙ sym (tests a.seal a.least a.most a.room a.more c.bytes-head.result (seen a.self) c.in_ok-passed.ensures c.bytes-head.ensures
    ∙ rw (le-leb a.least n (omega (arith, c.if-n-least.false)), le-leb n a.most (omega (arith, c.if-most-head.false, c.if-most-head-2.false)), lt-leb n a.room c.if-room-n.true) refl)

pub returns : goal.returns
returns c =
    let a = c.args in
    let n = c.bytes-head.result + a.more in
    sym (tests a.seal a.least a.most a.room a.more c.bytes-head.result (seen a.self) c.in_ok-passed.ensures c.bytes-head.ensures
    ∙ rw (le-leb a.least n (omega (arith, c.if-n-least.false)), le-leb n a.most (omega (arith, c.if-most-head.false, c.if-most-head-2.false)), le-leb n a.room (omega (arith, c.if-room-n.false))) refl)
