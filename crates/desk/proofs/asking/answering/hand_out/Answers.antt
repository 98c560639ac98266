-- `hand_out` meets its contract: the buffer is too short for the packets, or they stand in it.
use mathlib.Core.Path.{refl, ap}
use mathlib.Core.List.{[], ◌∷◌}
use native.Mathlib.Omega.{arith}
use lib.Dec.{lit<}
use Rattle.places.specs.Desk.{turn_of, stays}
use Rattle.places.specs.Replies.{Refused, Turn}
use Rattle.desk.proofs.Answers.{answered, buffer_short, handed}
use Rattle.desk.proofs.asking.answering.hand_out.Goals as goal

pub returns-then-bytes-notice : goal.returns-then-bytes-notice
returns-then-bytes-notice c =
    let a = c.args in
    let e = buffer_short a.store.now a.i a.p a.notice.now c.requires.0 c.requires.1 c.requires.2 c.count_bytes-bytes.result c.count_bytes-bytes.ensures (omega (arith, c.if-bytes-notice.true)) in
    answered a.first _ _ _ a.notice.now [] e (ap (λ v. turn_of (a.first ∷ []) (Refused v) stays) c.into.ensures, lit< tt, refl, refl)

pub returns : goal.returns
returns c =
    let a = c.args in
    let e = handed a.store.now a.i a.p a.notice.now c.requires.0 c.requires.1 c.requires.2 c.count_bytes-bytes.result c.count_bytes-bytes.ensures (omega (arith, c.if-bytes-notice.false)) in
    answered a.first _ _ _ _ [] e (c.handed.ensures, omega (arith, ap (λ (t : Turn). t.at) c.handed.ensures, c.requires.1), c.join.ensures, refl)
