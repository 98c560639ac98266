-- `read`: a refused sentence gives its number, with no bit; an accepted one, taken apart, gives the report's own answer.
use mathlib.Core.Path.{◌≡◌, sym, ap, ◌∙◌}
use native.Mathlib.Omega.{arith}
use Prim.Native.Nat.{◌-◌}
use lib.ListN.{length}
use borrow.Author.Tests.{eq-eqb}
use Rattle.format.specs.Fmt.{accepted}
use Rattle.format.specs.Promises.{refused_by, plain, read_record}
use Rattle.format.specs.Refusals.{number}
use Rattle.format.specs.Laws.Outcomes.{out_exit}
use Rattle.distress.specs.Report.{reports, report_of}
use Rattle.sentence.specs.Spelling.{unhexed}
use Rattle.sentence.specs.Pattern.{hex_part, told_around}
use Rattle.sentence.specs.Sentence.{read_sentence}
use Rattle.sentence.specs.Laws.Parts.{length_part}
use Rattle.sentence.specs.Laws.Calls.{heard_refused, Taken, heard_as, heard_inside}
use Rattle.sentence.proofs.Laws.Calls.{taken}
use Rattle.sentence.proofs.reading.read.Goals.{After-unhex-bytes, In-Ok}
use Rattle.sentence.proofs.reading.read.Goals as goal

apart : (c : In-Ok) → Taken c.args.s.now c.in-Ok.to
apart c = taken c.args.s.now c.in-Ok.to c.in-Ok.ensures

-- what is heard is what the report's digits, 34 of them, spell
inside : (c : After-unhex-bytes) → Taken c.args.s.now c.in-Ok.to → plain (read_sentence c.args.s.now) ≡ heard_as c.in-Ok.to (plain (read_record reports report_of c.unhex-bytes.result))
inside c t =
    let s = c.args.s.now in
    let l = t.least in
    let to = c.in-Ok.to in
    let n = length_part (length s - 39) (length s - 5) s (omega arith) (omega arith) in
    let u : c.unhex-bytes.result ≡ unhexed (hex_part s) = c.unhex-bytes.ensures ∙ rw (eq-eqb (length (hex_part s)) 34 (n ∙ omega arith)) in
    heard_inside s to c.unhex-bytes.result (t.inside ∙ ap (λ b. accepted (to, b)) (sym u))

pub returns-in_default : goal.returns-in_default
returns-in_default c =
    ap refused_by c.into.ensures
    ∙ sym (heard_refused c.args.s.now (number c.unwrap_err.result) (ap told_around (sym c.unwrap_err.ensures) ∙ c.accept-outer.ensures))

pub overflow_sub-n : goal.overflow_sub-n
overflow_sub-n c = omega (arith, (apart c).least)

pub overflow_sub-n-2 : goal.overflow_sub-n-2
overflow_sub-n-2 c = omega (arith, (apart c).least)

pub returns-in_err-r : goal.returns-in_err-r
returns-in_err-r c =
    let u = (goal.at.returns-in_err-r c).After-unhex-bytes in
    let k = (goal.at.returns-in_err-r c).In-Ok in
    out_exit c.from_residual.result _ c.from_residual.ensures.1 ∙ ap (heard_as c.in-Ok.to) c.in_err-r.ensures ∙ sym (inside u (apart k))

pub returns : goal.returns
returns c =
    let u = (goal.at.returns c).After-unhex-bytes in
    let k = (goal.at.returns c).In-Ok in
    ap (heard_as c.in-Ok.to) c.in_ok-r.ensures ∙ sym (inside u (apart k))
