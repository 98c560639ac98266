-- `accept`: the first tests give the size, which the parts' bounds need; each way out is one case of the definition.
use mathlib.Core.Path.{◌≡◌, refl, sym, ap, ◌∙◌}
use Prim.Native.Nat.{◌-◌}
use native.Mathlib.Omega.{arith}
use lib.ListN.{length}
use Rattle.sentence.specs.Pattern.{around_of, told_around, lead_of}
use Rattle.std.specs.Prelude.{ok_or}
use Rattle.format.specs.declared.Reason.TheVariants.{Range}
use Rattle.sentence.specs.Laws.Parts.{length_part}
use Rattle.sentence.specs.Laws.Tests.{around_exit, around_unlike, pattern_is, around_ends}
use Rattle.sentence.proofs.pattern.accept.Goals.{In_ok-lead, then-not-same-via-then-not-same, then-not-same-via-else-not-same+then-not-all_digits}
use Rattle.sentence.proofs.pattern.accept.Goals as goal

-- what stands after the first tests
first : (c : In_ok-lead) → lead_of c.args.s.now ≡ 0
first c = sym c.in_ok-lead.ensures.code

pub returns-in_err-lead : goal.returns-in_err-lead
returns-in_err-lead c = around_exit c.args.s.now c.from_residual.result _ c.from_residual.ensures.1 c.in_err-lead.ensures.code

pub returns-then-not-same : goal.returns-then-not-same
returns-then-not-same c =
    let e = first (goal.at.returns-then-not-same c).In_ok-lead in
    let s = c.args.s.now in
    elim c.then-not-same.branch [
      | then-not-same-via-then-not-same w ↦ sym (ap around_of (around_unlike s e (pattern_is s (sym c.same.ensures ∙ w.if-not-same.true) refl refl)))
      | then-not-same-via-else-not-same+then-not-all_digits w ↦
          sym (ap around_of (around_unlike s e (pattern_is s (sym c.same.ensures ∙ w.if-not-same.false) (sym w.all_digits.ensures ∙ w.if-not-all_digits.true) refl)))
    ]

pub address-requires : goal.address-requires
address-requires c =
    let n = length c.args.s.now in
    rw (length_part 7 (n - 46) c.args.s.now (omega arith) (omega arith)) (omega arith)

pub returns : goal.returns
returns c =
    let e = first (goal.at.returns c).In_ok-lead in
    let marked = sym c.same.ensures ∙ c.if-not-same.false in
    let figured = sym c.all_digits.ensures ∙ c.if-not-all_digits.false in
    ap told_around (c.ok_or.ensures.value ∙ ap (λ x. ok_or x Range) c.address.ensures) ∙ around_ends c.args.s.now e marked figured
