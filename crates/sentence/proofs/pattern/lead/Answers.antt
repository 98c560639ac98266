-- `lead`: each way out is one of the first tests, in their order.
use mathlib.Core.Path.{◌≡◌, sym, ap, ◌∙◌}
use mathlib.Core.Bool.{cond, true}
use native.Mathlib.Omega.{arith}
use Prim.Native.Nat.{◌-◌}
use lib.ListN.{length, length-drop}
use lib.Seq.{take_all}
use Rattle.bits.specs.Xor.{xor_of}
use Rattle.sentence.specs.Pattern.{same_bytes, last_five, summed, start_mark, lead_of}
use Rattle.sentence.specs.Spelling.{closing_of}
use lib.ListN.{take}
use Rattle.sentence.specs.Laws.Tests.{lead_short, lead_long, lead_start, lead_sum}
use Rattle.sentence.proofs.pattern.lead.Goals.{After-same-2, then-n-lt-LEAST-via-then-n-lt-LEAST, then-n-lt-LEAST-via-else-n-lt-LEAST+then-n-gt-GREATEST}
use Rattle.sentence.proofs.pattern.lead.Goals as goal

-- the last test, whatever it says
summing : (c : After-same-2) → lead_of c.args.s.now ≡ cond c.same-2.result 0 3
summing c =
    let s = c.args.s.now in
    let start : same_bytes (take 7 s) start_mark ≡ true = sym c.same.ensures ∙ c.if-not-same.false in
    let n = length s in
    let five : take (n - (n - 5)) (last_five s) ≡ last_five s = take_all (n - (n - 5)) (last_five s) (omega (arith, length-drop (n - 5) s)) in
    let last : closing_of (xor_of (summed s)) ≡ c.closing-last.result = ap closing_of (sym c.xor.ensures) ∙ sym c.closing-last.ensures in
    lead_sum s (omega arith) (omega arith) start (ap (λ u. same_bytes u (closing_of (xor_of (summed s)))) (sym five) ∙ ap (same_bytes (take (n - (n - 5)) (last_five s))) last ∙ sym c.same-2.ensures)

pub returns-then-n-lt-LEAST : goal.returns-then-n-lt-LEAST
returns-then-n-lt-LEAST c = record {
  code = elim c.then-n-lt-LEAST.branch [
    | then-n-lt-LEAST-via-then-n-lt-LEAST w ↦ sym (lead_short c.args.s.now w.if-n-lt-LEAST.true)
    | then-n-lt-LEAST-via-else-n-lt-LEAST+then-n-gt-GREATEST w ↦ sym (lead_long c.args.s.now w.if-n-gt-GREATEST.true)
  ];
  size = tt;
}

pub returns-then-not-same : goal.returns-then-not-same
returns-then-not-same c =
    record { code = sym (lead_start c.args.s.now (omega arith) (omega arith) (sym c.same.ensures ∙ c.if-not-same.true)); size = tt }

pub returns-then-not-same-2 : goal.returns-then-not-same-2
returns-then-not-same-2 c =
    record { code = sym (summing (goal.at.returns-then-not-same-2 c).After-same-2 ∙ ap (λ z. cond z 0 3) c.if-not-same-2.true); size = tt }

pub returns : goal.returns
returns c = record { code = sym (summing (goal.at.returns c).After-same-2 ∙ ap (λ z. cond z 0 3) c.if-not-same-2.false); size = omega arith }
