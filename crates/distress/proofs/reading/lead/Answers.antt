-- `lead` gives 01's first tests: each way out decides the tests before it.
use mathlib.Core.Path.{◌≡◌, sym, ◌∙◌}
use native.Mathlib.Omega.{arith}
use lib.Dec.{lit≤}
use lib.ListN.{length}
use borrow.Author.Tests.{le-leb, lt-leb, eq-eqb, ne_eqb}
use Rattle.bits.specs.Laws.Answers.{got_fits}
use Rattle.bits.specs.Bits.{field_at}
use Rattle.distress.specs.Report.{reports}
use Rattle.distress.proofs.reading.lead.Goals as goal

pub returns-then-s-lt-LEAST : goal.returns-then-s-lt-LEAST
unfolding reports
returns-then-s-lt-LEAST c = rw (lt-leb 17 (length c.args.s.now) c.if-s-lt-LEAST.true)

pub returns-then-get-ne-CODE : goal.returns-then-get-ne-CODE
unfolding reports
returns-then-get-ne-CODE c =
    let s = c.args.s.now in
    let e : c.get.result ≡ field_at s 0 16 = c.get.ensures ∙ got_fits s 0 16 (lit≤ tt) (omega arith) in
    rw (le-leb 17 (length s) (omega arith), ne_eqb (field_at s 0 16) 0xBDC1 (λ z. c.if-get-ne-CODE.true (e ∙ z)))

pub returns-then-s-gt-GREATEST : goal.returns-then-s-gt-GREATEST
unfolding reports
returns-then-s-gt-GREATEST c =
    let s = c.args.s.now in
    let e : c.get.result ≡ field_at s 0 16 = c.get.ensures ∙ got_fits s 0 16 (lit≤ tt) (omega arith) in
    rw (le-leb 17 (length s) (omega arith), eq-eqb (field_at s 0 16) 0xBDC1 (sym e ∙ c.if-get-ne-CODE.false), lt-leb (length s) 17 (omega arith))

pub returns : goal.returns
unfolding reports
returns c =
    let s = c.args.s.now in
    let e : c.get.result ≡ field_at s 0 16 = c.get.ensures ∙ got_fits s 0 16 (lit≤ tt) (omega arith) in
    rw (le-leb 17 (length s) (omega arith), eq-eqb (field_at s 0 16) 0xBDC1 (sym e ∙ c.if-get-ne-CODE.false), le-leb (length s) 17 (omega arith))
