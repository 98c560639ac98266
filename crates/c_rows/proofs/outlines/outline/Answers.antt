-- `outline` hands on the answer of `outline::outline`, in a language that there is.
use Rattle.std.proofs.Common.{refl, sym, ap, ◌∙◌, eqb, le-leb}
use Rattle.std.proofs.lemmas.Bool.{lt-leb}
use Rattle.format.specs.Message.{accepts}
use Rattle.format.specs.Refusals.{seen_refusal}
use Rattle.format.specs.Laws.Answers.{plain_good, refused_told}
use Rattle.format.specs.Fmt.{accepted}
use Rattle.format.specs.Promises.{out_of, refused_by}
use Rattle.outline.specs.Promises.{counted}
use Rattle.c_rows.proofs.outlines.outline.Goals as goal

pub returns-then-language-gt1 : goal.returns-then-language-gt1
returns-then-language-gt1 c = rw (lt-leb c.args.language 1 c.if-language-gt1.true) (c.into.ensures, refl, refl)

pub returns : goal.returns
returns c =
    let a = c.args in
    let o = counted (eqb a.language 1) a.s.now a.row.now in
    let (code, points) = accepts a.points.now (plain_good o (sym c.in_ok-points.ensures.0)) in
    rw (le-leb a.language 1 c.if-language-gt1.false) (code, c.in_ok-points.ensures.1, points)
