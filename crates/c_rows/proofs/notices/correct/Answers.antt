-- `correct` tests the language, and then is the notice's.
use Rattle.std.proofs.Common.{refl, arith, le-leb}
use Rattle.std.proofs.lemmas.Bool.{lt-leb}
use Rattle.c_rows.proofs.notices.correct.Goals as goal

pub returns-then-language-gt-ENGLISH : goal.returns-then-language-gt-ENGLISH
returns-then-language-gt-ENGLISH c =
    rw (lt-leb c.args.language 1 (omega (arith, c.if-language-gt-ENGLISH.true))) (c.into.ensures, refl)

pub returns : goal.returns
returns c =
    rw (le-leb c.args.language 1 (omega (arith, c.if-language-gt-ENGLISH.false))) c.correct.ensures
