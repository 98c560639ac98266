-- `split` tests the language, and then is the splitter's.
use mathlib.Core.Path.{◌≡◌, refl, ◌∙◌}
use native.Mathlib.Omega.{arith}
use borrow.Author.Tests.{le-leb, lt-leb}
use Rattle.format.specs.Fmt.{refused}
use Rattle.format.specs.Message.{refuses}
use Rattle.c_rows.specs.Split.{splitting_in}
use Rattle.c_rows.proofs.packets.split.Goals as goal

pub returns-then-language-gt-ENGLISH : goal.returns-then-language-gt-ENGLISH
returns-then-language-gt-ENGLISH c =
    let a = c.args in
    let m : splitting_in a.buf.now a.content.now a.language a.number a.packet ≡ refused 4 0 = rw (lt-leb a.language 1 c.if-language-gt-ENGLISH.true) refl in
    let (told, left) = refuses m in
    (c.into.ensures ∙ told, left)

pub returns : goal.returns
returns c =
    let a = c.args in
    rw (le-leb a.language 1 (omega (arith, c.if-language-gt-ENGLISH.false))) c.split.ensures
