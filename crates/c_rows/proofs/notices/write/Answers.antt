-- `write` tests the language, and then is the notice's.
use mathlib.Core.Path.{refl, ◌∙◌}
use mathlib.Core.Bool.{Bool, true, false}
use mathlib.Core.List.{List}
use Prim.Native.Nat.{ℕ}
use native.Mathlib.Omega.{arith}
use borrow.Author.Tests.{le-leb, lt-leb}
use Rattle.format.specs.Fmt.{refused}
use Rattle.format.specs.Promises.{Lays}
use Rattle.format.specs.Refusals.{bare}
use Rattle.notice.specs.WritingPromises.{enough}
use Rattle.c_rows.proofs.notices.write.Goals as goal

-- whether the row has enough or not
untouched : (has : Bool) (s : List ℕ) → Lays has (refused 4 0) s (bare 4) s
untouched true s = (refl, refl)
untouched false s = (refl, refl)

pub returns-then-language-gt-ENGLISH : goal.returns-then-language-gt-ENGLISH
returns-then-language-gt-ENGLISH c =
    let a = c.args in
    let (told, left) = untouched (enough a.r a.areas.now) a.buf.now in
    rw (lt-leb a.language 1 (omega (arith, c.if-language-gt-ENGLISH.true))) (c.into.ensures ∙ told, left)

pub returns : goal.returns
returns c =
    let a = c.args in
    rw (le-leb a.language 1 (omega (arith, c.if-language-gt-ENGLISH.false))) c.write.ensures
