-- `read`: a row too short is refused behind the notice's own refusal.
use Rattle.std.proofs.Common.{refl, sym, ap, ◌∙◌, arith, eqb}
use Rattle.c_rows.specs.Notice.{unroomed}
use Rattle.c_rows.specs.Laws.Notice.{lent_short}
use Rattle.c_rows.proofs.notices.read.Goals as goal

pub returns-then-row-lt-ROW : goal.returns-then-row-lt-ROW
returns-then-row-lt-ROW c =
    let a = c.args in
    let short = lent_short a.language a.s.now a.row.now a.areas.now a.text.now (omega (arith, c.if-language-gt-ENGLISH.false)) (omega (arith, c.if-row-lt-ROW.true)) in
    (c.into-then-row-lt-ROW.ensures ∙ ap unroomed c.in_ok-refusal.ensures ∙ short.0, short.1, short.2, short.3)
