-- `line` stores the columns where the line has room.
use Rattle.std.proofs.Common.{◌≡◌, ◌+◌, ◌^◌, ◌<◌, ◌≤◌, true, length, sym, ◌∙◌, arith, leb-true}
use Rattle.format.specs.Refusals.{Verdict, told_of}
use Rattle.daylog.specs.LinesText.{line}
use Rattle.daylog.specs.Laws.Made.{nowhere, placed_all}
use Rattle.daylog.specs.Laws.Text.{line_most}
use Rattle.daylog.proofs.lines.line.Goals.{After-line_fits}
use Rattle.daylog.proofs.lines.line.Goals as goal

-- what is told of the outcome
told : After-line_fits → Verdict
told c = record { code = c.told-code.result.0; bit = c.told-code.result.1 }

told_is : (c : After-line_fits) → told c ≡ told_of c.args.outcome
unfolding told
told_is c = λ i. record { code = c.told-code.ensures.0 i; bit = c.told-code.ensures.1 i }

room : (c : After-line_fits) → c.line_fits.result ≡ true
    → let a = c.args in a.at + length (line a.number a.word.now (told c) a.bytes) ≤ length a.out.now
unfolding told
room c e = let a = c.args in
    leb-true (a.at + length (line a.number a.word.now (record { code = c.told-code.result.0; bit = c.told-code.result.1 }) a.bytes)) (length a.out.now) (sym c.line_fits.ensures ∙ e)

fits : (c : After-line_fits) → ((told c).code < 256) × ((told c).bit < 2 ^ 64)
unfolding told
fits c = (omega arith, omega arith)

most : (c : After-line_fits) → let a = c.args in length (line a.number a.word.now (told_of a.outcome) a.bytes) ≤ length a.word.now + 68
most c =
    let a = c.args in
    let (small, slim) = fits c in
    rw (← told_is c) (line_most a.number a.word.now (told c) a.bytes c.ranges.number.fits small slim c.ranges.bytes.fits)

pub columns-requires : goal.columns-requires
unfolding told
columns-requires c = room (goal.at.columns-requires c).After-line_fits c.if-line_fits.true

pub returns-then-line_fits : goal.returns-then-line_fits
unfolding told
returns-then-line_fits c = let h = (goal.at.returns-then-line_fits c).After-line_fits in
    let a = c.args in
    record {
      stores = rw (← told_is h, placed_all a.out.now a.at (line a.number a.word.now (told h) a.bytes) (room h c.if-line_fits.true)) c.columns.ensures;
      longest = most h;
    }

pub returns : goal.returns
unfolding told
returns c = let h = (goal.at.returns c).After-line_fits in
    let a = c.args in
    record {
      stores = rw (← told_is h) (nowhere a.out.now a.at (line a.number a.word.now (told h) a.bytes) (sym c.line_fits.ensures ∙ c.if-line_fits.false));
      longest = most h;
    }
