-- `text::is_english` meets its contract: the text is English where no byte so far was other than plain and those left are English.
use Rattle.std.proofs.Common.{◌+◌, arith, sym, ap, ◌∙◌}
use Rattle.text.specs.Text.{english}
use Rattle.text.proofs.Left.{left, left_all, left_next, left_none, english_none, english_next}
use Rattle.text.proofs.is_english.Goals as goal

pub loop-i-init : goal.loop-i-init
loop-i-init c = let a = c.args in ap english (sym (left_all a.s.now a.at a.n))

pub loop-i-preserved : goal.loop-i-preserved
loop-i-preserved c =
    let a = c.args in
    let i = c.loop-i.i in
    let next = left_next a.s.now a.at a.n (λ j. (c.type_inv.s j).fits) (omega arith) c.bytes_to-low.result c.bytes_to-low.ensures i (omega arith) c.across.ensures in
    rw c.is_plain-good.ensures
    (c.loop-i.invariant ∙ rw next (english_next c.loop-i.good c.across.result (left a.s.now a.at a.n (i + 1))))

pub returns : goal.returns
returns c =
    let a = c.args in
    sym (c.loop-i.invariant ∙ rw (left_none a.s.now a.at a.n c.loop-i.i (omega arith)) (english_none c.loop-i.good))
