-- `text::is_chinese` meets its contract: the text is Chinese where the bytes left are, after each plain character and each pair.
use Rattle.std.proofs.Common.{◌≡◌, ◌+◌, ◌&&◌, ◌∷◌, arith, sym, ap, ◌∙◌}
use Rattle.bits.specs.Bits.{bytes_at}
use Rattle.text.specs.Text.{chinese}
use Rattle.text.proofs.Left.{left, left_next, left_none, chinese_none, chinese_plain, chinese_half, chinese_pair}
use Rattle.text.proofs.is_chinese.Goals.{After-across-x, After-is_level_one}
use Rattle.text.proofs.is_chinese.Goals as goal

-- what is left, with the byte that was read in front
one_more : (c : After-across-x)
    → let a = c.args in
    chinese (bytes_at a.s.now a.at a.n) ≡ chinese (c.across-x.result ∷ left a.s.now a.at a.n (c.loop-i.places.start + 1))
one_more c =
    let a = c.args in
    let i = c.loop-i.places.start in
    let taken = c.in-Some.ensures.steps in
    let byte = rw taken.1.1 at c.across-x.ensures in
    c.loop-i.invariant.same
    ∙ ap chinese (left_next a.s.now a.at a.n (λ j. (c.type_inv.s j).fits) (omega arith) c.bytes_to-low.result c.bytes_to-low.ensures i (omega arith) byte)

-- the first byte is not plain, and a second was read
two_more : (c : After-is_level_one)
    → chinese (bytes_at c.args.s.now c.args.at c.args.n) ≡ chinese (c.across-x.result ∷ left c.args.s.now c.args.at c.args.n (c.loop-i.places.start + 1))
    → let a = c.args in
    chinese (bytes_at a.s.now a.at a.n) ≡ (c.is_level_one.result && chinese (left a.s.now a.at a.n (c.loop-i.places.start + 1 + 1)))
two_more c one =
    let a = c.args in
    let i = c.loop-i.places.start + 1 in
    let taken = c.in-Some.ensures.steps in
    let again = c.in-Some-next.ensures.steps in
    let byte = rw (again.1.1, taken.1.2) at c.across.ensures in
    let next = left_next a.s.now a.at a.n (λ j. (c.type_inv.s j).fits) (omega arith) c.bytes_to-low.result c.bytes_to-low.ensures i (omega arith) byte in
    one
    ∙ rw (next, c.is_level_one.ensures)
    (chinese_pair c.across-x.result c.across.result (left a.s.now a.at a.n (i + 1)) (sym c.is_plain.ensures ∙ c.if-is_plain.false))

pub loop-i-preserved-then-is_plain : goal.loop-i-preserved-then-is_plain
loop-i-preserved-then-is_plain c =
    let a = c.args in
    let taken = c.in-Some.ensures.steps in
    let one = one_more (goal.at.loop-i-preserved-then-is_plain c).After-across-x in
    record {
      end = omega arith;
      within = omega arith;
      same = rw taken.1.2 (one ∙ chinese_plain c.across-x.result (left a.s.now a.at a.n (c.loop-i.places.start + 1)) (sym c.is_plain.ensures ∙ c.if-is_plain.true));
    }

pub returns-in_default-next : goal.returns-in_default-next
returns-in_default-next c =
    let a = c.args in
    let taken = c.in-Some.ensures.steps in
    let ended = c.in_default-next.ensures.steps in
    let one = one_more (goal.at.returns-in_default-next c).After-across-x in
    sym (one ∙ rw (left_none a.s.now a.at a.n (c.loop-i.places.start + 1) (omega arith)) (chinese_half c.across-x.result (sym c.is_plain.ensures ∙ c.if-is_plain.false)))

pub returns-then-not-is_level_one : goal.returns-then-not-is_level_one
returns-then-not-is_level_one c =
    let g = goal.at.returns-then-not-is_level_one c in
    sym (two_more g.After-is_level_one (one_more g.After-across-x) ∙ rw c.if-not-is_level_one.true)

pub loop-i-preserved : goal.loop-i-preserved
loop-i-preserved c =
    let g = goal.at.loop-i-preserved c in
    let taken = c.in-Some.ensures.steps in
    let again = c.in-Some-next.ensures.steps in
    record {
      end = omega arith;
      within = omega arith;
      same = rw (again.1.2, taken.1.2) (two_more g.After-is_level_one (one_more g.After-across-x) ∙ rw c.if-not-is_level_one.false);
    }

pub returns : goal.returns
returns c =
    let a = c.args in
    let ended = c.in_default.ensures.steps in
    sym (c.loop-i.invariant.same ∙ rw (left_none a.s.now a.at a.n c.loop-i.places.start (omega arith)) chinese_none)
