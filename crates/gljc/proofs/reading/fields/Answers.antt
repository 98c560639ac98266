-- `fields` walks the frame as its layout stands: one step a field, then the record is that of the values.
use Rattle.std.proofs.Common.{[], ◌∷◌, sym, ap, ◌∙◌, arith}
use lib.Dec.{lit<, lit≤}
use Rattle.bits.specs.Answers.{got}
use Rattle.bits.specs.Bits.{bits_of}
use Rattle.frame.specs.Laws.Head.{head_read}
use Rattle.format.specs.Fmt.{check, also, read}
use Rattle.format.specs.Message.{fault}
use Rattle.format.specs.Promises.{plain, refused_by}
use Rattle.format.specs.Laws.Lead.{exact_fields, other_size}
use Rattle.format.specs.Laws.Outcomes.{walk_exit, walk_passed}
use Rattle.walk.specs.Walk.{seen}
use Rattle.walk.specs.Laws.Reading.{step_num}
use Rattle.walk.specs.Laws.Walked.{Walked, finish}
use Rattle.gljc.specs.Gljc.{letters, gljc, record_of}
use Rattle.gljc.proofs.reading.fields.Goals.{After-end-w}
use Rattle.gljc.proofs.reading.fields.Goals as goal

pub returns-then-s-ne-SEALED : goal.returns-then-s-ne-SEALED
returns-then-s-ne-SEALED c = ap refused_by c.into.ensures ∙ sym (ap (λ o. plain (also record_of o)) (other_size gljc 11 11 c.args.s.now (λ l u. c.if-s-ne-SEALED.true (omega (arith, l, u)))))

-- the whole walk, with the record's values
all_walked : (c : After-end-w) → let s = c.args.s.now in
    Walked (check (fault 0) 0 (read gljc [] 0 (bits_of s))) gljc 0 (0x24 ∷ letters ∷ got s 40 16 ∷ c.head-w.result.v ∷ c.num-w.result.v ∷ []) (seen c.end-w.result)
unfolding gljc
all_walked c =
    let s = c.args.s.now in
    let r0 = head_read letters 12 12 _ s c.head-w.ensures.0 in
    let r1 = step_num 8 (lit< tt) (lit≤ tt) (lit< tt) 0 255 r0 c.num-w.ensures.0 in
    finish (lit< tt) r1 c.end-w.ensures

pub returns-in_err-passed : goal.returns-in_err-passed
returns-in_err-passed c =
    let w = all_walked (goal.at.returns-in_err-passed c).After-end-w in
    walk_exit record_of _ _ _ _ c.from_residual.result _ c.from_residual.ensures.1 c.in_err-passed.ensures w.so ∙ sym (ap (λ o. plain (also record_of o)) (exact_fields gljc 11 c.args.s.now c.if-s-ne-SEALED.false))

pub returns : goal.returns
unfolding record_of
returns c =
    let w = all_walked (goal.at.returns c).After-end-w in
    walk_passed record_of _ _ _ _ c.in_ok-passed.ensures w.so ∙ sym (ap (λ o. plain (also record_of o)) (exact_fields gljc 11 c.args.s.now c.if-s-ne-SEALED.false))
