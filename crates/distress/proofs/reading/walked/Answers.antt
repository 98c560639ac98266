-- `walked` walks the report as its layout stands: one step a field, then the record is that of the values.
use Rattle.std.proofs.Common.{[], ◌∷◌, sym, ap, ◌∙◌, arith}
use lib.Dec.{lit<, lit≤}
use mir.Syntax.{w32}
use mir.ValLaws.{to_z-of_z}
use Rattle.bits.specs.Bits.{bits_of}
use Rattle.format.specs.Fmt.{accepted, check, also, read}
use Rattle.format.specs.Message.{fault}
use Rattle.format.specs.Promises.{plain, refused_by}
use Rattle.format.specs.Laws.Lead.{exact_fields, other_size}
use Rattle.format.specs.Laws.Outcomes.{walk_exit, walk_passed}
use Rattle.walk.specs.Walk.{seen}
use Rattle.walk.specs.Laws.Reading.{start, step_code, step_num, step_signed, step_fill}
use Rattle.walk.specs.Laws.Walked.{Walked, finish}
use Rattle.distress.specs.Report.{report, report_of}
use Rattle.distress.proofs.reading.walked.Goals.{After-end-w}
use Rattle.distress.proofs.reading.walked.Goals as goal

pub returns-then-s-ne-LEAST : goal.returns-then-s-ne-LEAST
returns-then-s-ne-LEAST c = ap refused_by c.into.ensures ∙ sym (ap (λ o. plain (also report_of o)) (other_size report 17 17 c.args.s.now (λ l u. c.if-s-ne-LEAST.true (omega (arith, l, u)))))

-- the whole walk, with the record's values
all_walked : (c : After-end-w)
    → Walked (check (fault 0) 0 (read report [] 0 (bits_of c.args.s.now))) report 0 (0xBDC1 ∷ c.num-w.result.v ∷ c.signed-w.result.v ∷ c.signed-w-2.result.v ∷ c.num-w-2.result.v ∷ c.num-w-3.result.v ∷ c.num-w-4.result.v ∷ c.num-w-5.result.v ∷ c.num-w-6.result.v ∷ c.num-w-7.result.v ∷ 0 ∷ []) (seen c.end-w.result)
unfolding report
all_walked c =
    let s = c.args.s.now in
    let r0 = start report 0 0 s c.begin.ensures in
    let r1 = step_code 16 (lit≤ tt) (lit< tt) 0xBDC1 r0 c.code-w.ensures in
    let r2 = step_num 32 (lit< tt) (lit≤ tt) (lit< tt) 0 999_999_999 r1 c.num-w.ensures.0 in
    let r3 = step_signed 25 (lit< tt) (lit≤ tt) (lit< tt) 10_800_000 10_860_000 r2 c.signed-w.ensures.0 in
    let r4 = step_signed 24 (lit< tt) (lit≤ tt) (lit< tt) 5_400_000 5_460_000 r3 c.signed-w-2.ensures.0 in
    let r5 = step_num 5 (lit< tt) (lit≤ tt) (lit< tt) 0 31 r4 c.num-w-2.ensures.0 in
    let r6 = step_num 5 (lit< tt) (lit≤ tt) (lit< tt) 0 24 r5 c.num-w-3.ensures.0 in
    let r7 = step_num 6 (lit< tt) (lit≤ tt) (lit< tt) 0 60 r6 c.num-w-4.ensures.0 in
    let r8 = step_num 7 (lit< tt) (lit≤ tt) (lit< tt) 0 126 r7 c.num-w-5.ensures.0 in
    let r9 = step_num 9 (lit< tt) (lit≤ tt) (lit< tt) 0 360 r8 c.num-w-6.ensures.0 in
    let r10 = step_num 4 (lit< tt) (lit≤ tt) (lit< tt) 0 9 r9 c.num-w-7.ensures.0 in
    let r11 = step_fill 3 (lit≤ tt) (lit< tt) r10 c.fill.ensures in
    finish (lit< tt) r11 c.end-w.ensures

pub returns-in_err-passed : goal.returns-in_err-passed
returns-in_err-passed c =
    let w = all_walked (goal.at.returns-in_err-passed c).After-end-w in
    walk_exit report_of _ _ _ _ c.from_residual.result _ c.from_residual.ensures.1 c.in_err-passed.ensures w.so ∙ sym (ap (λ o. plain (also report_of o)) (exact_fields report 17 c.args.s.now c.if-s-ne-LEAST.false))

pub returns : goal.returns
unfolding report_of
returns c =
    let w = all_walked (goal.at.returns c).After-end-w in
    let east = to_z-of_z w32 c.int-longitude.result (record { sfits = c.int-longitude.type_inv }) ∙ c.int-longitude.ensures in
    let north = to_z-of_z w32 c.int-latitude.result (record { sfits = c.int-latitude.type_inv }) ∙ c.int-latitude.ensures in
    (λ i. accepted (record {
      mmsi = c.num-w.result.v;
      longitude = east i;
      latitude = north i;
      day = c.num-w-2.result.v;
      hour = c.num-w-3.result.v;
      minute = c.num-w-4.result.v;
      speed = c.num-w-5.result.v;
      course = c.num-w-6.result.v;
      kind = c.num-w-7.result.v;
    }))
    ∙ walk_passed report_of _ _ _ _ c.in_ok-passed.ensures w.so ∙ sym (ap (λ o. plain (also report_of o)) (exact_fields report 17 c.args.s.now c.if-s-ne-LEAST.false))
