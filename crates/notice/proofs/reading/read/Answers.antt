-- `read` answers as the walk does, then by room; the numbers and the text go to the front of what is lent.
use Prim.Native.Nat.{◌≤◌, ◌<◌}
use mathlib.Core.Path.{◌≡◌, refl, sym, ap, ap₂, ◌∙◌}
use native.Mathlib.Omega.{arith}
use lib.ListN.{length}
use Rattle.bits.specs.Bits.{bytes_at}
use Rattle.bits.specs.Laws.Runs.{length_run}
use Rattle.format.specs.Fmt.{accepted, also}
use Rattle.format.specs.Laws.Outcomes.{number_some, out_exit}
use Rattle.format.specs.Promises.{read_record}
use Rattle.notice_fields.specs.Standing.{front, areas_at}
use Rattle.notice.specs.Record.{record_of}
use Rattle.walk.specs.Walk.{seen}
use Rattle.notice.specs.Steps.{Course, course, course_of}
use Rattle.notice.specs.Laws.Told.{reads_refused, reads_few, reads_short, reads_good, stored, kept_row, copied}
use Rattle.notice.proofs.Laws.Told.{walked_good, walked_bad, fields_are}
use Rattle.notice.specs.Notice.{ours, notices}
use Rattle.notice.proofs.reading.read.Goals.{In_ok-f}
use Rattle.notice.proofs.reading.read.Goals as goal

pub returns-in_err-f : goal.returns-in_err-f
returns-in_err-f c = let a = c.args in
    let s = a.s.now in
    let told = c.in_err-f.ensures.0 in
    let n = walked_bad a.english 0 s (course_of a.english 0 s) refl (λ z. number_some _ (ap (λ v. v.code) told ∙ z)) in
    reads_refused (ours a.english) s a.areas.now a.text.now c.from_residual.result (out_exit c.from_residual.result _ c.from_residual.ensures.1) told (ap (also record_of) n)

-- nothing was refused
clear : (c : In_ok-f) → (seen c.in_ok-f.f.walk).code ≡ 0
clear c = ap (λ (k : Course). k.walk.code) c.in_ok-f.ensures.1 ∙ sym (ap (λ v. v.code) c.in_ok-f.ensures.0)

-- and so the notice was read
all_read : (c : In_ok-f) → let a = c.args in let f = c.in_ok-f.f in read_record (notices (ours a.english)) record_of a.s.now ≡ accepted (f.notice, (areas_at a.s.now f.notice.count front, bytes_at a.s.now f.at f.text))
all_read c = let a = c.args in walked_good a.english 0 a.s.now (course c.in_ok-f.f) c.in_ok-f.ensures.1 (clear c)

pub returns-then-text-n : goal.returns-then-text-n
returns-then-text-n c = let a = c.args in
    let s = a.s.now in
    let f = c.in_ok-f.f in
    let t = length_run s f.at f.text in
    reads_short (ours a.english) s a.areas.now a.text.now (all_read (goal.at.returns-then-text-n c).In_ok-f) c.into.result c.into.ensures (omega (arith, t, c.if-text-n.true))

pub returns-then-areas-numbers : goal.returns-then-areas-numbers
returns-then-areas-numbers c = let a = c.args in
    let s = a.s.now in
    let f = c.in_ok-f.f in
    let x = c.fill-numbers.ensures in
    let few : length a.areas.now < length (areas_at s f.notice.count front) = omega (arith, x.0, c.if-areas-numbers.true, c.fill-numbers.auto.row) in
    let is = reads_few (ours a.english) s a.areas.now a.text.now (all_read (goal.at.returns-then-areas-numbers c).In_ok-f) c.into-then-areas-numbers.result c.into-then-areas-numbers.ensures few in
    (is.0, x.1 ∙ kept_row a.areas.now (areas_at s f.notice.count front) few ∙ is.1, is.2)

pub returns : goal.returns
returns c = let a = c.args in
    let s = a.s.now in
    let f = c.in_ok-f.f in
    let past = (goal.at.returns c).In_ok-f in
    let xs = areas_at s f.notice.count front in
    let x = c.fill-numbers.ensures in
    let t = length_run s f.at f.text in
    let enough : length xs ≤ length a.areas.now = omega (arith, x.0, c.if-areas-numbers.false, c.fill-numbers.auto.row) in
    let room : length (bytes_at s f.at f.text) ≤ length a.text.now = omega (arith, t, c.if-text-n.false) in
    let is = reads_good (ours a.english) s a.areas.now a.text.now (all_read past) enough room in
    let answer = ap₂ (λ n t. accepted (record { notice = f.notice; numbers = n; text = t })) x.0 (sym t) in
    (answer ∙ is.0, x.1 ∙ stored a.areas.now xs enough ∙ is.1, copied s f.at f.text a.text.now ((fields_are a.english 0 s c.in_ok-f.ensures.1).fits (clear past)) c.if-text-n.false c.get_bytes.ensures ∙ is.2)
