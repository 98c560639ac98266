-- `lay`: five parts put one after another, the sum taken of what stands; where there is no room, nothing is put.
use mathlib.Core.Path.{◌≡◌, refl, sym, ap, ◌∙◌}
use Prim.Native.Nat.{◌+◌}
use native.Mathlib.Omega.{arith}
use lib.ListN.{length}
use borrow.Author.Tests.{le-leb, lt-leb}
use Rattle.sentence.specs.Spelling.{closing_of}
use Rattle.sentence.specs.Pattern.{opening, summed_up}
use Rattle.sentence.specs.Laws.Front.{all_laid}
use Rattle.sentence.specs.Laws.Parts.{summed_long}
use Rattle.sentence.proofs.laying.lay.Goals.{Start}
use Rattle.sentence.proofs.laying.lay.Goals as goal

size : (c : Start) → length c.args.bytes ≡ 17
size c = omega arith

pub returns-then-buf-lt-AROUND : goal.returns-then-buf-lt-AROUND
returns-then-buf-lt-AROUND c = let a = (goal.at.returns-then-buf-lt-AROUND c).Start in
    let n = summed_long c.args.digits.now c.args.bytes (size a) in
    (sym (lt-leb (length (summed_up (opening c.args.digits.now c.args.bytes))) (length c.args.buf.now) (omega arith)), refl)

pub returns : goal.returns
returns c = let a = (goal.at.returns c).Start in
    let ds = c.args.digits.now in
    let mark = 7 + length ds in
    let n = summed_long ds c.args.bytes (size a) in (
      sym (le-leb (length (summed_up (opening ds c.args.bytes))) (length c.args.buf.now) (omega arith)),
      all_laid ds c.args.bytes c.args.buf.now c.put.new.buf c.put-2.new.buf c.put-3.new.buf c.put-4.new.buf c.hex-inside.result c.closing-last.result mark (mark + 41)
          (size a) c.hex-inside.ensures refl refl c.put.ensures c.put-2.ensures c.put-3.ensures c.put-4.ensures
          (c.closing-last.ensures ∙ ap closing_of c.xor.ensures) c.put-5.ensures,
    )
