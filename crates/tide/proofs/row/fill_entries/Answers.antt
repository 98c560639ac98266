-- `fill_entries` meets its contract: the first j entries stand in the row.
use Prim.Native.Nat.{◌+◌, ◌*◌, ◌/◌, ◌%◌, ◌^◌, ◌<◌}
use mathlib.Core.Path.{◌≡◌, refl, ap, ◌∙◌}
use native.Mathlib.Omega.{arith}
use lib.Seq.{sets}
use Rattle.walk.specs.Groups.{repeat_at}
use Rattle.bits.specs.Answers.{got}
use Rattle.tide.specs.Entries.{word_at}
use Rattle.tide.specs.Row.{entry_bits}
use Rattle.tide.specs.Laws.Word.{word_fields}
use Rattle.tide.specs.Standing.{entries_at}
use Rattle.tide.specs.Laws.Rows.{entries_turn}
use Rattle.tide.proofs.row.fill_entries.Goals.{After-word-word}
use Rattle.tide.proofs.row.fill_entries.Goals as goal

pub loop-j-init : goal.loop-j-init
unfolding repeat_at
loop-j-init c = refl

-- the fields of an entry
fields : (c : After-word-word) → let a = c.args in let v = c.word-word.result in let here = a.at + c.loop-j.j * entry_bits in
    (v < 2 ^ 32) × (v / 2_048 ≡ got a.s.now here 21) × (v / 1_024 % 2 ≡ got a.s.now (here + 21) 1) × (v % 1_024 ≡ got a.s.now (here + 21 + 1) 10)
fields c =
    let a = c.args in
    let here : (a.at / 8 + c.loop-j.j * 4) * 8 + a.at % 8 ≡ a.at + c.loop-j.j * entry_bits = omega arith in
    word_fields a.s.now (a.at + c.loop-j.j * entry_bits) (c.word-word.ensures ∙ ap (word_at a.s.now) here)

pub overflow_cast-row : goal.overflow_cast-row
overflow_cast-row c = omega (arith, (fields c).0)

pub loop-j-preserved : goal.loop-j-preserved
loop-j-preserved c =
    let a = c.args in
    let (_, time, sign, value) = fields c in
    entries_turn a.s.now a.row.now a.k a.at c.loop-j.j refl time sign value c.loop-j.invariant

pub returns : goal.returns
returns c =
    let a = c.args in
    let e : c.loop-j.j ≡ a.n = omega arith in
    c.loop-j.invariant ∙ ap (λ n. sets a.row.now a.k (entries_at a.s.now n a.at)) e
