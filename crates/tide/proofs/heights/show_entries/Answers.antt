-- `show_entries` meets its contract: the first j heights stand in the row.
use Prim.Native.Nat.{◌+◌, ◌*◌, ◌/◌, ◌%◌}
use mathlib.Core.Path.{◌≡◌, refl, ap, ap₂, ◌∙◌}
use native.Mathlib.Omega.{arith}
use lib.Seq.{sets}
use Rattle.bits.specs.Answers.{got}
use Rattle.walk.specs.Groups.{repeat_at}
use Rattle.walk.specs.Laws.Reading.{got_lt}
use Rattle.tide.specs.Entries.{word_at}
use Rattle.tide.specs.Heights.{height_of, entries_shown}
use Rattle.tide.specs.Row.{entry_bits}
use Rattle.tide.specs.Laws.Heights.{entry_turn, height_stored}
use Rattle.tide.specs.Laws.Word.{word_fields}
use Rattle.tide.proofs.heights.show_entries.Goals as goal

pub loop-j-init : goal.loop-j-init
unfolding repeat_at
loop-j-init c = refl

pub loop-j-preserved : goal.loop-j-preserved
loop-j-preserved c =
    let a = c.args in
    let s = a.s.now in
    let at = a.at + c.loop-j.j * entry_bits in
    let here : (a.at / 8 + c.loop-j.j * 4) * 8 + a.at % 8 ≡ at = omega arith in
    let (_, _, sign, value) = word_fields s at (c.word-word.ensures ∙ ap (word_at s) here) in
    let z = height_stored (got s (at + 21) 1) (got s (at + 21 + 1) 10) (got_lt s (at + 21 + 1) 10 refl) (c.height.ensures ∙ ap₂ (λ sign v. height_of sign v) sign value) in
    entry_turn s a.row.now a.k a.at c.loop-j.j z c.loop-j.invariant

pub returns : goal.returns
returns c =
    let a = c.args in
    let e : c.loop-j.j ≡ a.n = omega arith in
    c.loop-j.invariant ∙ ap (λ n. sets a.row.now a.k (entries_shown a.s.now n a.at)) e
