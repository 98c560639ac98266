-- `word_of_five` meets its contract: the 32 bits are a part of the number that five bytes spell.
use Prim.Native.Nat.{◌-◌, ◌/◌, ◌%◌, ◌^◌}
use mathlib.Core.Path.{ap, ◌∙◌}
use Rattle.tide.specs.Laws.Word.{word_by_five}
use Rattle.tide.proofs.entries.word_of_five.Goals as goal

pub returns : goal.returns
returns c =
    let a = c.args in
    ap (λ n. n / 2 ^ (8 - a.skip) % 2 ^ 32) c.spelled-all.ensures ∙ word_by_five a.s.now a.from a.skip (λ i. (c.shared_slice_known-1.given i).fits) c.requires.0 c.requires.1
