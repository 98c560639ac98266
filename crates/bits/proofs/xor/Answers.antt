-- `bits::xor` meets its contract: a fold from the left is the exclusive or from the right.
use Rattle.std.proofs.Common.{◌≡◌, ℕ, List, [], ◌∷◌, sym, ◌∙◌, rules, fold}
use Rattle.std.proofs.iter.runs.Made.{chains}
use Rattle.std.specs.Int.Bits.{bit_xor}
use lib.Bits.{xor_zero_l, xor_zero_r}
use Rattle.bits.specs.Laws.Xor.{xor_assoc}
use Rattle.bits.specs.Xor.{xor_of}
use Rattle.bits.proofs.xor.Goals as goal

folded : (all : ℕ) (s : List ℕ) → fold (λ a x. bit_xor a x) all s ≡ bit_xor all (xor_of s)
unfolding xor_of
folded all [] = sym (xor_zero_r all)
folded all (x ∷ s) = folded (bit_xor all x) s ∙ xor_assoc all x (xor_of s)

pub returns : goal.returns
returns c =
    let s = c.args.s.now in
    let e : c.fold.result ≡ fold (λ a x. bit_xor a x) 0 s = search (rules, chains) in
    e ∙ folded 0 s ∙ xor_zero_l (xor_of s)
