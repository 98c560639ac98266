-- `all_digits`: a fold from the left is the definition's test of each byte.
use Rattle.std.proofs.Common.{◌≡◌, ℕ, Bool, true, false, ltb, List, [], ◌∷◌, ◌&&◌, refl, ◌∙◌, rules, tests, fold}
use Rattle.std.proofs.lemmas.Iterator.{YieldsList-from_slice}
use Rattle.std.proofs.lemmas.Iterator.Consumers.{fold_from_yields_List}
use Rattle.sentence.specs.Spelling.{all_digits, digit_value}
use Rattle.sentence.proofs.spelling.all_digits.Goals as goal

folded : (base : ℕ) (all : Bool) (s : List ℕ) → fold (λ a x. a && ltb (digit_value x) base) all s ≡ all && all_digits base s
unfolding all_digits
folded base true [] = refl
folded base false [] = refl
folded base true (x ∷ s) = folded base (ltb (digit_value x) base) s
folded base false (x ∷ s) = folded base false s

pub returns : goal.returns
returns c =
    let a = c.args in
    fold_from_yields_List _ (λ b x. b && ltb (digit_value x) a.base) true _ c.fold.ensures.ran (YieldsList-from_slice a.part.now cc) (λ b x r q k. search (rules, tests))
    ∙ folded a.base true a.part.now
