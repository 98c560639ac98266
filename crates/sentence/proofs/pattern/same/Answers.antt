-- `same`: two lists are alike where they are so byte by byte.
use Rattle.std.proofs.Common.{◌≡◌, ℕ, eqb, List, [], ◌∷◌, refl, sym, ◌∙◌}
use Rattle.std.specs.Cmp.Lexicographic.{pointwise}
use Rattle.sentence.specs.Pattern.{same_bytes}
use Rattle.sentence.proofs.pattern.same.Goals as goal

same_is : (s t : List ℕ) → same_bytes s t ≡ pointwise eqb s t
unfolding same_bytes
same_is [] [] = refl
same_is [] (d ∷ t) = refl
same_is (c ∷ s) [] = refl
same_is (c ∷ s) (d ∷ t) = rw (same_is s t)

pub returns : goal.returns
returns c = c.eq.ensures ∙ sym (same_is c.args.a.now c.args.b.now)
