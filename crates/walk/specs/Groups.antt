-- What the code's walk over a counted group answers: an item's walk goes on by what follows it, or ends at a refusal. And the numbers that stand there. Assumes nothing.
use Rattle.std.specs.Prelude.{ℕ, zero, suc, ◌+◌, false, cond, List, [], ◌∷◌, ◌++◌, ◌==◌}
use Rattle.bits.specs.Answers.{got}
use Rattle.walk.specs.Reading.{ranged}
use Rattle.walk.specs.Walk.{Walk}

-- a step of the walk over an item, and from behind it by `next`
abbrev pub Step : Type 0
Step = (next : Walk → Walk) → Walk → Walk

-- a step over one field
abbrev pub single : (Walk → Walk) → Step
single q next r = next (q r)

-- one behind the other
abbrev pub then_step : Step → Step → Step
then_step a b next r = a (b next) r

-- a refusal ends the walk here, and what follows is not walked
abbrev pub unless_refused : Step
unless_refused next r = cond (r.code == 0) (next r) r

-- over n items
unfoldable pub repeat_walked : ℕ → Step → Step
repeat_walked zero step next r = next r
repeat_walked (suc n) step next r = step (repeat_walked n step next) r

-- by a number that decides
abbrev pub decided_walked : List ℕ → ℕ → ℕ → ℕ → (ℕ → Step) → Step
decided_walked s w lo hi step next r = let q = ranged s w false lo hi 4 r in step q.v next q

-- over as many as the number before them says
abbrev pub counted_walked : List ℕ → ℕ → ℕ → ℕ → Step → Step
counted_walked s w lo hi step = decided_walked s w lo hi (λ n. repeat_walked n step)

-- ---- what stands in a message from a bit on, whether it is good or not, and how many bits it has

abbrev pub Standing : Type 0
Standing = ℕ → List ℕ

abbrev pub Width : Type 0
Width = ℕ → ℕ

abbrev pub then_at : Standing → Width → Standing → Standing
then_at a wa b at = a at ++ b (at + wa at)

abbrev pub then_wide : Width → Width → Width
then_wide wa wb at = wa at + wb (at + wa at)

unfoldable pub repeat_at : {A : Type 0} → ℕ → (ℕ → List A) → Width → ℕ → List A
repeat_at zero a wa at = []
repeat_at (suc n) a wa at = a at ++ repeat_at n a wa (at + wa at)

unfoldable pub repeat_wide : ℕ → Width → Width
repeat_wide zero wa at = 0
repeat_wide (suc n) wa at = wa at + repeat_wide n wa (at + wa at)

-- the bit behind n items
unfoldable pub repeat_end : ℕ → Width → ℕ → ℕ
repeat_end zero wa at = at
repeat_end (suc n) wa at = repeat_end n wa (at + wa at)

-- what n items have together
unfoldable pub repeat_sum : ℕ → (ℕ → ℕ) → Width → ℕ → ℕ
repeat_sum zero f wa at = 0
repeat_sum (suc n) f wa at = f at + repeat_sum n f wa (at + wa at)

abbrev pub decided_at : List ℕ → ℕ → (ℕ → Standing) → Standing
decided_at s w a at = got s at w ∷ a (got s at w) (at + w)

abbrev pub decided_wide : List ℕ → ℕ → (ℕ → Width) → Width
decided_wide s w wa at = w + wa (got s at w) (at + w)
