-- Counted groups, in the words of layouts: what is repeated is any stretch of fields. And how a row of numbers tells such a stretch: which numbers, and how many. Assumes nothing.
use Rattle.std.specs.Prelude.{ℕ, zero, suc, ◌+◌, List, [], ◌∷◌, ◌++◌, drop, get_or}
use Rattle.format.specs.Fmt.{Fmt}
use Rattle.format.specs.Words.{Test, deciding}

-- the item n times, then what follows
unfoldable pub repeat : ℕ → (Fmt → Fmt) → Fmt → Fmt
repeat zero item f = f
repeat (suc n) item f = item (repeat n item f)

-- as many as the number before them says
abbrev pub counted : ℕ → Test → (Fmt → Fmt) → Fmt → Fmt
counted w t item f = deciding w t λ n. repeat n item f

-- ---- how many numbers of a row a stretch takes, by the row from here on

abbrev pub Measure : Type 0
Measure = List ℕ → ℕ

-- one behind the other
abbrev pub then_of : Measure → Measure → Measure
then_of a b row = a row + b (drop (a row) row)

-- a number, and what it decides; g counts for it where the row has none
abbrev pub decided_of : ℕ → (ℕ → Measure) → Measure
decided_of g a row = 1 + a (get_or row 0 g) (drop 1 row)

-- n items: `a` of each, which takes `long` numbers
unfoldable pub repeat_of : Measure → ℕ → Measure → Measure
repeat_of long zero a row = 0
repeat_of long (suc n) a row = a row + repeat_of long n a (drop (long row) row)

-- ---- which numbers these are, or what they tell

abbrev pub Telling : Type 0
Telling = List ℕ → List ℕ

-- one number; g counts for it where the row has none
abbrev pub one_told : ℕ → Telling
one_told g row = get_or row 0 g ∷ []

-- one behind the other: the first takes `long` numbers
abbrev pub then_told : Measure → Telling → Telling → Telling
then_told long a b row = a row ++ b (drop (long row) row)

abbrev pub decided_told : ℕ → (ℕ → Telling) → Telling
decided_told g a row = get_or row 0 g ∷ a (get_or row 0 g) (drop 1 row)

-- n items: `f` of each, which takes `long` numbers
unfoldable pub repeat_told : {A : Type 0} → Measure → ℕ → (List ℕ → List A) → List ℕ → List A
repeat_told long zero f row = []
repeat_told long (suc n) f row = f row ++ repeat_told long n f (drop (long row) row)
