-- What the outline of a notice promises of the bytes s and of the row that it is lent. Assumes nothing.
use Rattle.std.specs.Prelude.{ℕ, ◌≡◌, Bool, List, ℤ, Result}
use Rattle.format.specs.declared.Refusal.{Refusal}
use Rattle.format.specs.Fmt.{Out, also}
use Rattle.format.specs.Message.{leaves, into}
use Rattle.format.specs.Promises.{read_record, out_of, plain}
use Rattle.notice.specs.Notice.{ours, notices}
use Rattle.notice.specs.Record.{Whole, record_of}
use Rattle.outline.specs.Outline.{outline_of, point_count}

-- the notice that the bytes are read as
abbrev pub told : Bool → List ℕ → Out Whole
told english s = read_record (notices (ours english)) record_of s

-- a notice's points, and how many they are
abbrev pub outline_in : Whole → List ℤ
outline_in x = outline_of x.0.count x.1.0

abbrev pub count_in : Whole → ℕ
count_in x = point_count x.0.count x.1.0

-- drawn at the front of a row that has room (6, tested last); what stands past them stays
abbrev pub drawn : Bool → List ℕ → List ℤ → Out (List ℤ)
drawn english s row = into row (also outline_in (told english s))

-- how many an accepted notice has
abbrev pub points_told : Bool → List ℕ → ℕ
points_told english s = leaves (also count_in (told english s)) 0

-- how many are drawn
abbrev pub counted : Bool → List ℕ → List ℤ → Out ℕ
counted english s row = also (λ t. points_told english s) (drawn english s row)

-- the answer, and the row t that is left
abbrev pub Outlines : Bool → List ℕ → List ℤ → Result ℕ Refusal → List ℤ → Type 0
Outlines english s row a t = (out_of a ≡ plain (counted english s row)) × (t ≡ leaves (drawn english s row) row)
