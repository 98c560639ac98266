-- The numbers that the code puts. Assumes nothing.
use Rattle.std.specs.Prelude.{ℕ, List, [], ◌∷◌}
use Rattle.distress.specs.declared.writing.making.Values.{Values}

-- as a record's values, in bit order
unfoldable pub list_of : Values → List ℕ
list_of v = 0xBDC1 ∷ v.mmsi ∷ v.longitude ∷ v.latitude ∷ v.day ∷ v.hour ∷ v.minute ∷ v.speed ∷ v.course ∷ v.kind ∷ 0 ∷ []
