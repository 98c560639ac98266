-- The numbers of a row from number k on: those of one stretch, and of the stretch behind it. Assumes nothing.
use Rattle.std.specs.Prelude.{◌≡◌, ℕ, ◌+◌, List, ◌∷◌, ◌++◌, get_or, drop, slice_index_or}
use Rattle.std.proofs.Common.{sym, ap, ap₂, ◌∙◌, add-zero, add_assoc, drop-drop, get_or-drop}
use Rattle.format.specs.Groups.{Measure, then_of, decided_of, Telling, then_told, decided_told}

-- ---- the row from number k on

module _ (row : List ℕ) (k : ℕ) where
  pub here : (g : ℕ) → slice_index_or (drop k row) 0 g ≡ slice_index_or row k g
  here g = get_or-drop k row 0 g ∙ ap (λ n. get_or row n g) (add-zero k)

  pub behind : drop 1 (drop k row) ≡ drop (k + 1) row
  behind = drop-drop 1 k row

  -- two stretches of numbers
  pub fronts : (la : Measure) (ta tb : Telling) → ta (drop k row) ++ tb (drop (k + la (drop k row)) row) ≡ then_told la ta tb (drop k row)
  fronts la ta tb = ap (λ l. ta (drop k row) ++ tb l) (sym (drop-drop (la (drop k row)) k row))

  -- one number, and a stretch that it decides
  pub after_one : (g : ℕ) (ta : ℕ → Telling) → slice_index_or row k g ∷ ta (slice_index_or row k g) (drop (k + 1) row) ≡ decided_told g ta (drop k row)
  after_one g ta = ap₂ (λ v l. v ∷ ta v l) (sym (here g)) (sym behind)

  -- and so how many they are
  pub long_then : (la lb : Measure) → let n = la (drop k row) in k + n + lb (drop (k + n) row) ≡ k + then_of la lb (drop k row)
  long_then la lb = let n = la (drop k row) in add_assoc k n (lb (drop (k + n) row)) ∙ ap (λ l. k + (n + lb l)) (sym (drop-drop n k row))

  pub long_one : (g : ℕ) (la : ℕ → Measure) → k + 1 + la (slice_index_or row k g) (drop (k + 1) row) ≡ k + decided_of g la (drop k row)
  long_one g la = add_assoc k 1 _ ∙ ap₂ (λ v l. k + (1 + la v l)) (sym (here g)) (sym behind)
