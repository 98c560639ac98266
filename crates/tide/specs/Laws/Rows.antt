-- What is stored in a row of a tide's entries and records, one behind another. Assumes nothing.
use Rattle.std.specs.Prelude.{ℕ, suc, ◌+◌, ◌*◌, ◌≤◌, ◌≡◌, refl, List, ◌∷◌, ◌++◌, length, set}
use Rattle.std.proofs.Common.{sym, ap, ap₂, ◌∙◌, add-one, arith}
use Rattle.std.proofs.lemmas.List.Edits.{sets}
use Rattle.bits.specs.Answers.{got}
use Rattle.walk.specs.Laws.Stored.{sets_on, stored_turn, even_end}
use Rattle.tide.specs.Row.{placed_long, placed_bits, entry_bits}
use Rattle.tide.specs.Shapes.{shape_at}
use Rattle.tide.specs.Standing.{placed_at, entry_at, entries_at, record_at}
use Rattle.tide.specs.Laws.Shapes.{place_long, entries_long_lem, record_numbers, shape_numbers}

-- one entry more
pub entries_turn : (s row : List ℕ) {now : List ℕ} (k at j : ℕ) {a b c i : ℕ} → i ≡ j + 1 → a ≡ got s (at + j * entry_bits) 21 → b ≡ got s (at + j * entry_bits + 21) 1 → c ≡ got s (at + j * entry_bits + 21 + 1) 10
    → now ≡ sets row k (entries_at s j at) → set (set (set now (k + j * 3) a) (k + j * 3 + 1) b) (k + j * 3 + 2) c ≡ sets row k (entries_at s i at)
entries_turn s row {now} k at j {a} {b} {c} is x y z e =
    let here = at + j * entry_bits in
    let to = k + j * 3 in
    let one : to + 1 ≡ suc to = add-one to in
    let two : to + 2 ≡ suc (suc to) = omega arith in
    stored_turn row k (entry_at s) (λ at. entry_bits) at j to is (ap (k +◌) (sym (entries_long_lem s j at))) e
    ((λ t. set (set (set now to (x t)) (one t) (y t)) (two t) (z t)) ∙ ap (λ p. sets now to (entry_at s p)) (sym (even_end entry_bits j at)))

-- a record's numbers, one behind another
pub record_stored : (s row : List ℕ) (k at : ℕ) {kind mark count wide long : ℕ} {t u : List ℕ} → kind ≡ got s at 1 → wide ≡ placed_bits kind → long ≡ placed_long kind
    → t ≡ sets (set row k kind) (k + 1) (placed_at s kind (at + 1)) → mark ≡ got s (at + 1 + wide) 1 → count ≡ got s (at + 1 + wide + 1) 9
    → u ≡ sets (set (set t (k + 1 + long) mark) (k + 1 + long + 1) count) (k + 1 + long + 2) (entries_at s count (at + 1 + wide + 1 + 9)) → u ≡ sets row k (record_at s at)
record_stored s row k at {kind} {mark} {count} {wide} {long} {t} {u} is ew el et em ec eu =
    let to = k + 1 + long in
    let one : to + 1 ≡ suc to = add-one to in
    let two : to + 2 ≡ suc (suc to) = omega arith in
    let first : k + 1 ≡ suc k = add-one k in
    let at' : at + 1 + wide ≡ at + (1 + placed_bits kind) = omega (arith, ew) in
    let place = placed_at s kind (at + 1) in
    let here : to ≡ k + length (kind ∷ place) = omega (arith, el, place_long s kind (at + 1)) in
    let rest : List ℕ = mark ∷ count ∷ entries_at s count (at + 1 + wide + 1 + 9) in
    let told : ℕ → List ℕ = λ kind. let p = at + (1 + placed_bits kind) in (kind ∷ placed_at s kind (at + 1)) ++ (got s p 1 ∷ got s (p + 1) 9 ∷ entries_at s (got s (p + 1) 9) (p + 1 + 9)) in
    let same : rest ≡ got s (at + (1 + placed_bits kind)) 1 ∷ got s (at + (1 + placed_bits kind) + 1) 9 ∷ entries_at s (got s (at + (1 + placed_bits kind) + 1) 9) (at + (1 + placed_bits kind) + 1 + 9) =
    (λ i. em i ∷ ec i ∷ entries_at s (ec i) (at + 1 + wide + 1 + 9)) ∙ ap (λ p. got s p 1 ∷ got s (p + 1) 9 ∷ entries_at s (got s (p + 1) 9) (p + 1 + 9)) at' in
    let stored : t ≡ sets row k (kind ∷ place) = et ∙ ap (λ n. sets (set row k kind) n place) first in
    eu ∙ (λ i. sets (set (set (stored i) to mark) (one i) count) (two i) (entries_at s count (at + 1 + wide + 1 + 9)))
    ∙ sets_on row k (kind ∷ place) rest here ∙ ap (λ l. sets row k ((kind ∷ place) ++ l)) same ∙ ap (λ kind. sets row k (told kind)) is

-- and how many they are
pub record_length : (s : List ℕ) (at : ℕ) {kind wide long count : ℕ} → kind ≡ got s at 1 → wide ≡ placed_bits kind → long ≡ placed_long kind → count ≡ got s (at + 1 + wide + 1) 9 → length (record_at s at) ≡ long + 3 + count * 3
record_length s at {kind} {wide} {long} {count} is ew el ec =
    let bits : wide ≡ placed_bits (got s at 1) = ew ∙ ap placed_bits is in
    let here : at + 1 + wide + 1 ≡ at + (1 + placed_bits (got s at 1)) + 1 = omega (arith, bits) in
    let n : count ≡ got s (at + (1 + placed_bits (got s at 1)) + 1) 9 = ec ∙ ap (λ p. got s p 9) here in
    sym (record_numbers s at) ∙ numbers s at (sym (el ∙ ap placed_long is)) (sym n)
  where
    numbers : (s : List ℕ) (at : ℕ) {long count : ℕ} → placed_long (got s at 1) ≡ long → got s (at + (1 + placed_bits (got s at 1)) + 1) 9 ≡ count → (shape_at s at).numbers ≡ long + 3 + count * 3
    numbers s at a b = shape_numbers s at ∙ ap₂ (λ a b. a + 3 + b * 3) a b

pub record_room : (s : List ℕ) (at : ℕ) {kind : ℕ} → kind ≡ got s at 1 → placed_long kind + 3 ≤ length (record_at s at)
record_room s at {kind} is =
    let e = record_length s at {wide = placed_bits kind} {long = placed_long kind} is refl refl refl in
    omega (arith, e)
