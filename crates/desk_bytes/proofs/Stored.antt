-- Bytes stored one behind another are bytes laid, and a place's are read where they stand. Assumes nothing.
use mathlib.Core.Path.{◌≡◌, refl, sym, ap, ◌∙◌}
use mathlib.Core.List.{List, [], ◌∷◌, ◌++◌, append_assoc}
use Prim.Native.Nat.{ℕ, suc, ◌+◌, ◌≤◌, ◌<◌}
use native.Mathlib.Omega.{arith}
use lib.ListN.{get_or, length, take, drop, set, length-append}
use lib.Seq.{get_or-take, get_or-drop, length-take-le, take_at, drop_at, drop-drop, sets-eq}
use Rattle.packet.specs.Packet.{most_packets}
use Rattle.places.specs.Desk.{laid}
use Rattle.desk_bytes.specs.Bytes.{place_bytes}

-- laid behind bytes that were laid
pub laid_more : (s : List ℕ) (at : ℕ) (c d : List ℕ) → at + length c ≤ length s → laid (laid s at c) (at + length c) d ≡ laid s at (c ++ d)
laid_more s at c d fits =
    let e = at + length c in
    let head = take at s ++ c in
    let long : length head ≡ e = length-append (take at s) c ∙ ap (◌+ length c) (length-take-le at s (omega (arith, fits))) in
    let whole : laid s at c ≡ head ++ drop e s = sym (append_assoc (take at s) c (drop e s)) in
    let front : take e (laid s at c) ≡ head = ap (take e) whole ∙ take_at head (drop e s) e long in
    let behind : drop e (laid s at c) ≡ drop e s = ap (drop e) whole ∙ drop_at head (drop e s) e long in
    let rest : drop (e + length d) (laid s at c) ≡ drop (e + length d) s = sym (drop-drop (length d) e (laid s at c)) ∙ ap (drop (length d)) behind ∙ drop-drop (length d) e s in
    let size : at + length (c ++ d) ≡ e + length d = omega (arith, length-append c d) in
    rw (front, rest, size) (append_assoc (take at s) c (d ++ drop (e + length d) s) ∙ ap (take at s ++◌) (sym (append_assoc c d (drop (e + length d) s))))

-- four bytes
pub four_stored : (s : List ℕ) (at a b c d : ℕ) → at + 4 ≤ length s → set (set (set (set s at a) (at + 1) b) (at + 2) c) (at + 3) d ≡ laid s at (a ∷ b ∷ c ∷ d ∷ [])
four_stored s at a b c d fits =
    let one : at + 1 ≡ suc at = omega arith in
    let two : at + 2 ≡ suc (suc at) = omega arith in
    let three : at + 3 ≡ suc (suc (suc at)) = omega arith in
    rw (one, two, three) (sets-eq (a ∷ b ∷ c ∷ d ∷ []) s at fits ∙ append_assoc (take at s) (a ∷ b ∷ c ∷ d ∷ []) (drop (at + 4) s))

-- ---- read back

-- byte k of 67 from byte at on
pub byte_there : (s : List ℕ) (at k : ℕ) → k < place_bytes → get_or s (at + k) 0 ≡ get_or (take place_bytes (drop at s)) k 0
byte_there s at k l = sym (get_or-take place_bytes (drop at s) k 0 l ∙ get_or-drop at s k 0)

past_four : (l : List ℕ) → take most_packets (drop 4 l) ≡ drop 4 (take place_bytes l)
past_four [] = refl
past_four (a ∷ []) = refl
past_four (a ∷ b ∷ []) = refl
past_four (a ∷ b ∷ c ∷ []) = refl
past_four (a ∷ b ∷ c ∷ d ∷ l) = refl

-- and those behind the first four
pub sizes_there : (s : List ℕ) (at : ℕ) → take most_packets (drop (at + 4) s) ≡ drop 4 (take place_bytes (drop at s))
sizes_there s at = ap (take most_packets) (sym (drop-drop 4 at s)) ∙ past_four (drop at s)
