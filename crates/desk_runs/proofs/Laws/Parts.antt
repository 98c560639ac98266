-- Packets of one notice that have come: their contents, and that `not_come` lists all and only the numbers that have not, rising. Assumes nothing.
use Rattle.std.specs.Prelude.{◌≡◌, refl, Bool, true, false, cond, ℕ, zero, suc, ◌<◌, ltb, length, get_or}
use Rattle.std.proofs.Common.{arith, length-append, ltb-true, ltb-false}
use mathlib.Core.List.{List, [], ◌∷◌, ◌++◌, Memᴰ}
use Rattle.std.proofs.Math.ListN.{get_or-append}
use Rattle.std.proofs.lemmas.List.{get_or_at}
use Rattle.desk_runs.specs.Runs.{Part, came, not_come}
use Rattle.desk_runs.specs.Laws.Parts.{all_and_only}

-- ---- the missing numbers

at_index : (ns : List ℕ) (i : ℕ) → i < length ns → Memᴰ (get_or ns i 0) ns
at_index [] i l = absurd (omega arith)
at_index (n ∷ ns) zero l = Memᴰ.head refl
at_index (n ∷ ns) (suc i) l = Memᴰ.tail (at_index ns i (omega arith))

-- rising.
pub rising : (t : ℕ) (xs : List Part) (i j : ℕ) → i < j → j < length (not_come t xs) → get_or (not_come t xs) i 0 < get_or (not_come t xs) j 0
unfolding not_come
rising zero xs i j l m = absurd (omega arith)
rising (suc t) xs i j l m = go (came xs t) m (rising t xs i j l)
  where
    ns : List ℕ
    ns = not_come t xs

    early : (z : List ℕ) → j < length ns → get_or ns i 0 < get_or ns j 0 → get_or (ns ++ z) i 0 < get_or (ns ++ z) j 0
    early z n r = omega (arith, r, get_or-append ns z 0 i (omega arith), get_or-append ns z 0 j n)

    go : (y : Bool) → j < length (ns ++ cond y [] (t ∷ [])) → (j < length ns → get_or ns i 0 < get_or ns j 0) → get_or (ns ++ cond y [] (t ∷ [])) i 0 < get_or (ns ++ cond y [] (t ∷ [])) j 0
    go true n r = let k : j < length ns = omega (arith, length-append ns []) in early [] k (r k)
    go false n r = end (ltb j (length ns)) refl
      where
        end : (y : Bool) → ltb j (length ns) ≡ y → get_or (ns ++ (t ∷ [])) i 0 < get_or (ns ++ (t ∷ [])) j 0
        end true e = let k = ltb-true j (length ns) e in early (t ∷ []) k (r k)
        end false e =
            let at : length ns ≡ j = omega (arith, ltb-false j (length ns) e, length-append ns (t ∷ [])) in
            let k = (all_and_only t xs (get_or ns i 0)).0 (at_index ns i (omega arith)) in
            omega (arith, k.0, get_or-append ns (t ∷ []) 0 i (omega arith), get_or_at ns t [] 0 j at)
