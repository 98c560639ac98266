-- The records' numbers stand where the paper's table says: along a record's entries, by its position, and over the records, each in front of what follows it. Assumes nothing.
use Prim.Native.Nat.{ℕ, zero, suc, ◌+◌, ◌*◌}
use Rattle.std.specs.Prelude.{◌≡◌, refl, Bool, cond, List, [], ◌∷◌, ◌++◌, eqb}
use Rattle.std.proofs.Common.{sym, ◌∙◌, append_assoc, append-nil}
use Rattle.std.proofs.Math.Path.{ap}
use Rattle.std.proofs.Math.Bool.{true, false}
use native.Mathlib.Omega.{arith}
use Rattle.std.proofs.Math.ListN.{drop, get_or}
use Rattle.std.proofs.Math.Seq.{get_or-drop}
use Rattle.format.specs.Codes.{codes, headed}
use Rattle.format.specs.Fmt.{Fmt, end, Spot, none, found, spot}
use Rattle.format.specs.Groups.{repeat, counted, Telling, one_told, then_told, decided_told, repeat_told}
use Rattle.format.specs.Words.{◌‥◌, num, wide}
use Rattle.format.specs.Laws.Spots.{spots_along, spot_along}
use Rattle.notice_fields.specs.Terms.{point}
use Rattle.notice_fields.specs.Row.{point_told}
use Rattle.tide.specs.Changed.{entry_spots, record_spots, spot_of}
use Rattle.tide.specs.Record.{Whole, values_of}
use Rattle.tide.specs.Row.{record_long, some_time, entry_told, record_told, records_told}
use Rattle.tide.specs.Tide.{placed, entry, tide_record, tides}

-- n entries, and what follows them
entries_spots : (n : ℕ) (row : List ℕ) (f : Fmt) (h vs : List ℕ) (at : ℕ) (zs : List Spot) → ((h : List ℕ) → spots_along f h vs (at + n * 32) ≡ zs)
    → spots_along (repeat n entry f) h (repeat_told (λ r. 3) n entry_told row ++ vs) at ≡ entry_spots n at ++ zs
unfolding repeat repeat_told entry_spots spots_along wide
entries_spots zero row f h vs at zs rest = let e : at ≡ at + 0 * 32 = omega arith in ap (spots_along f h vs) e ∙ rest h
entries_spots (suc n) row f h vs at zs rest =
    let time : at + 0 ≡ at = omega arith in
    let sign : at + 21 + 0 ≡ at + 21 = omega arith in
    let value : at + 21 + 1 + 0 ≡ at + 22 = omega arith in
    let next : at + 21 + 1 + 10 ≡ at + 32 = omega arith in
    let behind : at + 32 + n * 32 ≡ at + suc n * 32 = omega arith in
    let more = drop 3 row in
    let h' = get_or (drop 1 (drop 1 row)) 0 1 ∷ get_or (drop 1 row) 0 1 ∷ get_or row 0 some_time ∷ h in
    let on : spots_along (repeat n entry f) h' (repeat_told (λ r. 3) n entry_told more ++ vs) (at + 21 + 1 + 10) ≡ entry_spots n (at + 32) ++ zs =
    ap (spots_along (repeat n entry f) h' (repeat_told (λ r. 3) n entry_told more ++ vs)) next ∙ entries_spots n more f h' vs (at + 32) zs (λ h. ap (spots_along f h vs) behind ∙ rest h) in
    λ i. found (time i) 21 ∷ found (sign i) 1 ∷ found (value i) 10 ∷ on i

-- behind the position: the forecast mark, a count c and its entries, and what follows them
abbrev marked : Fmt → Fmt
marked f = num 1 (0 ‥ 1) (counted 9 (1 ‥ 511) entry f)

abbrev marked_told : Telling
marked_told = then_told (λ r. 1) (one_told 0) (decided_told 1 (λ n. repeat_told (λ r. 3) n entry_told))

marked_spots : (c : ℕ) (row : List ℕ) (f : Fmt) (h vs : List ℕ) (at : ℕ) {to : ℕ} (zs : List Spot) → get_or row 1 1 ≡ c → at + 10 ≡ to → ((h : List ℕ) → spots_along f h vs (to + c * 32) ≡ zs)
    → spots_along (marked f) h (marked_told row ++ vs) at ≡ found at 1 ∷ none ∷ (entry_spots c to ++ zs)
unfolding spots_along
marked_spots c row f h vs at {to} zs is ends rest =
    let same : get_or (drop 1 row) 0 1 ≡ c = get_or-drop 1 row 0 1 ∙ is in
    let here : at + 0 ≡ at = omega arith in
    let ten : at + 1 + 9 ≡ to = omega (arith, ends) in
    let c' = get_or (drop 1 row) 0 1 in
    let h' = c' ∷ get_or row 0 0 ∷ h in
    let us : ℕ → List ℕ = λ n. repeat_told (λ r. 3) n entry_told (drop 1 (drop 1 row)) ++ vs in
    let on : spots_along (repeat c' entry f) h' (us c') (at + 1 + 9) ≡ entry_spots c to ++ zs =
    (λ i. spots_along (repeat (same i) entry f) h' (us (same i)) (ten i)) ∙ entries_spots c (drop 1 (drop 1 row)) f h' vs to zs rest in
    λ i. found (here i) 1 ∷ none ∷ on i

-- a record of n + 1 behind its position type, by whether that is 0, and what follows it
module _ (n : ℕ) (row : List ℕ) (f : Fmt) (vs : List ℕ) (zs : List Spot) (rest : (m : ℕ) (h : List ℕ) (at : ℕ) → spots_along (repeat n tide_record f) h (records_told n (drop m row) ++ vs) at ≡ record_spots n (drop m row) at ++ zs) where
  abbrev held : Bool → ℕ → List Spot
  held x at = cond x
      (let count = get_or row 3 1 in
      found (at + 1) 6 ∷ found (at + 7) 1 ∷ none ∷ (entry_spots count (at + 17) ++ record_spots n (drop (4 + count * 3) row) (at + 17 + count * 32)))
      (let count = get_or row 4 1 in
      found (at + 1) 21 ∷ found (at + 22) 22 ∷ found (at + 44) 1 ∷ none ∷ (entry_spots count (at + 54) ++ record_spots n (drop (5 + count * 3) row) (at + 54 + count * 32)))

  -- how many numbers it has
  abbrev long : Bool → ℕ
  long true = suc (suc (suc (get_or row 3 1 * 3)))
  long false = suc (suc (suc (suc (get_or row 4 1 * 3))))

  long_is : (x : Bool) → 1 + cond x 1 2 + (1 + (1 + get_or (drop 1 (drop (1 + cond x 1 2) row)) 0 1 * 3)) ≡ suc (long x)
  long_is true = let e = get_or-drop 1 (drop 2 row) 0 1 ∙ get_or-drop 2 row 1 1 in omega (arith, e)
  long_is false = let e = get_or-drop 1 (drop 3 row) 0 1 ∙ get_or-drop 3 row 1 1 in omega (arith, e)

  abbrev following : Fmt
  following = repeat n tide_record f

  record_spots_lem : (x : Bool) (h : List ℕ) (at : ℕ) → spots_along (cond x (num 6 (0 ‥ 63) (marked following)) (point (marked following))) h ((cond x (one_told 0) point_told (drop 1 row) ++ marked_told (drop (1 + cond x 1 2) row)) ++ (records_told n (drop (suc (long x)) row) ++ vs)) (at + 1) ≡ held x at ++ zs
  unfolding spots_along wide
  record_spots_lem true h at =
      let c = get_or row 3 1 in
      let row' = drop 2 row in
      let h' = get_or (drop 1 row) 0 0 ∷ h in
      let same : get_or row' 1 1 ≡ c = get_or-drop 2 row 1 1 in
      let four : suc (suc (suc (suc (c * 3)))) ≡ 4 + c * 3 = omega arith in
      let code : at + 1 + 0 ≡ at + 1 = omega arith in
      let seven : at + 1 + 6 ≡ at + 7 = omega arith in
      let on = record_spots n (drop (4 + c * 3) row) (at + 17 + c * 32) in
      let more = records_told n (drop (4 + c * 3) row) ++ vs in
      let all : spots_along (marked following) h' (marked_told row' ++ (records_told n (drop (suc (suc (suc (suc (c * 3))))) row) ++ vs)) (at + 1 + 6) ≡ found (at + 7) 1 ∷ none ∷ (entry_spots c (at + 17) ++ (on ++ zs)) =
      (λ i. spots_along (marked following) h' (marked_told row' ++ (records_told n (drop (four i) row) ++ vs)) (seven i))
      ∙ marked_spots c row' following h' more (at + 7) (on ++ zs) same (omega arith) (λ h. rest (4 + c * 3) h (at + 17 + c * 32)) in
      (λ i. found (code i) 6 ∷ all i) ∙ ap (λ l. found (at + 1) 6 ∷ found (at + 7) 1 ∷ none ∷ l) (sym (append_assoc (entry_spots c (at + 17)) on zs))
  record_spots_lem false h at =
      let c = get_or row 4 1 in
      let row' = drop 3 row in
      let h' = get_or (drop 1 (drop 1 row)) 0 0 ∷ get_or (drop 1 row) 0 0 ∷ h in
      let same : get_or row' 1 1 ≡ c = get_or-drop 3 row 1 1 in
      let five : suc (suc (suc (suc (suc (c * 3))))) ≡ 5 + c * 3 = omega arith in
      let latitude : at + 1 + 0 ≡ at + 1 = omega arith in
      let longitude : at + 1 + 21 + 0 ≡ at + 22 = omega arith in
      let mark : at + 1 + 21 + 22 ≡ at + 44 = omega arith in
      let on = record_spots n (drop (5 + c * 3) row) (at + 54 + c * 32) in
      let more = records_told n (drop (5 + c * 3) row) ++ vs in
      let all : spots_along (marked following) h' (marked_told row' ++ (records_told n (drop (suc (suc (suc (suc (suc (c * 3)))))) row) ++ vs)) (at + 1 + 21 + 22) ≡ found (at + 44) 1 ∷ none ∷ (entry_spots c (at + 54) ++ (on ++ zs)) =
      (λ i. spots_along (marked following) h' (marked_told row' ++ (records_told n (drop (five i) row) ++ vs)) (mark i))
      ∙ marked_spots c row' following h' more (at + 44) (on ++ zs) same (omega arith) (λ h. rest (5 + c * 3) h (at + 54 + c * 32)) in
      (λ i. found (latitude i) 21 ∷ found (longitude i) 22 ∷ all i) ∙ ap (λ l. found (at + 1) 21 ∷ found (at + 22) 22 ∷ found (at + 44) 1 ∷ none ∷ l) (sym (append_assoc (entry_spots c (at + 54)) on zs))

-- all of them, in front of what has its spots wherever it stands
records_spots : (n : ℕ) (row : List ℕ) (f : Fmt) (h vs : List ℕ) (at : ℕ) (zs : List Spot) → ((h : List ℕ) (at : ℕ) → spots_along f h vs at ≡ zs)
    → spots_along (repeat n tide_record f) h (records_told n row ++ vs) at ≡ record_spots n row at ++ zs
unfolding repeat repeat_told record_spots spots_along placed
records_spots zero row f h vs at zs rest = rest h at
records_spots (suc n) row f h vs at zs rest =
    let k = get_or row 0 0 in
    let on : (m : ℕ) (h : List ℕ) (at : ℕ) → spots_along (repeat n tide_record f) h (records_told n (drop m row) ++ vs) at ≡ record_spots n (drop m row) at ++ zs = λ m h at. records_spots n (drop m row) f h vs at zs rest in
    ap (λ l. spots_along (repeat (suc n) tide_record f) h l at) (append_assoc (record_told row) (records_told n (drop (record_long row) row)) vs) ∙ ap (λ m. spots_along (repeat (suc n) tide_record f) h (record_told row ++ (records_told n (drop m row) ++ vs)) at) (long_is n row f vs zs on (eqb k 0))
    ∙ ap (none ∷◌) (record_spots_lem n row f vs zs on (eqb k 0) (k ∷ h) at)

-- Which fields of a tide telegram may be corrected, and where they stand: those of the paper's table, whatever the telegram.
pub spotted : (x : Whole) (i : ℕ) → spot tides.fmt [] (values_of x) i ≡ spot_of x i
unfolding tides headed codes values_of spots_along
spotted x i =
    let n = x.0.count in
    spot_along tides.fmt (values_of x) i
    ∙ ap (λ l. get_or (none ∷ none ∷ none ∷ none ∷ l) i none)
    (ap (λ l. spots_along (repeat n tide_record end) (n ∷ 0 ∷ 1 ∷ 0xE4 ∷ []) l 21) (sym (append-nil (records_told n x.1)))
    ∙ records_spots n x.1 end (n ∷ 0 ∷ 1 ∷ 0xE4 ∷ []) [] 21 [] (λ h at. refl) ∙ append-nil (record_spots n x.1 21))
