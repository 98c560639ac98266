-- The tide telegram is a family of format/specs/Laws/Family, whose theorems are demands 2 and 3; said here of reading's own promise. Assumes nothing.
use Rattle.std.specs.Prelude.{◌≡◌, refl, Bool, true, false, List, [], ◌∷◌, ◌++◌, ℕ, zero, suc, ◌+◌, ◌-◌, leb, length, take, drop, get_or, set, Result, Ok}
use Rattle.std.proofs.Common.{sym, ap, ap₂, ◌∙◌, subst, append-nil, arith, le-leb, length-drop, take_at}
use Rattle.format.specs.Codes.{codes, headed}
use Rattle.format.specs.Fmt.{Out, accepted, refused, check, or_bad, also, end, none, found, spot}
use Rattle.format.specs.Laws.Outcomes.{one_outcome}
use Rattle.format.specs.declared.Refusal.{Refusal}
use Rattle.format.specs.Groups.{repeat}
use Rattle.format.specs.Message.{ahead}
use Rattle.format.specs.Promises.{answered, plain, read_record}
use Rattle.format.specs.Laws.Correct.{none_clash, later_inv}
use Rattle.format.specs.Laws.Family.{Family}
use Rattle.format.specs.Laws.Groups.{told_exact, told_again}
use Rattle.format.specs.Laws.Legal.{Legal, exactly}
use Rattle.format.specs.Laws.Past.{Filled, past_counted, past_filled, legal_filled, filled_set}
use Rattle.format.specs.Laws.Round.{clash, accepted_inj}
use Rattle.format.specs.Laws.Zero.{Counted}
use Rattle.tide.specs.Changed.{record_spots, spot_of, changed}
use Rattle.tide.specs.Limits.{first_entry_of}
use Rattle.tide.specs.Promises.{housed, told_of, Reads}
use Rattle.tide.specs.Record.{Whole, leading, values_of, record_of}
use Rattle.tide.specs.Row.{records_long, records_told}
use Rattle.tide.specs.Tide.{tide_record, tides}
use Rattle.tide.specs.declared.reading.Tide.{Tide}
use Rattle.tide.specs.declared.reading.Told.{Told}
use Rattle.tide.specs.Laws.Sound.{sound, many, judged}

-- a row of its records' numbers and no others
abbrev pub Lent : Whole → Type 0
Lent x = records_long x.0.count x.1 ≡ length x.1

-- as many values as fields are an exact row
exact : (n : ℕ) (row : List ℕ) → Filled (repeat n tide_record end) row → records_long n row ≡ length row
exact n row x =
    let (l, y) = (many n).filled row end x in
    omega (arith, l, length-drop (records_long n row) row, none (drop (records_long n row) row) y)
  where
    none : (us : List ℕ) → Filled end us → length us ≡ 0
    none [] z = refl
    none (u ∷ us) z = absurd z

pub row_is : (x : Whole) → Lent x → records_told x.0.count x.1 ≡ x.1
row_is x e = told_exact (many x.0.count) x.1 e

-- ---- accepted values

pub record Listed (vs : List ℕ) : Type 0 where
  pub count : ℕ
  pub row : List ℕ
  pub is : vs ≡ leading count row
  pub full : records_long count row ≡ length row

pub listed : (vs : List ℕ) → Legal tides.fmt [] vs → Listed vs
unfolding tides headed codes
listed [] h = absurd h
listed (a ∷ []) h = absurd h.2
listed (a ∷ b ∷ []) h = absurd h.2.2
listed (a ∷ b ∷ c ∷ []) h = absurd h.2.2.2
listed (a ∷ b ∷ c ∷ n ∷ row) h =
    let one = exactly 8 1 0xE4 [] a h.0 h.1 in
    let two = exactly 3 1 1 (a ∷ []) b h.2.0 h.2.1 in
    let three = exactly 1 1 0 (b ∷ a ∷ []) c h.2.2.0 h.2.2.1 in
    record { count = n; row = row; is = λ i. one i ∷ two i ∷ three i ∷ n ∷ row; full = exact n row (legal_filled (repeat n tide_record end) _ row h.2.2.2.2) }

-- ---- what the family brings

counted : (x : Whole) → Counted tides.fmt 0 (values_of x)
unfolding tides headed codes values_of
counted x = let n = x.0.count in
    subst (Counted (repeat n tide_record end) 21) (append-nil _) (past_counted (repeat n tide_record end) end 21 (records_told n x.1) [] ((many n).past x.1 end) (λ at. tt))

same_record : (x : Whole) → Lent x → record_of (values_of x) ≡ x
unfolding values_of record_of
same_record x e = ap (λ l. (x.0, l)) (row_is x e)

same_values : (vs : List ℕ) → Legal tides.fmt [] vs → values_of (record_of vs) ≡ vs
unfolding values_of record_of
same_values vs h =
    let l = listed vs h in
    ap (λ vs. values_of (record_of vs)) l.is ∙ ap (leading l.count) (row_is (record { count = l.count }, l.row) l.full) ∙ sym l.is

can_lend : (vs : List ℕ) → Legal tides.fmt [] vs → Lent (record_of vs)
unfolding record_of
can_lend vs h = let l = listed vs h in subst (λ vs. Lent (record_of vs)) (sym l.is) l.full

filled_of : (n : ℕ) (row : List ℕ) → records_long n row ≡ length row → Filled (repeat n tide_record end) row
filled_of n row e =
    let f = repeat n tide_record end in
    subst (Filled f) (append-nil row) (subst (λ l. Filled f (l ++ [])) (row_is (record { count = n }, row) e) (past_filled f end (records_told n row) [] ((many n).past row end) tt))

changed_is : (x : Whole) (i v : ℕ) → changed (suc (suc (suc (suc i)))) v x ≡ (x.0, set x.1 i v)
unfolding changed
changed_is x i v =
    let e : suc (suc (suc (suc i))) - 4 ≡ i = omega arith in
    rw (le-leb 4 (suc (suc (suc (suc i)))) (omega arith), e) refl

-- The row's number j is field first_entry_of + j: it is what a correction of that field changes,
pub entry_changed : (x : Whole) (j v : ℕ) → changed (first_entry_of + j) v x ≡ (x.0, set x.1 j v)
entry_changed x j v =
    let e : first_entry_of + j ≡ suc (suc (suc (suc j))) = omega arith in
    ap (λ i. changed i v x) e ∙ changed_is x j v

-- and it stands where the table of the records' numbers says
pub entry_stands : (x : Whole) (j : ℕ) → spot_of x (first_entry_of + j) ≡ get_or (record_spots x.0.count x.1 21) j none
entry_stands x j =
    let e : first_entry_of + j ≡ suc (suc (suc (suc j))) = omega arith in
    ap (spot_of x) e

-- The changed record has the changed list of values: what may be corrected is no count and no position type, so the row has as many numbers as before.
pub changes : (x : Whole) (i v p w : ℕ) → Lent x → spot tides.fmt [] (values_of x) i ≡ found p w → (values_of (changed i v x) ≡ set (values_of x) i v) × Lent (changed i v x)
unfolding tides headed codes values_of spot
changes x zero v p w e s = none_clash s
changes x (suc zero) v p w e s = none_clash (later_inv 8 _ s).1
changes x (suc (suc zero)) v p w e s = none_clash (later_inv 3 _ (later_inv 8 _ s).1).1
changes x (suc (suc (suc zero))) v p w e s = none_clash (later_inv 1 _ (later_inv 3 _ (later_inv 8 _ s).1).1).1
changes x (suc (suc (suc (suc i)))) v p w e s =
    let n = x.0.count in
    let row = x.1 in
    let h = n ∷ 0 ∷ 1 ∷ 0xE4 ∷ [] in
    let (q, at, z) = later_inv 9 _ (later_inv 1 _ (later_inv 3 _ (later_inv 8 _ s).1).1).1 in
    let full : records_long n (set row i v) ≡ length (set row i v) = exact n (set row i v) (filled_set (repeat n tide_record end) h row i v (filled_of n row e) (subst (λ r. spot (repeat n tide_record end) h r i ≡ found q w) (row_is x e) at)) in
    (ap values_of (changed_is x i v) ∙ ap (leading n) (row_is (x.0, set row i v) full ∙ ap (λ r. set r i v) (sym (row_is x e))), subst Lent (sym (changed_is x i v)) full)

pub family : Family tides Whole Lent values_of record_of changed
family = record {
  sound = sound;
  judged = judged;
  counted = λ x e. counted x;
  same_record = λ x e h. same_record x e;
  same_values = same_values;
  can_lend = can_lend;
  changes = λ x i v p w k e n. changes x i v p w k e;
}

-- ---- a row tells no more than its records

-- a row has the values of the numbers that its counts and position types ask for,
pub asked_row : (r : Tide) (row : List ℕ) → values_of (r, records_told r.count row) ≡ values_of (r, row)
unfolding values_of
asked_row r row =
    let n = r.count in
    ap (leading n) (ap (records_told n) (sym (append-nil (records_told n row))) ∙ told_again (many n) row [])

-- and so a longer row those of its front
pub longer_row : (r : Tide) (row us : List ℕ) → records_long r.count row ≡ length row → values_of (r, row ++ us) ≡ values_of (r, row)
unfolding values_of
longer_row r row us full =
    let n = r.count in
    ap (leading n) (ap (λ l. records_told n (l ++ us)) (sym (told_exact (many n) row full)) ∙ told_again (many n) row us)

-- ---- said of reading's promise

-- Two answers that reading may give to the same bytes and row are equal, and leave the same.
pub one_reading : (s row : List ℕ) (a b : Result Told Refusal) (row₁ row₂ : List ℕ) → Reads s row a row₁ → Reads s row b row₂ → (a ≡ b) × (row₁ ≡ row₂)
one_reading s row a b row₁ row₂ (x, y) (x', y') = (one_outcome a b (x ∙ sym x'), y ∙ sym y')

-- the telegram that a good answer tells: its records' numbers stand in front of the row
abbrev pub whole_of : Told → List ℕ → Whole
whole_of a row = (a.tide, take a.numbers row)

-- a good answer is an accepted reading
pub good : (s row : List ℕ) (a : Told) (row' : List ℕ) → Reads s row (Ok a) row' → read_record tides record_of s ≡ accepted (whole_of a row')
good s row a row' (x, y) = go (read_record tides record_of s) x y
  where
    fits : (q : Whole) → ◌≡◌ {A = Out Told} (accepted a) (accepted (told_of q)) → row' ≡ ahead q.1 row → q ≡ whole_of a row'
    fits q e y =
        let k = accepted_inj e in
        let xs : take a.numbers row' ≡ q.1 = ap₂ (λ (a : Told) l. take a.numbers l) k y ∙ take_at q.1 (drop (length q.1) row) (length q.1) refl in
        λ i. (sym (ap (λ (a : Told). a.tide) k) i, sym xs i)

    room : (q : Whole) (b : Bool) → accepted a ≡ plain (also told_of (check (or_bad b 6) 0 (accepted q))) → row' ≡ answered (λ (x : Whole). ahead x.1 row) (λ c. row) (check (or_bad b 6) 0 (accepted q)) → accepted q ≡ accepted (whole_of a row')
    room q true e y = ap accepted (fits q e y)
    room q false e y = clash (sym e)

    go : (o : Out Whole) → accepted a ≡ plain (also told_of (housed (length row) o)) → row' ≡ answered (λ (x : Whole). ahead x.1 row) (λ c. row) (housed (length row) o) → o ≡ accepted (whole_of a row')
    go (accepted q) e y = room q (leb (length q.1) (length row)) e y
    go (refused c p) e y = clash (sym e)
