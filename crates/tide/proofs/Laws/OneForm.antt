-- A level has one form: accepted telegrams that say the same, each level by its height, are the same bytes. So no two of them differ only in how a height of 0 is said. Assumes nothing.
use Rattle.std.specs.Prelude.{ℕ, zero, suc, ◌≤◌, ◌<◌, ◌≡◌, refl, Bool, true, false, cond, List, [], ◌∷◌, eqb, ℤ, pos, drop, get_or, Ok}
use Rattle.std.proofs.Common.{sym, ap, ◌∙◌, subst, get_or-drop, drop-drop}
use Rattle.bits.specs.Bits.{Bytes}
use Rattle.format.specs.Fmt.{accepted, Fmt, end}
use Rattle.format.specs.Groups.{repeat, counted}
use Rattle.format.specs.Message.{write_message}
use Rattle.format.specs.Promises.{read_record}
use Rattle.format.specs.Words.{◌‥◌, num}
use Rattle.format.proofs.Laws.Family.{read_values}
use Rattle.format.specs.Laws.Legal.{Legal, passed, ranged}
use Rattle.format.specs.Laws.Round.{accepted_inj}
use Rattle.format.proofs.Laws.Whole.{read_write_message}
use Rattle.notice_fields.specs.Terms.{point}
use Rattle.tide.specs.Heights.{height_of}
use Rattle.tide.specs.Promises.{Reads}
use Rattle.tide.specs.Record.{Whole, values_of, record_of}
use Rattle.tide.specs.Said.{entries_said, records_said, said}
use Rattle.tide.specs.Tide.{least_of, placed, level, entry, tide_record, tides}
use Rattle.tide.specs.declared.reading.Told.{Told}
use Rattle.tide.specs.Laws.Demands.{family, whole_of, good}
use Rattle.tide.specs.Laws.Sound.{sound}
use Rattle.tide.specs.Laws.OneForm.{level_one_lem, read_legal}

-- ---- one level

-- what accepted values have: a sign of one bit, and no less than its least value
sign_value : (f : Fmt) (h : List ℕ) (t s v : ℕ) (us : List ℕ) → Legal (num 1 (0 ‥ 1) (num 10 level f)) (t ∷ h) (s ∷ v ∷ us) → (s < 2) × (least_of s ≤ v) × Legal f (v ∷ s ∷ t ∷ h) us
sign_value f h t s v us x =
    let y = x.2 in
    (x.0, (ranged (least_of s) 1_023 v (passed 10 3 level (s ∷ t ∷ h) v y.0 y.1)).0, y.2)

peel : {a b : ℕ} {xs ys : List ℤ} → pos a ∷ xs ≡ pos b ∷ ys → (a ≡ b) × (xs ≡ ys)
peel e = (cc, cc)

-- ---- entries, in front of what has one form

-- values of f that say the same are the same
abbrev One : Fmt → (List ℕ → List ℤ) → Type 0
One f next = (h k us vs : List ℕ) → Legal f h us → Legal f k vs → next us ≡ next vs → us ≡ vs

entries_one : (n : ℕ) (f : Fmt) (next : List ℕ → List ℤ) → One f next → One (repeat n entry f) (entries_said n next)
unfolding repeat entries_said
entries_one zero f next one h k us vs x y e = one h k us vs x y e
entries_one (suc n) f next one h k [] vs x y e = absurd x
entries_one (suc n) f next one h k (t ∷ []) vs x y e = absurd x.2
entries_one (suc n) f next one h k (t ∷ s ∷ []) vs x y e = absurd x.2.2
entries_one (suc n) f next one h k (t ∷ s ∷ v ∷ us) [] x y e = absurd y
entries_one (suc n) f next one h k (t ∷ s ∷ v ∷ us) (t' ∷ []) x y e = absurd y.2
entries_one (suc n) f next one h k (t ∷ s ∷ v ∷ us) (t' ∷ s' ∷ []) x y e = absurd y.2.2
entries_one (suc n) f next one h k (t ∷ s ∷ v ∷ us) (t' ∷ s' ∷ v' ∷ vs) x y e =
    let (sign, least, more) = sign_value (repeat n entry f) h t s v us x.2 in
    let (sign', least', more') = sign_value (repeat n entry f) k t' s' v' vs y.2 in
    let (time, behind) = peel e in
    let height : height_of s v ≡ height_of s' v' = cc in
    let rest : entries_said n next us ≡ entries_said n next vs = cc in
    let (same, value) = level_one_lem s v s' v' sign sign' least least' height in
    let on = entries_one n f next one (v ∷ s ∷ t ∷ h) (v' ∷ s' ∷ t' ∷ k) us vs more more' rest in
    λ i. time i ∷ same i ∷ value i ∷ on i

-- ---- records

-- the forecast mark, a count and its entries, and what follows them
abbrev marked : Fmt → Fmt
marked f = num 1 (0 ‥ 1) (counted 9 (1 ‥ 511) entry f)

abbrev marked_said : (List ℕ → List ℤ) → List ℕ → List ℤ
marked_said next row = pos (get_or row 0 0) ∷ pos (get_or row 1 0) ∷ entries_said (get_or row 1 0) next (drop 2 row)

marked_one : (f : Fmt) (next : List ℕ → List ℤ) → One f next → One (marked f) (marked_said next)
marked_one f next one h k [] vs x y e = absurd x
marked_one f next one h k (m ∷ []) vs x y e = absurd x.2
marked_one f next one h k (m ∷ c ∷ us) [] x y e = absurd y
marked_one f next one h k (m ∷ c ∷ us) (m' ∷ []) x y e = absurd y.2
marked_one f next one h k (m ∷ c ∷ us) (m' ∷ c' ∷ vs) x y e =
    let (mark, e) = peel e in
    let (count, e) = peel e in
    let y' : Legal (repeat c entry f) (c' ∷ m' ∷ k) vs = subst (λ c. Legal (repeat c entry f) (c' ∷ m' ∷ k) vs) (sym count) y.2.2 in
    let on = entries_one c f next one (c ∷ m ∷ h) (c' ∷ m' ∷ k) us vs x.2.2 y' (e ∙ ap (λ c. entries_said c next vs) (sym count)) in
    λ i. mark i ∷ count i ∷ on i

-- behind the position type, by whether it is 0
abbrev placed_said : Bool → (List ℕ → List ℤ) → List ℕ → List ℤ
placed_said x next row = cond x (pos (get_or row 0 0) ∷ marked_said next (drop 1 row)) (pos (get_or row 0 0) ∷ pos (get_or row 1 0) ∷ marked_said next (drop 2 row))

placed_one : (b : Bool) (f : Fmt) (next : List ℕ → List ℤ) → One f next → One (cond b (num 6 (0 ‥ 63) (marked f)) (point (marked f))) (placed_said b next)
placed_one true f next one h k [] vs x y e = absurd x
placed_one true f next one h k (p ∷ us) [] x y e = absurd y
placed_one true f next one h k (p ∷ us) (p' ∷ vs) x y e =
    let (port, e) = peel e in
    let on = marked_one f next one (p ∷ h) (p' ∷ k) us vs x.2 y.2 e in
    λ i. port i ∷ on i
placed_one false f next one h k [] vs x y e = absurd x
placed_one false f next one h k (a ∷ []) vs x y e = absurd x.2
placed_one false f next one h k (a ∷ b ∷ us) [] x y e = absurd y
placed_one false f next one h k (a ∷ b ∷ us) (a' ∷ []) x y e = absurd y.2
placed_one false f next one h k (a ∷ b ∷ us) (a' ∷ b' ∷ vs) x y e =
    let (latitude, e) = peel e in
    let (longitude, e) = peel e in
    let on = marked_one f next one (b ∷ a ∷ h) (b' ∷ a' ∷ k) us vs x.2.2 y.2.2 e in
    λ i. latitude i ∷ longitude i ∷ on i

-- the definition, with a record's numbers behind its position type taken together
said_placed : (n p : ℕ) (us : List ℕ) → records_said (suc n) (p ∷ us) ≡ pos p ∷ placed_said (eqb p 0) (λ r. records_said n r) us
unfolding records_said
said_placed n p us = ap (pos p ∷◌) (go (eqb p 0) us)
  where
    next : List ℕ → List ℤ
    next r = records_said n r

    go : (b : Bool) (us : List ℕ) → cond b (pos (get_or (p ∷ us) 1 0) ∷ pos (get_or (p ∷ us) 2 0) ∷ pos (get_or (p ∷ us) 3 0) ∷ entries_said (get_or (p ∷ us) 3 0) next (drop 4 (p ∷ us)))
        (pos (get_or (p ∷ us) 1 0) ∷ pos (get_or (p ∷ us) 2 0) ∷ pos (get_or (p ∷ us) 3 0) ∷ pos (get_or (p ∷ us) 4 0) ∷ entries_said (get_or (p ∷ us) 4 0) next (drop 5 (p ∷ us)))
        ≡ placed_said b next us
    go true us = let e = get_or-drop 1 us in λ i. pos (get_or us 0 0) ∷ pos (sym (e 0 0) i) ∷ pos (sym (e 1 0) i) ∷ entries_said (sym (e 1 0) i) next (sym (drop-drop 2 1 us) i)
    go false us = let e = get_or-drop 2 us in λ i. pos (get_or us 0 0) ∷ pos (get_or us 1 0) ∷ pos (sym (e 0 0) i) ∷ pos (sym (e 1 0) i) ∷ entries_said (sym (e 1 0) i) next (sym (drop-drop 2 2 us) i)

records_one : (n : ℕ) → One (repeat n tide_record end) (records_said n)
unfolding repeat placed
records_one zero h k [] [] x y e = refl
records_one zero h k (u ∷ us) vs x y e = absurd x
records_one zero h k [] (v ∷ vs) x y e = absurd y
records_one (suc n) h k [] vs x y e = absurd x
records_one (suc n) h k (p ∷ us) [] x y e = absurd y
records_one (suc n) h k (p ∷ us) (q ∷ vs) x y e =
    let f = repeat n tide_record end in
    let next : List ℕ → List ℤ = λ r. records_said n r in
    let (kind, e) = peel (sym (said_placed n p us) ∙ e ∙ said_placed n q vs) in
    let y' = subst (λ p. Legal (cond (eqb p 0) (num 6 (0 ‥ 63) (marked f)) (point (marked f))) (q ∷ k) vs) (sym kind) y.2 in
    let on = placed_one (eqb p 0) f next (λ h k us vs. records_one n h k us vs) (p ∷ h) (q ∷ k) us vs x.2 y' (e ∙ ap (λ p. placed_said (eqb p 0) next vs) (sym kind)) in
    λ i. kind i ∷ on i

-- ---- telegrams

-- Two telegrams that reading accepts and that say the same are the same bytes.
pub one_form : (s t : List ℕ) (x y : Whole) → Bytes s → Bytes t → read_record tides record_of s ≡ accepted x → read_record tides record_of t ≡ accepted y → said x ≡ said y → s ≡ t
one_form s t x y fine fine' e d same =
    let (count, rest) = peel same in
    let n = x.0.count in
    let ly = subst (λ n. Legal (repeat n tide_record end) (y.0.count ∷ 0 ∷ 1 ∷ 0xE4 ∷ []) y.1) (sym count) (read_legal t y fine' d) in
    let rows = records_one n (n ∷ 0 ∷ 1 ∷ 0xE4 ∷ []) (y.0.count ∷ 0 ∷ 1 ∷ 0xE4 ∷ []) x.1 y.1 (read_legal s x fine e) ly (rest ∙ ap (λ n. records_said n y.1) (sym count)) in
    let all : x ≡ y = λ i. (record { count = count i }, rows i) in
    let one = read_write_message tides sound s (values_of x) fine (read_values family s x fine e).0 in
    let two = read_write_message tides sound t (values_of y) fine' (read_values family t y fine' d).0 in
    accepted_inj (sym one ∙ ap (λ x. write_message tides (values_of x)) all ∙ two)

-- said of what reading answers
pub one_form_read : (s t row row₂ : List ℕ) (a b : Told) (row' row₂' : List ℕ) → Bytes s → Bytes t → Reads s row (Ok a) row' → Reads t row₂ (Ok b) row₂' → said (whole_of a row') ≡ said (whole_of b row₂') → s ≡ t
one_form_read s t row row₂ a b row' row₂' fine fine' x y = one_form s t (whole_of a row') (whole_of b row₂') fine fine' (good s row a row' x) (good t row₂ b row₂' y)
