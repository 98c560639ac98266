-- A tide's records put: an entry, a position by its type, a record, and all of them, by the laws on what a row tells. And one turn of each loop, with the code's own numbers. Assumes nothing.
use Rattle.std.specs.Prelude.{ℕ, ◌+◌, ◌%◌, ◌≤◌, ◌≡◌, refl, Bool, List, eqb, get_or}
use Rattle.std.proofs.Common.{sym, ap, ap₂, ◌∙◌, lit≤}
use Rattle.std.proofs.Math.Path.{subst⁻¹}
use Rattle.std.proofs.Math.Bool.{true, false, cond}
use native.Mathlib.Omega.{arith}
use Rattle.format.specs.Correcting.{put_in}
use Rattle.format.specs.Groups.{repeat, one_told}
use Rattle.format.specs.Words.{◌‥◌, num, wide}
use Rattle.walk.specs.Rows.{Put, one_put, even_put_step}
use Rattle.walk.specs.Laws.RowsPut.{Puts, puts_one, puts_next, puts_decided, puts_as, puts_counted, puts_repeated}
use Rattle.notice_fields.specs.Terms.{point}
use Rattle.notice_fields.specs.Making.{point_put}
use Rattle.notice_fields.specs.Parts.{point_bits}
use Rattle.notice_fields.specs.Row.{point_told}
use Rattle.notice_fields.specs.Laws.Putting.{a_point_put}
use Rattle.tide.specs.Making.{entry_put, placed_put, record_put, records_put}
use Rattle.tide.specs.Row.{placed_long, entry_bits, long_most, record_most, records_long, placed_told, some_time, entry_told, records_told}
use Rattle.tide.specs.Tide.{placed, entry, tide_record}

module _ (row : List ℕ) where
  an_entry_put : Puts row entry entry_told (λ r. 3) (λ k at t. (record { at = at + entry_bits; next = k + 3 }, entry_put row k at t))
  unfolding wide
  an_entry_put = puts_as
      (λ k at t.
      let two : k + 1 + 1 ≡ k + 2 = omega arith in
      let three : k + 1 + 1 + 1 ≡ k + 3 = omega arith in
      let all : at + 21 + 1 + 10 ≡ at + entry_bits = omega arith in
      λ i. (record { at = all i; next = three i }, put_in (put_in (put_in t at 21 (get_or row k some_time)) (at + 21) 1 (get_or row (k + 1) 1)) (at + 21 + 1) 10 (get_or row (two i) 1)))
      (puts_next (puts_one some_time 21 _ _ (lit≤ tt)) (puts_next (puts_one 1 1 _ _ (lit≤ tt)) (puts_one 1 10 _ _ (lit≤ tt))))

  a_place_put : (kind : ℕ) → Puts row (placed kind) (placed_told kind) (λ r. placed_long kind) (placed_put row kind)
  unfolding placed
  a_place_put kind = by (eqb kind 0)
    where
      by : (x : Bool) → Puts row (λ f. cond x (num 6 (0 ‥ 63) f) (point f)) (cond x (one_told 0) point_told) (λ r. cond x 1 2) (λ k at t. cond x (one_put row 0 6 k at t) (record { at = at + point_bits; next = k + 2 }, point_put row k at t))
      by true = puts_one 0 6 _ _ (lit≤ tt)
      by false = a_point_put row

  pub records_put_lem : (n : ℕ) → Puts row (repeat n tide_record) (records_told n) (records_long n) (records_put row n)
  records_put_lem n = puts_repeated (puts_next (puts_decided row 0 1 (lit≤ tt) _ a_place_put) (puts_next (puts_one 0 1 _ _ (lit≤ tt)) (puts_counted row 1 9 (lit≤ tt) _ entry_bits an_entry_put))) n

-- ---- turns of the loops

pub record_turn : (row : List ℕ) (k at : ℕ) (t : List ℕ) {kind c : ℕ} {u m v : List ℕ} {p : Put} → kind ≡ get_or row k 0 → u ≡ put_in t at 1 kind → p ≡ placed_put row kind (k + 1) (at + 1) u
    → m ≡ put_in p.1 p.0.at 1 (get_or row p.0.next 0) → c ≡ get_or row (p.0.next + 1) 1 → v ≡ put_in m (p.0.at + 1) 9 c
    → record_put row k at t ≡ even_put_step 3 entry_bits (c % 512) (entry_put row) (p.0.next + 1 + 1) (p.0.at + 1 + 9) v
record_turn row k at t {kind} {c} {u} {m} {v} {p} ek eu ep em ec ev =
    let ends : Put → ℕ → List ℕ → Put = λ q c v. even_put_step 3 entry_bits (c % 512) (entry_put row) (q.0.next + 1 + 1) (q.0.at + 1 + 9) v in
    let from : Put → Put = λ q. let c = get_or row (q.0.next + 1) 1 in ends q c (put_in (put_in q.1 q.0.at 1 (get_or row q.0.next 0)) (q.0.at + 1) 9 c) in
    sym (ap (λ v. from (placed_put row v (k + 1) (at + 1) (put_in t at 1 v))) ek) ∙ ap from (sym (ep ∙ ap (λ u. placed_put row kind (k + 1) (at + 1) u) eu))
    ∙ ap₂ (ends p) (sym ec) (ap₂ (λ m c. put_in m (p.0.at + 1) 9 c) (sym em) (sym ec) ∙ sym ev)

-- a position goes no further than a point
pub place_small : (row : List ℕ) (kind k at : ℕ) (t : List ℕ) {p : Put} → p ≡ placed_put row kind k at t → (p.0.at ≤ at + point_bits) × (p.0.next ≤ k + 2)
place_small row kind k at t d = subst⁻¹ (λ (p : Put). (p.0.at ≤ at + point_bits) × (p.0.next ≤ k + 2)) d (go (eqb kind 0))
  where
    go : (x : Bool) → let p = cond {A = Put} x (one_put row 0 6 k at t) (record { at = at + point_bits; next = k + 2 }, point_put row k at t) in (p.0.at ≤ at + point_bits) × (p.0.next ≤ k + 2)
    go true = (omega arith, omega arith)
    go false = (omega arith, omega arith)

-- a record goes no further than 511 entries do, whatever the row
pub record_small : (row : List ℕ) (k at : ℕ) (t : List ℕ) {a : Put} → a ≡ record_put row k at t → (a.0.at ≤ at + record_most) × (a.0.next ≤ k + long_most)
record_small row k at t d =
    let kind = get_or row k 0 in
    let (a, b) = place_small row kind (k + 1) (at + 1) (put_in t at 1 kind) refl in
    subst⁻¹ (λ (a : Put). (a.0.at ≤ at + record_most) × (a.0.next ≤ k + long_most)) d (omega (arith, a), omega (arith, b))
