-- A tide's records judged: an entry, a position by its type, a record, and all of them, by the laws on what a row tells. And one turn of each loop, with the code's own numbers. Assumes nothing.
use Rattle.std.specs.Prelude.{ℕ, ◌+◌, ◌*◌, ◌≤◌, ◌≡◌, Bool, List, [], ◌∷◌, eqb, drop}
use Rattle.std.proofs.Math.Path.{refl, subst, subst⁻¹}
use Rattle.std.proofs.Common.{sym, ap, ap₂, ◌∙◌, arith, lit<, lit≤, get_or-drop, eqb-true}
use Rattle.std.proofs.Math.Bool.{true, false, cond}
use Rattle.std.proofs.Math.ListN.{get_or}
use Rattle.format.specs.Groups.{repeat, one_told}
use Rattle.format.specs.Words.{◌‥◌, wide, num}
use Rattle.walk.specs.Judging.{valued}
use Rattle.walk.specs.Rows.{one_judged, even_step}
use Rattle.walk.specs.Laws.Judging.{judge_num, judge_limits, valued_between}
use Rattle.walk.specs.Laws.Loops.{JudgesAlong, going, step_near}
use Rattle.walk.specs.Laws.Pieces.{judge_group}
use Rattle.walk.specs.Laws.Rows.{here}
use Rattle.walk.specs.Laws.RowsJudged.{Judges, step_good, judges_number, judges_next, judges_decided, judges_counted, judges_most, judges_repeated}
use Rattle.walk.specs.Walk.{Stepped}
use Rattle.walk.specs.Walk.{Walk}
use Rattle.notice_fields.specs.Terms.{point}
use Rattle.notice_fields.specs.Making.{point_judged}
use Rattle.notice_fields.specs.Parts.{point_bits}
use Rattle.notice_fields.specs.PartsSteps.{time_judged}
use Rattle.notice_fields.specs.Row.{point_told}
use Rattle.notice_fields.specs.Laws.Judging.{a_point_judged}
use Rattle.notice_fields.specs.Laws.PartsWalking.{moment_parts}
use Rattle.tide.specs.Making.{entry_judged, placed_judged, record_judged, records_judged}
use Rattle.tide.specs.Row.{placed_long, entry_bits, long_most, record_most, record_long, records_long, placed_told, some_time, entry_told, record_told, records_told}
use Rattle.tide.specs.Tide.{least_of, placed, level, entry, tide_record}

-- an entry's three numbers, which begin with number k
pub three : (row : List ℕ) (k : ℕ) → get_or row k some_time ∷ get_or row (k + 1) 1 ∷ get_or row (k + 2) 1 ∷ [] ≡ entry_told (drop k row)
three row k =
    let one = get_or-drop 1 (drop k row) 0 1 ∙ get_or-drop k row 1 1 in
    let two = get_or-drop 1 (drop 1 (drop k row)) 0 1 ∙ get_or-drop 1 (drop k row) 1 1 ∙ get_or-drop k row 2 1 in
    λ i. sym (here row k some_time) i ∷ sym one i ∷ sym two i ∷ []

module _ (row : List ℕ) where
  an_entry_judged : Judges row entry entry_told (λ r. 3) entry_bits (λ k r. record { walk = entry_judged row k r; next = k + 3 })
  unfolding wide
  an_entry_judged = record {
    along = λ k r reach.
        let sign = get_or row (k + 1) 1 in
        subst (λ l. JudgesAlong entry (λ f. f) r l (entry_judged row k r)) (three row k)
        (record { on = λ x. going (judge_limits 10 (omega arith) level (least_of sign) 1_023 (lit< tt) (λ l. refl) (judge_num 1 (omega arith) 0 1 (lit< tt) (judge_group (omega arith) (moment_parts _) x.is refl) refl) refl) });
    near = λ k r.
        let t = time_judged (get_or row k some_time) r in
        let sign = get_or row (k + 1) 1 in
        let s = valued 1 sign 0 1 t in
        let one : t.at ≤ r.at + 21 = step_near r 21 true (get_or row k some_time) _ _ refl in
        let two : s.at ≤ t.at + 1 = step_near t 1 true sign _ 0 refl in
        let three : (entry_judged row k r).at ≤ s.at + 10 = step_near s 10 true (get_or row (k + 2) 1) _ 0 refl in
        omega (arith, one, two, three);
    good = λ k r z.
        let t = time_judged (get_or row k some_time) r in
        let sign = get_or row (k + 1) 1 in
        let s = valued 1 sign 0 1 t in
        step_good r 21 true (get_or row k some_time) _ _ refl (step_good t 1 true sign _ 0 refl (step_good s 10 true (get_or row (k + 2) 1) _ 0 refl z));
    next = λ k r z. refl;
  }

  a_place_judged : (kind : ℕ) → Judges row (placed kind) (placed_told kind) (λ r. placed_long kind) point_bits (placed_judged row kind)
  unfolding placed
  a_place_judged kind = by (eqb kind 0)
    where
      by : (x : Bool) → Judges row (λ f. cond x (num 6 (0 ‥ 63) f) (point f)) (cond x (one_told 0) point_told) (λ r. cond x 1 2) point_bits (λ k r. cond x (one_judged row 0 (λ v. valued 6 v 0 63) k r) (record { walk = point_judged row k r; next = k + 2 }))
      by true = judges_most point_bits (lit≤ tt) (judges_number row 0 6 0 63 (lit< tt))
      by false = a_point_judged row

  a_record_judged : Judges row tide_record record_told record_long record_most (record_judged row)
  a_record_judged = judges_next (judges_decided row 0 1 0 1 (lit< tt) point_bits a_place_judged) (judges_next (judges_number row 0 1 0 1 (lit< tt)) (judges_counted row 1 9 1 511 (lit< tt) an_entry_judged))

  pub records_judged_lem : (n : ℕ) → Judges row (repeat n tide_record) (records_told n) (records_long n) (n * record_most) (records_judged row n)
  records_judged_lem n = judges_repeated a_record_judged n

-- ---- turns of the loops

-- behind the forecast mark: a count n, judged by c, and from number k on its entries
abbrev pub ends_judged : List ℕ → ℕ → ℕ → Walk → Stepped
ends_judged row k n c = cond (eqb c.code 0) (even_step 3 n (entry_judged row) k c) (record { walk = c; next = k })

pub record_turn : (row : List ℕ) (k : ℕ) (r : Walk) {kind n : ℕ} {w mark c : Walk} {p : Stepped} → kind ≡ get_or row k 0 → w ≡ valued 1 kind 0 1 r → p ≡ placed_judged row kind (k + 1) w
    → mark ≡ valued 1 (get_or row p.next 0) 0 1 p.walk → n ≡ get_or row (p.next + 1) 1 → c ≡ valued 9 n 1 511 mark → record_judged row k r ≡ ends_judged row (p.next + 1 + 1) n c
record_turn row k r {kind} {n} {w} {mark} {c} {p} ek ew ep em en ec =
    let from : Stepped → Stepped = λ q. let m = get_or row (q.next + 1) 1 in ends_judged row (q.next + 1 + 1) m (valued 9 m 1 511 (valued 1 (get_or row q.next 0) 0 1 q.walk)) in
    sym (ap (λ v. from (placed_judged row v (k + 1) (valued 1 v 0 1 r))) ek) ∙ ap from (sym (ep ∙ ap (λ w. placed_judged row kind (k + 1) w) ew))
    ∙ ap₂ (ends_judged row (p.next + 1 + 1)) (sym en) (ap₂ (λ n m. valued 9 n 1 511 m) (sym en) (sym em) ∙ sym ec)

-- a position takes at most two numbers
pub place_small : (row : List ℕ) (kind k : ℕ) (r : Walk) → (placed_judged row kind k r).next ≤ k + 2
place_small row kind k r = go (eqb kind 0)
  where
    go : (x : Bool) → (cond {A = Stepped} x (one_judged row 0 (λ v. valued 6 v 0 63) k r) (record { walk = point_judged row k r; next = k + 2 })).next ≤ k + 2
    go true = omega arith
    go false = omega arith

-- a record takes no more numbers than one of 511 entries, whatever the row
pub record_small : (row : List ℕ) (k : ℕ) (r : Walk) {a : Stepped} → a ≡ record_judged row k r → a.next ≤ k + long_most
record_small row k r d = subst⁻¹ (λ (a : Stepped). a.next ≤ k + long_most) d (go (eqb c.code 0) refl)
  where
    kind : ℕ
    kind = get_or row k 0

    p : Stepped
    p = placed_judged row kind (k + 1) (valued 1 kind 0 1 r)

    n : ℕ
    n = get_or row (p.next + 1) 1

    mark : Walk
    mark = valued 1 (get_or row p.next 0) 0 1 p.walk

    c : Walk
    c = valued 9 n 1 511 mark

    few : p.next ≤ k + 1 + 2
    few = place_small row kind (k + 1) (valued 1 kind 0 1 r)

    go : (t : Bool) → eqb c.code 0 ≡ t → (cond {A = Stepped} t (even_step 3 n (entry_judged row) (p.next + 1 + 1) c) (record { walk = c; next = p.next + 1 + 1 })).next ≤ k + long_most
    go true t = omega (arith, few, (valued_between mark 9 n 1 511 refl (eqb-true c.code 0 t)).1)
    go false t = omega (arith, few)
