-- The walk over a tide's records is a stretch of reading, from the laws on counted groups. Assumes nothing.
use Rattle.std.specs.Prelude.{ℕ, ◌+◌, ◌*◌, ◌≤◌, ◌<◌, ◌^◌, ◌≡◌, refl, Bool, List, [], ◌∷◌, ◌++◌, eqb}
use Rattle.std.proofs.Common.{sym, ap, ap₂, ◌∙◌, append_assoc, append-nil, arith, add-zero, lit<, lit≤}
use Rattle.std.proofs.Math.Bool.{true, false, cond}
use Rattle.bits.specs.Answers.{got}
use Rattle.format.specs.Fmt.{Out, Fmt}
use Rattle.format.specs.Groups.{repeat}
use Rattle.format.specs.Words.{◌‥◌, wide, num}
use Rattle.walk.specs.Groups.{Step, single, then_step, unless_refused, Standing, Width}
use Rattle.walk.specs.Reading.{ranged}
use Rattle.walk.specs.Laws.Along.{Along, Going, going, fronted, stay, then, under, ranged_v, ranged_at}
use Rattle.walk.specs.Laws.Groups.{Stretch, valued, number, parted, guard, follows, decides, repeats, evenly, at_most}
use Rattle.walk.specs.Laws.Reading.{step_num, step_limits}
use Rattle.walk.specs.Walk.{Walk}
use Rattle.notice_fields.specs.Terms.{point}
use Rattle.notice_fields.specs.Parts.{time, latitude_bits, longitude_bits, point_bits}
use Rattle.notice_fields.specs.PartsSteps.{time_read, latitude_read, longitude_read}
use Rattle.notice_fields.specs.Laws.PartsWalking.{moment_parts}
use Rattle.notice_fields.specs.Laws.Walking.{latitude_field, longitude_field}
use Rattle.tide.specs.Row.{entry_bits, record_most}
use Rattle.tide.specs.Standing.{placed_at, entry_at, entries_at, record_at, record_wide, records_at}
use Rattle.tide.specs.Steps.{placed_read, level_read, entry_step, entries_step, record_step, records_walked}
use Rattle.tide.specs.Tide.{least_of, placed, level, entry, tide_record}

-- what is walked only where nothing was refused before
guarded : {s : List ℕ} {item : Fmt → Fmt} {values : Standing} {wide : Width} {most : ℕ} {step : Step} → Stretch s item values wide most step → Stretch s item values wide most (then_step unless_refused step)
guarded {s} {item} {values} {wide} {most} {step} x = record {
  small = x.small;
  on = λ {g} {vs} next r reach rest. guard.on (step next) r (omega arith) (λ w e.
      let here : w.at ≡ r.at = e ∙ add-zero r.at in
      valued (ap (λ at. values at ++ vs) here) (x.on next w (omega (arith, here)) (λ u d. rest u (d ∙ ap (λ at. at + wide at) here))));
}

module _ (s : List ℕ) where
  -- ---- a position: a port's code, or a point

  a_place : (k : ℕ) → Stretch s (placed k) (placed_at s k) (λ at. cond (eqb k 0) 6 point_bits) point_bits (single (placed_read s k))
  unfolding placed
  a_place k = by (eqb k 0)
    where
      by : (x : Bool) → Stretch s (λ f. cond x (num 6 (0 ‥ 63) f) (point f)) (λ at. cond x (got s at 6 ∷ []) (got s at latitude_bits ∷ got s (at + latitude_bits) longitude_bits ∷ [])) (λ at. cond x 6 point_bits) point_bits (single (λ r. cond x (ranged s 6 true 0 63 4 r) (longitude_read s (latitude_read s r))))
      by true = at_most point_bits (lit≤ tt) (number s 6 (lit< tt) (lit≤ tt) 0 63)
      by false = follows (latitude_field s) (longitude_field s)

  -- ---- an entry: a time; a sign and a value, whose least hangs on the sign

  a_time : Stretch s time (λ at. got s at 21 ∷ []) (λ at. 21) 21 (single (time_read s))
  unfolding wide
  a_time = parted s 21 (lit< tt) (lit≤ tt) moment_parts

  abbrev signed : Fmt → Fmt
  signed f = num 1 (0 ‥ 1) (num 10 level f)

  level_along : (r : Walk) → r.at + 11 < 2 ^ 64 → ((level_read s r).at ≡ r.at + 11) × Along s signed (λ f. f) r (got s r.at 1 ∷ got s (r.at + 1) 10 ∷ []) (level_read s r)
  level_along r reach =
      let q = ranged s 1 true 0 1 4 r in
      let p = level_read s r in
      let at : q.at ≡ r.at + 1 = ranged_at s r 1 true 0 1 4 refl (omega arith) in
      let end : p.at ≡ r.at + 11 = ranged_at s q 10 true (least_of q.v) 1_023 4 refl (omega (arith, at)) ∙ omega (arith, at) in
      let one : q.v ≡ got s r.at 1 = ranged_v s r 1 true 0 1 4 refl in
      let two : p.v ≡ got s (r.at + 1) 10 = ranged_v s q 10 true (least_of q.v) 1_023 4 refl ∙ ap (λ a. got s a 10) at in
      (end, valued (ap₂ (λ a b. a ∷ b ∷ []) one two) (record { on = λ {o} {all} {i} {f} {us} x. both us x }))
    where
      both : {o : Out (List ℕ)} {all : Fmt} {i : ℕ} {f : Fmt} (us : List ℕ) → Going o all i s (signed f) us r → Going o all i s f (us ++ ((ranged s 1 true 0 1 4 r).v ∷ (level_read s r).v ∷ [])) (level_read s r)
      both us x =
          let y = step_num 1 (lit< tt) (lit≤ tt) (omega arith) 0 1 x.so refl in
          let z = step_limits 10 (lit< tt) (lit≤ tt) (omega arith) 3 _ 1_023 level (λ v. refl) y refl in
          going (us ++ ((ranged s 1 true 0 1 4 r).v ∷ (level_read s r).v ∷ [])) (fronted (λ vs. sym (append_assoc us _ vs)) z)

  a_level : Stretch s signed (λ at. got s at 1 ∷ got s (at + 1) 10 ∷ []) (λ at. 11) 11 (single (level_read s))
  a_level = record { small = λ at. omega arith; on = λ {g} {vs} next r reach rest. let (at, a) = level_along r reach in then (under g a) (rest (level_read s r) at) }

  an_entry : Stretch s entry (entry_at s) (λ at. entry_bits) entry_bits (entry_step s)
  an_entry = follows a_time (follows a_level guard)

  -- as many as nine bits tell
  entries : (n : ℕ) → n < 2 ^ 9 → Stretch s (repeat n entry) (entries_at s n) (λ at. n * entry_bits) (511 * entry_bits) (entries_step s n)
  entries n l = let few : n * entry_bits ≤ 511 * entry_bits = omega arith in at_most (511 * entry_bits) few (guarded (evenly an_entry n))

  -- ---- records

  pub a_record : Stretch s tide_record (record_at s) (record_wide s) record_most (record_step s)
  unfolding record_step
  a_record = follows (decides s 1 (lit< tt) (lit≤ tt) 0 1 point_bits (λ k l. guarded (a_place k))) (follows (number s 1 (lit< tt) (lit≤ tt) 0 1) (decides s 9 (lit< tt) (lit≤ tt) 1 511 (511 * entry_bits) entries))

  pub records_along : (n : ℕ) (r : Walk) → r.at + n * record_most < 2 ^ 64 → Along s (repeat n tide_record) (λ f. f) r (records_at s n r.at) (records_walked s n r)
  records_along n r reach = valued (append-nil (records_at s n r.at)) ((repeats a_record n).on {g = λ f. f} {vs = []} (λ w. w) r reach (λ w e. stay))
