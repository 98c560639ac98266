-- Good entries that are walked one by one, field by field, are passed at once: an entry's fields are parts of its 32 bits, and then by induction. Assumes nothing.
use Prim.Native.Nat.{ℕ, zero, suc, ◌+◌, ◌-◌, ◌*◌, ◌/◌, ◌%◌, ◌^◌, ◌≤◌, ◌<◌}
use Rattle.std.specs.Prelude.{◌≡◌, Bool, true, false, cond, ◌&&◌, List, [], leb, ltb, eqb, length}
use Rattle.std.proofs.Math.Path.{refl, ap, subst⁻¹}
use Rattle.std.proofs.Common.{sym, ◌∙◌, subst, zero-add, mod-eq_of_lt, lit≤, le-leb, lt-ltb, eq-eqb, ne_eqb, leb-true, ltb-true, ltb-false, eqb-true}
use native.Mathlib.Omega.{arith}
use Rattle.bits.specs.Answers.{got}
use Rattle.bits.specs.Laws.Answers.{within_fits}
use Rattle.walk.specs.Faults.{ranging}
use Rattle.walk.specs.Groups.{repeat_walked}
use Rattle.format.specs.Words.{◌‥◌}
use Rattle.walk.specs.Pieces.{unpieced, pieced, piecewise}
use Rattle.walk.specs.Reading.{ranged, grouped}
use Rattle.walk.specs.Walk.{onward}
use Rattle.walk.specs.Laws.Parts.{lying_whole}
use Rattle.walk.specs.Laws.Reading.{got_lt}
use Rattle.walk.specs.Pieces.{Pieces}
use Rattle.walk.specs.Walk.{Walk}
use Rattle.notice_fields.specs.Parts.{moment}
use Rattle.notice_fields.specs.PartsSteps.{time_read}
use Rattle.tide.specs.Entries.{Good, word_at, AllGood, Unsought, passed, Passes}
use Rattle.tide.specs.Row.{entry_bits}
use Rattle.tide.specs.Steps.{level_read, entry_read, entry_step}
use Rattle.tide.specs.Tide.{least_of}
use Rattle.tide.specs.Laws.Turns.{entry_turn}
use Rattle.tide.specs.Laws.Word.{word_there}

-- ---- one step, where nothing was refused before and the field is not sought

abbrev moved : ℕ → ℕ → Walk → Walk
moved w v r = record { at = r.at + w; code = 0; offset = 0; v = v; seek = r.seek; left = r.left - 1; found = r.found; spot = r.spot; width = r.width }

onward_good : (w v i c : ℕ) (r : Walk) → r.code ≡ 0 → c ≡ 0 → r.at + w < 2 ^ 64 → Unsought 1 r → onward w true v c i r ≡ moved w v r
unfolding onward
onward_good w v i c r z y reach u = go r.seek refl
  where
    go : (b : Bool) → r.seek ≡ b → onward w true v c i r ≡ moved w v r
    go true e =
        let n : 1 ≤ r.left = u e in
        rw (z, y, e, ne_eqb r.left 0 (λ z. omega arith), mod-eq_of_lt reach) refl
    go false e = rw (z, y, e, mod-eq_of_lt reach) refl

-- a number no_fault its limits has no fault
pub no_fault : (v lo hi : ℕ) → lo ≤ v → v ≤ hi → ◌≡◌ {A = ℕ} (cond (leb lo v && leb v hi) 0 4) 0
no_fault v lo hi l h = rw (le-leb lo v l, le-leb v hi h) refl

ranged_good : (s : List ℕ) (w lo hi : ℕ) (r : Walk) → w ≤ 32 → r.at + w ≤ length s * 8 → r.at + w < 2 ^ 64 → lo ≤ got s r.at w → got s r.at w ≤ hi → r.code ≡ 0 → Unsought 1 r
    → ranged s w true lo hi 4 r ≡ moved w (got s r.at w) r
ranged_good s w lo hi r small fits reach l h z u =
    let v = got s r.at w in
    onward_good w v 0 (ranging s r.at w lo hi 4) r z
    (ap (λ b. cond b (cond (leb lo v && leb v hi) 0 4) 1) (within_fits (length s) r.at w small fits) ∙ no_fault v lo hi l h) reach u

-- ---- a time

-- the parts before it were good: `left` bits are not judged, and the last part began `into` bits in
abbrev pub timed : ℕ → ℕ → ℕ → Pieces
timed v left into = record { v = v; width = 21; left = left; code = 0; into = into }

part_good : (w lo hi v left into : ℕ) → w ≤ left → lo ≤ v / 2 ^ (left - w) % 2 ^ w → v / 2 ^ (left - w) % 2 ^ w ≤ hi → pieced w 4 ((lo ‥ hi) []) (timed v left into) ≡ timed v (left - w) (21 - left)
unfolding pieced
part_good w lo hi v left into l a b = ap (λ c. record { v = v; width = 21; left = left - w; code = c; into = 21 - left })
    (ap (λ t. cond t (cond (leb lo (v / 2 ^ (left - w) % 2 ^ w) && leb (v / 2 ^ (left - w) % 2 ^ w) hi) 0 4) 1) (le-leb w left l) ∙ no_fault (v / 2 ^ (left - w) % 2 ^ w) lo hi a b)

-- no part has a fault, and the last begins 15 bits in
pub moment_good : (v : ℕ) → v < 2 ^ 21 → 1 ≤ v / 2 ^ 16 % 16 → v / 2 ^ 16 % 16 ≤ 12 → 1 ≤ v / 2 ^ 11 % 32 → v / 2 ^ 6 % 32 ≤ 23 → v % 64 ≤ 59 → piecewise moment [] (unpieced 21 v) ≡ timed v 0 15
unfolding piecewise
moment_good v small m1 m2 d h n =
    let year = pieced 1 4 ((0 ‥ 1) []) in
    let month = pieced 4 4 ((1 ‥ 12) []) in
    let day = pieced 5 4 ((1 ‥ 31) []) in
    let hour = pieced 5 4 ((0 ‥ 23) []) in
    let minute = pieced 6 4 ((0 ‥ 59) []) in
    let last : v / 2 ^ 0 % 2 ^ 6 ≤ 59 = omega arith in
    ap (λ c. minute (hour (day (month (year (record { v = v; width = 21; left = 21; code = c; into = 0 })))))) (ap (λ b. cond b 0 4) (lt-ltb v (2 ^ 21) small))
    ∙ ap (λ g. minute (hour (day (month g)))) (part_good 1 0 1 v 21 0 (lit≤ tt) (omega arith) (omega arith))
    ∙ ap (λ g. minute (hour (day g))) (part_good 4 1 12 v 20 0 (lit≤ tt) m1 m2) ∙ ap (λ g. minute (hour g)) (part_good 5 1 31 v 16 1 (lit≤ tt) d (omega arith))
    ∙ ap minute (part_good 5 0 23 v 11 5 (lit≤ tt) (omega arith) h) ∙ part_good 6 0 59 v 6 10 (lit≤ tt) (omega arith) last

-- ---- an entry

-- a sign and a value that are not both 0 have a value that is not below the sign's least
pub least_good : (sign v : ℕ) → 1 ≤ sign * 1_024 + v → least_of sign ≤ v
least_good sign v l = go (eqb sign 0) refl
  where
    go : (x : Bool) → eqb sign 0 ≡ x → least_of sign ≤ v
    go true e = rw e (omega (arith, eqb-true sign 0 e))
    go false e = rw e (omega arith)

module _ (s : List ℕ) where
  -- what is good is there, since what is not there counts as 0
  good_there : (at : ℕ) → Good (got s at 32) → at + 32 ≤ length s * 8
  good_there at g = go (leb (at + 32) (length s * 8)) refl
    where
      go : (x : Bool) → leb (at + 32) (length s * 8) ≡ x → at + 32 ≤ length s * 8
      go true e = leb-true (at + 32) (length s * 8) e
      go false e = let z : got s at 32 ≡ 0 = rw e refl in absurd (omega (arith, g, z))

  module _ (r : Walk) (z : r.code ≡ 0) (reach : r.at + 32 < 2 ^ 64) (g : Good (got s r.at 32)) (u : Unsought 3 r) where
    abbrev known : Walk
    known = moved 21 (got s r.at 21) r

    abbrev signed : Walk
    signed = moved 1 (got s known.at 1) known

    fits : r.at + 32 ≤ length s * 8
    fits = good_there r.at g

    time_good : time_read s r ≡ known
    time_good =
        let word = word_there s r.at fits in
        let v = got s r.at 21 in
        let sign = got_lt s (r.at + 21) 1 refl in
        let value = got_lt s (r.at + 21 + 1) 10 refl in
        let m = moment_good v (got_lt s r.at 21 refl) (omega (arith, word, g, sign, value)) (omega (arith, word, g, sign, value)) (omega (arith, word, g, sign, value)) (omega (arith, word, g, sign, value)) (omega (arith, word, g, sign, value)) in
        ap (λ p. grouped 21 v p r) (ap (piecewise moment []) (lying_whole s r.at 21 (omega (arith, fits))) ∙ m) ∙ onward_good 21 v 15 0 r z refl (omega arith) (λ e. let n = u e in omega arith)

    pub entry_good_lem : entry_read s r ≡ moved 10 (got s signed.at 10) signed
    entry_good_lem =
        let word = word_there s r.at fits in
        let sign = got s (r.at + 21) 1 in
        let v = got s (r.at + 21 + 1) 10 in
        ap (level_read s) time_good
        ∙ ap (λ (q : Walk). ranged s 10 true (least_of q.v) 1_023 4 q) (ranged_good s 1 0 1 known (lit≤ tt) (omega (arith, fits)) (omega arith) (omega arith) (omega (arith, got_lt s (r.at + 21) 1 refl)) refl (λ e. let n = u e in omega arith))
        ∙ ranged_good s 10 (least_of sign) 1_023 signed (lit≤ tt) (omega (arith, fits)) (omega arith) (least_good sign v (omega (arith, word, g))) (omega (arith, got_lt s (r.at + 21 + 1) 10 refl)) refl (λ e. let n = u e in omega arith)

  -- ---- many

  -- where the walk stands behind m entries
  record Behind (m : ℕ) (r q : Walk) : Type 0 where
    here : q.at ≡ r.at + m * entry_bits
    clear : q.code ≡ 0
    seeking : q.seek ≡ r.seek
    fewer : q.left ≡ r.left - m * 3
    found : q.found ≡ r.found
    spot : q.spot ≡ r.spot
    width : q.width ≡ r.width

  behind : (m : ℕ) (r : Walk) → r.code ≡ 0 → Behind m r (passed s m r)
  unfolding passed
  behind zero r z = record { here = omega arith; clear = z; seeking = refl; fewer = omega arith; found = refl; spot = refl; width = refl }
  behind (suc m) r z = record { here = refl; clear = refl; seeking = refl; fewer = refl; found = refl; spot = refl; width = refl }

  one_more : (m : ℕ) (r : Walk) → r.code ≡ 0 → r.at + suc m * entry_bits < 2 ^ 64 → Good (got s (r.at + m * entry_bits) 32) → Unsought (suc m * 3) r → entry_read s (passed s m r) ≡ passed s (suc m) r
  unfolding passed
  one_more m r z reach g u =
      let q = passed s m r in
      let b = behind m r z in
      let at : q.at + 21 + 1 + 10 ≡ r.at + suc m * entry_bits = omega (arith, b.here) in
      let value : q.at + 21 + 1 ≡ r.at + m * entry_bits + 22 = omega (arith, b.here) in
      let left : q.left - 1 - 1 - 1 ≡ r.left - suc m * 3 = omega (arith, b.fewer) in
      entry_good_lem q b.clear (omega (arith, b.here)) (subst⁻¹ (λ p. Good (got s p 32)) b.here g) (λ e. let n = u (sym b.seeking ∙ e) in omega (arith, b.fewer))
      ∙ (λ i. record { at = at i; code = 0; offset = 0; v = got s (value i) 10; seek = b.seeking i; left = left i; found = b.found i; spot = b.spot i; width = b.width i })

  -- m good entries, and k behind them
  pub all_passed : (next : Walk → Walk) (m k : ℕ) (r : Walk) → r.code ≡ 0 → r.at + m * entry_bits < 2 ^ 64 → AllGood s r.at m → Unsought (m * 3) r
      → repeat_walked (m + k) (entry_step s) next r ≡ repeat_walked k (entry_step s) next (passed s m r)
  unfolding passed
  all_passed next zero k r z reach g u = ap (λ n. repeat_walked n (entry_step s) next r) (zero-add k)
  all_passed next (suc m) k r z reach g u =
      let same : suc m + k ≡ m + suc k = omega arith in
      let q = passed s (suc m) r in
      ap (λ n. repeat_walked n (entry_step s) next r) same
      ∙ all_passed next m (suc k) r z (omega arith) (λ i l. g i (omega arith)) (λ e. let n = u e in omega arith)
      ∙ entry_turn s next k (passed s m r) refl (sym (one_more m r z reach (g m (omega arith)) u))

  -- the same as the code makes it
  pub passed_as : (m : ℕ) (r : Walk) {v left : ℕ} {seek : Bool} → 1 ≤ m → v ≡ got s (r.at + m * entry_bits - 10) 10 → seek ≡ r.seek → left ≡ r.left - m * 3
      → record { at = r.at + m * entry_bits; code = 0; offset = 0; v = v; seek = seek; left = left; found = r.found; spot = r.spot; width = r.width } ≡ passed s m r
  unfolding passed
  passed_as zero r l x k y = absurd (omega arith)
  passed_as (suc m) r l x k y =
      let last : r.at + suc m * entry_bits - 10 ≡ r.at + m * entry_bits + 22 = omega arith in
      λ i. record { at = r.at + suc m * entry_bits; code = 0; offset = 0; v = (x ∙ ap (λ p. got s p 10) last) i; seek = k i; left = y i; found = r.found; spot = r.spot; width = r.width }

  pub run_passes : (n m : ℕ) (r : Walk) {q : Walk} → 1 ≤ m → m ≤ n → r.code ≡ 0 → r.at + m * entry_bits < 2 ^ 64 → AllGood s r.at m → Unsought (m * 3) r → q ≡ passed s m r → Passes s n r (record { walk = q; count = m })
  run_passes n m r {q} some few z reach g u e = (
    some,
    few,
    λ next. ap (λ n. repeat_walked n (entry_step s) next r) (omega arith) ∙ all_passed next m (n - m) r z reach g u ∙ ap (repeat_walked (n - m) (entry_step s) next) (sym e)
        ∙ sym (ap (λ b. cond b (repeat_walked (n - m) (entry_step s) next q) q) (eq-eqb q.code 0 (ap (λ (q : Walk). q.code) e ∙ (behind m r z).clear))),
  )

  -- one good entry more
  pub good_more : (at j : ℕ) {v : ℕ} → AllGood s at j → at + j * entry_bits + 32 ≤ length s * 8 → v ≡ word_at s (at + j * entry_bits) → Good v → AllGood s at (j + 1)
  good_more at j a there e g i l = go (ltb i j) refl
    where
      go : (x : Bool) → ltb i j ≡ x → Good (got s (at + i * entry_bits) 32)
      go true t = a i (ltb-true i j t)
      go false t = let is : j ≡ i = omega (arith, ltb-false i j t) in subst (λ v. Good v) (e ∙ sym (word_there s (at + j * entry_bits) there) ∙ ap (λ i. got s (at + i * entry_bits) 32) is) g
