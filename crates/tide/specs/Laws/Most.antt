-- No telegram that reading accepts has more than 234 numbers in its row, nor more than 51 levels: by the bits that each record takes, of the 1,659 that 210 bytes have behind the head. So rows of that length are never too short. Assumes nothing.
use Prim.Native.Nat.{ℕ, zero, suc, ◌+◌, ◌*◌, ◌≤◌}
use Rattle.std.specs.Prelude.{◌≡◌, refl, Bool, cond, eqb, ℤ, drop, get_or, Result}
use Rattle.std.proofs.Common.{sym, ap, ◌∙◌, subst, le-leb}
use Rattle.std.proofs.Math.Path.{ap₂}
use Rattle.std.proofs.Math.Bool.{true, false}
use mathlib.Core.List.{List, [], ◌∷◌, ◌++◌}
use native.Mathlib.Omega.{arith}
use Rattle.std.proofs.Math.ListN.{length, length-append}
use Rattle.bits.specs.Bits.{Bytes, bits_of}
use Rattle.bits.specs.Laws.Bytes.{length_bits}
use Rattle.format.specs.Codes.{codes, headed}
use Rattle.format.specs.Fmt.{Out, accepted, refused, Fmt, end, also}
use Rattle.format.specs.Groups.{repeat, counted, repeat_told}
use Rattle.format.specs.Message.{into, leaves}
use Rattle.format.specs.Promises.{out_of, plain, read_record}
use Rattle.format.specs.Words.{◌‥◌, num, wide}
use Rattle.format.specs.Laws.Extent.{extent}
use Rattle.format.proofs.Laws.Extent.{extent_laid}
use Rattle.format.proofs.Laws.Family.{read_values}
use Rattle.format.specs.Laws.Groups.{even, told_long}
use Rattle.format.specs.Laws.Legal.{Legal, passed, ranged}
use Rattle.format.proofs.Laws.Round.{read_write}
use Rattle.format.proofs.Laws.Whole.{was, within_sizes}
use Rattle.notice_fields.specs.Terms.{point}
use Rattle.tide.specs.Heights.{entry_of, entries_of, heights_of}
use Rattle.tide.specs.HeightsPromises.{heights_in, heights_read, Shows}
use Rattle.tide.specs.Limits.{most_numbers, most_heights}
use Rattle.tide.specs.Promises.{housed, told_of, Reads}
use Rattle.tide.specs.Record.{Whole, values_of, record_of}
use Rattle.tide.specs.Tide.{placed, entry, tide_record, tides}
use Rattle.tide.specs.declared.reading.Told.{Told}
use Rattle.format.specs.declared.Refusal.{Refusal}
use Rattle.tide.specs.Laws.Demands.{row_is, family}
use Rattle.tide.specs.Laws.OneForm.{read_legal}
use Rattle.tide.specs.Laws.Sound.{sound}

-- ---- n entries, and what follows them

record Behind (n : ℕ) (f : Fmt) (vs : List ℕ) : Type 0 where
  before : List ℕ
  fine : Legal f before (drop (n * 3) vs)
  long : length vs ≡ n * 3 + length (drop (n * 3) vs)
  bits : (at : ℕ) → (to : ℕ) × (extent (repeat n entry f) at vs ≡ n * 32 + extent f to (drop (n * 3) vs))

entries_behind : (n : ℕ) (f : Fmt) (h vs : List ℕ) → Legal (repeat n entry f) h vs → Behind n f vs
unfolding repeat wide
entries_behind zero f h vs x = record { before = h; fine = x; long = omega arith; bits = λ at. (at, omega arith) }
entries_behind (suc n) f h [] x = absurd x
entries_behind (suc n) f h (t ∷ []) x = absurd x.2
entries_behind (suc n) f h (t ∷ s ∷ []) x = absurd x.2.2
entries_behind (suc n) f h (t ∷ s ∷ v ∷ vs) x =
    let y = entries_behind n f (v ∷ s ∷ t ∷ h) vs x.2.2.2 in
    let three : suc n * 3 ≡ suc (suc (suc (n * 3))) = omega arith in
    let same : drop (suc n * 3) (t ∷ s ∷ v ∷ vs) ≡ drop (n * 3) vs = ap (λ m. drop m (t ∷ s ∷ v ∷ vs)) three in
    record {
      before = y.before;
      fine = subst (Legal f y.before) (sym same) y.fine;
      long = omega (arith, y.long, ap length same);
      bits = λ at. let (to, e) = y.bits (at + 21 + 1 + 10) in (to, omega (arith, e, ap (extent f to) same));
    }

-- ---- n records: a port's takes 17 bits and 4 numbers, a point's 54 and 5, and each entry, of which it has one at least, 32 and 3

-- so 32 times the numbers are no more than 3 times the bits and 77 for each record
abbrev Within : (n numbers levels bits : ℕ) → Type 0
Within n numbers levels bits = (32 * numbers ≤ 3 * bits + 77 * n) × (n ≤ levels) × (17 * n + 32 * levels ≤ bits)

-- the forecast mark, a count and its entries, and what follows them
abbrev marked : Fmt → Fmt
marked f = num 1 (0 ‥ 1) (counted 9 (1 ‥ 511) entry f)

-- one level for each entry
levels : (n : ℕ) (row : List ℕ) → length (entries_of n row) ≡ n
levels n row = told_long (λ r. 3) n entry_of row ∙ even 3 1 n row ∙ omega arith

-- a record in front of n others, by whether its position type p is 0
module _ (n p : ℕ) where
  abbrev others : Fmt
  others = repeat n tide_record end

  abbrev levels_of : Bool → List ℕ → List ℤ
  levels_of b us =
      let at = 1 + cond b 1 2 in
      let r = drop 1 (drop at (p ∷ us)) in
      entries_of (get_or r 0 0) (drop 1 r) ++ heights_of n (drop (at + (1 + (1 + get_or r 0 1 * 3))) (p ∷ us))

  module _ (rest : (h vs : List ℕ) (at : ℕ) → Legal others h vs → Within n (length vs) (length (heights_of n vs)) (extent others at vs)) where
    record_within : (b : Bool) (h us : List ℕ) (at : ℕ) → Legal (cond b (num 6 (0 ‥ 63) (marked others)) (point (marked others))) h us
        → Within (suc n) (suc (length us)) (length (levels_of b us)) (1 + extent (cond b (num 6 (0 ‥ 63) (marked others)) (point (marked others))) at us)
    unfolding wide
    record_within true h [] at x = absurd x
    record_within true h (k ∷ []) at x = absurd x.2
    record_within true h (k ∷ m ∷ []) at x = absurd x.2.2
    record_within true h (k ∷ m ∷ c ∷ vs) at x =
        let y = x.2.2 in
        let some = (ranged 1 511 c (passed 9 3 (1 ‥ 511) (m ∷ k ∷ h) c y.0 y.1)).0 in
        let z = entries_behind c others (c ∷ m ∷ k ∷ h) vs y.2 in
        let (to, wide) = z.bits (at + 6 + 1 + 9) in
        let (numbers, few, bits) = rest z.before (drop (c * 3) vs) to z.fine in
        let four : 2 + (1 + (1 + c * 3)) ≡ suc (suc (suc (suc (c * 3)))) = omega arith in
        let shown : length (levels_of true (k ∷ m ∷ c ∷ vs)) ≡ c + length (heights_of n (drop (c * 3) vs)) =
        length-append (entries_of c vs) _ ∙ ap₂ ◌+◌ (levels c vs) (ap (λ i. length (heights_of n (drop i (p ∷ k ∷ m ∷ c ∷ vs)))) four) in
        (omega (arith, numbers, wide, z.long), omega (arith, few, some, shown), omega (arith, bits, wide, shown))
    record_within false h [] at x = absurd x
    record_within false h (k ∷ []) at x = absurd x.2
    record_within false h (k ∷ l ∷ []) at x = absurd x.2.2
    record_within false h (k ∷ l ∷ m ∷ []) at x = absurd x.2.2.2
    record_within false h (k ∷ l ∷ m ∷ c ∷ vs) at x =
        let y = x.2.2.2 in
        let some = (ranged 1 511 c (passed 9 3 (1 ‥ 511) (m ∷ l ∷ k ∷ h) c y.0 y.1)).0 in
        let z = entries_behind c others (c ∷ m ∷ l ∷ k ∷ h) vs y.2 in
        let (to, wide) = z.bits (at + 21 + 22 + 1 + 9) in
        let (numbers, few, bits) = rest z.before (drop (c * 3) vs) to z.fine in
        let five : 3 + (1 + (1 + c * 3)) ≡ suc (suc (suc (suc (suc (c * 3))))) = omega arith in
        let shown : length (levels_of false (k ∷ l ∷ m ∷ c ∷ vs)) ≡ c + length (heights_of n (drop (c * 3) vs)) =
        length-append (entries_of c vs) _ ∙ ap₂ ◌+◌ (levels c vs) (ap (λ i. length (heights_of n (drop i (p ∷ k ∷ l ∷ m ∷ c ∷ vs)))) five) in
        (omega (arith, numbers, wide, z.long), omega (arith, few, some, shown), omega (arith, bits, wide, shown))

records_within : (n : ℕ) (h vs : List ℕ) (at : ℕ) → Legal (repeat n tide_record end) h vs → Within n (length vs) (length (heights_of n vs)) (extent (repeat n tide_record end) at vs)
unfolding repeat placed repeat_told
records_within zero h [] at x = (omega arith, omega arith, omega arith)
records_within zero h (v ∷ vs) at x = absurd x
records_within (suc n) h [] at x = absurd x
records_within (suc n) h (p ∷ us) at x = record_within n p (λ h vs at x. records_within n h vs at x) (eqb p 0) (p ∷ h) us (at + 1) x.2

-- ---- telegrams

-- the head and the records have no more bits than 210 bytes
read_bits : (s : List ℕ) (x : Whole) → Bytes s → read_record tides record_of s ≡ accepted x → 21 + extent (repeat x.0.count tide_record end) 21 x.1 ≤ 1_680
unfolding tides headed codes values_of
read_bits s x fine e =
    let (m, lent) = read_values family s x fine e in
    let w = was tides s (values_of x) m in
    let most = (within_sizes tides sound s (values_of x) w).1 in
    let laid = extent_laid tides.fmt [] 0 (values_of x) (bits_of s) (read_write tides.fmt [] 0 (values_of x) (bits_of s) w.walked) in
    omega (arith, most, laid, length_bits s, ap (extent (repeat x.0.count tide_record end) 21) (row_is x lent))

module _ (s : List ℕ) (x : Whole) (fine : Bytes s) (e : read_record tides record_of s ≡ accepted x) where
  within : Within x.0.count (length x.1) (length (heights_in x)) (extent (repeat x.0.count tide_record end) 21 x.1)
  within = records_within x.0.count _ x.1 21 (read_legal s x fine e)

  -- at most 33 records, and so 234 numbers,
  pub most_numbers_lem : length x.1 ≤ most_numbers
  most_numbers_lem = let (numbers, few, bits) = within in omega (arith, numbers, few, bits, read_bits s x fine e)

  -- and 51 levels
  pub most_levels_lem : length (heights_in x) ≤ most_heights
  most_levels_lem = let (numbers, few, bits) = within in omega (arith, bits, read_bits s x fine e)

-- ---- said of the calls: the answer is reading's own, and never for want of room

module _ (s : List ℕ) (fine : Bytes s) where
  pub room_enough : (row : List ℕ) (a : Result Told Refusal) (row' : List ℕ) → Reads s row a row' → most_numbers ≤ length row → out_of a ≡ plain (also told_of (read_record tides record_of s))
  room_enough row a row' e room = e.0 ∙ ap (λ o. plain (also told_of o)) (go (read_record tides record_of s) refl)
    where
      go : (o : Out Whole) → read_record tides record_of s ≡ o → housed (length row) o ≡ o
      go (accepted x) m = rw (le-leb (length x.1) (length row) (omega (arith, most_numbers_lem s x fine m, room))) refl
      go (refused c p) m = refl

  pub room_enough_heights : (row : List ℤ) (a : Result ℕ Refusal) (t : List ℤ) → Shows s row a t → most_heights ≤ length row → out_of a ≡ plain (also length (heights_read s))
  room_enough_heights row a t e room = e.0 ∙ ap plain (go (read_record tides record_of s) refl)
    where
      go : (o : Out Whole) → read_record tides record_of s ≡ o → also (λ t. length (leaves (also heights_in o) [])) (into row (also heights_in o)) ≡ also length (also heights_in o)
      go (accepted x) m = rw (le-leb (length (heights_in x)) (length row) (omega (arith, most_levels_lem s x fine m, room))) refl
      go (refused c p) m = refl
