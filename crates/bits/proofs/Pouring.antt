-- What `pour` makes of its three parts: the end of one byte, whole bytes, and the start of one, each put in right behind the one before.
use mathlib.Core.Bool.{Bool, cond}
use mathlib.Core.List.{List, [], ◌∷◌, ◌++◌, append_assoc, append-nil}
use mathlib.Core.Path.{◌≡◌, sym, ap, ◌∙◌}
use Prim.Native.Nat.{ℕ, ◌+◌, ◌*◌, ◌-◌, ◌/◌, ◌%◌, ◌≤◌, ◌<◌}
use native.Mathlib.Nat.{add-zero, zero-add}
use native.Mathlib.Omega.{arith}
use lib.ListN.{length, take, drop, length-append, length-take, length-drop, take-append-drop, drop_of_length-le}
use lib.Seq.{take_at, drop_at, take_all, take-add, drop-drop, length-take-le}
use Rattle.bits.specs.Bits.{Bytes, bits_of, field_at, put_at, bytes_at, put_bytes_at}
use Rattle.bits.specs.Answers.{got, puttable}
use Rattle.bits.specs.Laws.Answers.{got_fits, put_done}
use Rattle.bits.specs.Laws.Digits.{bits_nil}
use Rattle.bits.specs.Laws.Bytes.{length_bits, bits_append}
use Rattle.bits.specs.Laws.Fields.{field_bits, field_lt, length_put, bits_put, bits_take, bits_drop}
use Rattle.bits.specs.Laws.Runs.{length_run, bits_run, put_run_is}

-- what a call of `bits::put` with the result r, that left x, promises
abbrev Put : List ℕ → ℕ → ℕ → ℕ → Bool → List ℕ → Type 0
Put s at w v r x = (r ≡ puttable s at w v) × (x ≡ cond r (put_at s at w v) s)

-- the bits b, with those from `at` on made l
abbrev over : ℕ → List Bool → List Bool → List Bool
over at l b = take at b ++ (l ++ drop (at + length l) b)

over_over : (at : ℕ) (l m b : List Bool) (p : ℕ) → p ≡ at + length l → p ≤ length b → over p m (over at l b) ≡ over at (l ++ m) b
over_over at l m b p e h =
    let start : length (take at b ++ l) ≡ p = simp (length-append, length-take-le at b (omega arith)) (sym e) in
    let end : at + length (l ++ m) ≡ p + length m = omega (arith, length-append l m) in
    rw (
      ← append_assoc (take at b) l (drop (at + length l) b),
      take_at (take at b ++ l) (drop (at + length l) b) p start,
      ← drop-drop (length m) p (take at b ++ l ++ drop (at + length l) b),
      drop_at (take at b ++ l) (drop (at + length l) b) p start,
      ← e,
      drop-drop (length m) p b,
      end,
    ) (simp append_assoc)

-- a field of t, put into s
bits_copied : (s : List ℕ) (at w : ℕ) (t : List ℕ) (from : ℕ) → at + w ≤ length s * 8 → from + w ≤ length t * 8
    → bits_of (put_at s at w (field_at t from w)) ≡ over at (take w (drop from (bits_of t))) (bits_of s)
bits_copied s at w t from fits there =
    bits_put s at w fits (field_at t from w)
    ∙ rw (← field_bits t from w there, length-take-le w (drop from (bits_of t)) (simp (length-drop, length_bits) (omega arith)))

-- a run of bytes of t, put into s from its byte k on
bits_slid : (s : List ℕ) (k : ℕ) (t : List ℕ) (from n : ℕ) → k + n ≤ length s → from + n * 8 ≤ length t * 8
    → bits_of (take k s ++ (bytes_at t from n ++ drop (k + n) s)) ≡ over (k * 8) (take (n * 8) (drop from (bits_of t))) (bits_of s)
bits_slid s k t from n fits there =
    let e : (k + n) * 8 ≡ k * 8 + n * 8 = omega arith in
    rw (
      bits_append (take k s) (bytes_at t from n ++ drop (k + n) s),
      bits_append (bytes_at t from n) (drop (k + n) s),
      bits_take k s (omega arith),
      bits_run t from n there,
      bits_drop (k + n) s fits,
      e,
      length-take-le (n * 8) (drop from (bits_of t)) (simp (length-drop, length_bits) (omega arith)),
    )

-- what is lent as `s[k..]`
all_after : (k : ℕ) (s : List ℕ) → take (length s - k) (drop k s) ≡ drop k s
all_after k s = take_all (length s - k) (drop k s) (omega (arith, length-drop k s))

none_after : (k : ℕ) (s : List ℕ) → drop (length s - k) (drop k s) ≡ []
none_after k s = drop_of_length-le (drop k s) {i = length s - k} (omega (arith, length-drop k s))

-- a field of t from its byte j on, put in where byte k of s starts
bits_ended : (s : List ℕ) (k w : ℕ) (t : List ℕ) (j from : ℕ) → k ≤ length s → w ≤ (length s - k) * 8 → j ≤ length t → from + w ≤ (length t - j) * 8
    → bits_of (take k s ++ (put_at (take (length s - k) (drop k s)) 0 w (field_at (take (length t - j) (drop j t)) from w) ++ drop (length s - k) (drop k s)))
    ≡ over (k * 8) (take w (drop (j * 8 + from) (bits_of t))) (bits_of s)
bits_ended s k w t j from hs fits ht there =
    rw (
      none_after k s,
      all_after k s,
      all_after j t,
      append-nil,
      bits_append (take k s) (put_at (drop k s) 0 w (field_at (drop j t) from w)),
      bits_take k s hs,
      bits_copied (drop k s) 0 w (drop j t) from (simp length-drop (omega arith)) (simp length-drop (omega arith)),
      bits_drop k s hs,
      bits_drop j t ht,
      drop-drop from (j * 8) (bits_of t),
    )
    (rw (zero-add, drop-drop))

-- the three parts, each right behind the one before, are all of t
module _ (s : List ℕ) (at : ℕ) (t : List ℕ) (some : 0 < length t) (fits : at + length t * 8 ≤ length s * 8) where
  abbrev first : ℕ
  first = 8 - at % 8

  abbrev whole : ℕ
  whole = length t - 1

  abbrev begin : ℕ
  begin = at / 8 + 1

  abbrev end : ℕ
  end = begin + whole

  -- s, with the bytes x put in where the whole bytes stand
  abbrev filled : List ℕ → List ℕ → List ℕ
  filled s x = take begin s ++ (x ++ drop (end - begin) (drop begin s))

  slid : (s1 x : List ℕ) → length s1 ≡ length s → x ≡ bytes_at t first (length (take (end - begin) (drop begin s1)))
      → filled s1 x ≡ take begin s1 ++ (bytes_at t first whole ++ drop (begin + whole) s1)
  slid s1 x here e =
      let n : end - begin ≡ whole = omega arith in
      let count : length (take whole (drop begin s1)) ≡ whole = simp (length-take, length-drop) (omega arith) in
      rw (e, n, count, drop-drop whole begin s1)

  abbrev start : List Bool
  start = take first (bits_of t)

  abbrev middle : List Bool
  middle = take (whole * 8) (drop first (bits_of t))

  abbrev rest : List Bool
  rest = take (at % 8) (drop (whole * 8 + first) (bits_of t))

  parts : start ++ middle ++ rest ≡ bits_of t
  parts =
      let e : whole * 8 + first ≡ first + whole * 8 = omega arith in
      rw (e, ← take-add first (whole * 8) (bits_of t), ← take-add (first + whole * 8) (at % 8) (bits_of t))
      (take_all (first + whole * 8 + at % 8) (bits_of t) (omega (arith, length_bits t)))

  pub poured : (u v : ℕ) (b1 b2 : Bool) (s1 x1 x : List ℕ)
      → u ≡ got t 0 first
      → Put s at first u b1 s1
      → x1 ≡ bytes_at t first (length (take (end - begin) (drop begin s1)))
      → v ≡ got (take (length t - whole) (drop whole t)) first (at % 8)
      → let s2 = filled s1 x1 in
      Put (take (length s2 - end) (drop end s2)) 0 (at % 8) v b2 x
      → Bytes (take end s2 ++ (x ++ drop (length s2 - end) (drop end s2)))
      → take end s2 ++ (x ++ drop (length s2 - end) (drop end s2)) ≡ put_bytes_at s at t
  poured u v b1 b2 s1 x1 x get1 put1 slid1 get2 put2 bytes =
      let s2 = filled s1 x1 in
      let last = take (length t - whole) (drop whole t) in
      let tail = take (length s2 - end) (drop end s2) in
      let read1 = get1 ∙ got_fits t 0 first (omega arith) (omega arith) in
      let e1 = (put_done s at first u b1 s1 put1 (omega arith) (omega arith) (omega (arith, read1, field_lt t 0 first))).1 in
      let here : length s1 ≡ length s = ap length e1 ∙ length_put s at first u in
      let e2 = slid s1 x1 here slid1 in
      let long : length s2 ≡ length s = ap length e2 ∙ simp (length-append, length_run, length-take, length-drop) (omega arith) in
      let read2 = get2 ∙ got_fits last first (at % 8) (omega arith) (simp (length-take, length-drop) (omega arith)) in
      let e3 =
      (put_done tail 0 (at % 8) v b2 x put2 (omega arith) (simp (length-take, length-drop) (omega arith)) (omega (arith, read2, field_lt last first (at % 8)))).1
      in
      put_run_is s at t fits (take end s2 ++ (x ++ drop (length s2 - end) (drop end s2))) bytes
      (rw (e3, read2, bits_ended s2 end (at % 8) t whole first (omega arith) (omega arith) (omega arith) (omega arith))
      (rw (
        ap bits_of e2 ∙ bits_slid s1 begin t first whole (omega arith) (omega arith),
        ap bits_of (e1 ∙ ap (put_at s at first) read1) ∙ bits_copied s at first t 0 (omega arith) (omega arith),
        over_over at start middle (bits_of s) (begin * 8) (simp (length-take, length_bits) (omega arith)) (simp length_bits (omega arith)),
        over_over at (start ++ middle) rest (bits_of s) (end * 8) (simp (length-append, length-take, length-drop, length_bits) (omega arith)) (simp length_bits (omega arith)),
        parts,
        length_bits t,
      )))

-- where there is nothing to pour
pub poured_none : (s : List ℕ) (at : ℕ) (t : List ℕ) → Bytes s → length t ≡ 0 → at + length t * 8 ≤ length s * 8 → s ≡ put_bytes_at s at t
poured_none s at [] bytes none fits = put_run_is s at [] fits s bytes (sym (rw (bits_nil, add-zero at) (take-append-drop at (bits_of s))))
poured_none s at (b ∷ t) bytes none fits = absurd (omega arith)
