-- Runs of bytes that start at any bit, taken out and put in: a run's bits are a part of the message's bits. Assumes nothing.
use Rattle.std.specs.Prelude.{List, ◌++◌, ◌≡◌, ℕ, ◌+◌, ◌*◌, ◌^◌, ◌≤◌, ◌<◌, take}
use Rattle.std.proofs.Common.{sym, ◌∙◌, arith, length-append, take_at, drop_at}
use Rattle.std.proofs.Math.Path.{ap}
use Rattle.std.proofs.Math.ListN.{length, drop, length-drop}
use Rattle.bits.specs.Bits.{Bytes, value_of, bits_of, field_at, bytes_at, put_bytes_at}
use Rattle.bits.specs.Laws.Digits.{value_lt}
use Rattle.bits.specs.Laws.Bytes.{length_bits, length_bytes, bytes_below, bytes_drop, bits_pack, bits_bytes, bytes_front, bits_same}
use Rattle.bits.specs.Laws.Fields.{length_before, bits_drop}

-- ---- taken out

module _ (s : List ℕ) (at n : ℕ) where
  pub length_run : length (bytes_at s at n) ≡ n
  unfolding bytes_at
  length_run = length_bytes n (drop at (bits_of s))

  pub bytes_run : Bytes (bytes_at s at n)
  unfolding bytes_at
  bytes_run = bytes_below n (drop at (bits_of s))

  module _ (fits : at + n * 8 ≤ length s * 8) where
    pub bits_run : bits_of (bytes_at s at n) ≡ take (n * 8) (drop at (bits_of s))
    unfolding bytes_at
    bits_run = bits_pack n (drop at (bits_of s)) (simp (length-drop, length_bits) (omega arith))

    -- a field as wide as a run has the run's value
    pub run_value : field_at s at (n * 8) ≡ value_of (bits_of (bytes_at s at n))
    unfolding field_at
    run_value = ap value_of (sym bits_run)

-- a run that starts with a byte
pub run_whole : (s : List ℕ) (i n : ℕ) → Bytes s → i + n ≤ length s → bytes_at s (i * 8) n ≡ take n (drop i s)
unfolding bytes_at
run_whole s i n bytes fits =
    let here : Bytes (drop i s) = bytes_drop i s bytes in
    rw (← bits_drop i s (omega arith)) (bytes_front n (drop i s) here (simp length-drop (omega arith)))

-- ---- put in

module _ (s : List ℕ) (at : ℕ) (t : List ℕ) where
  pub length_put_run : length (put_bytes_at s at t) ≡ length s
  unfolding put_bytes_at
  length_put_run = length_bytes (length s) _

  pub bytes_put_run : Bytes (put_bytes_at s at t)
  unfolding put_bytes_at
  bytes_put_run = bytes_below (length s) _

  module _ (fits : at + length t * 8 ≤ length s * 8) where
    -- the run's bits are replaced, and no other
    pub bits_put_run : bits_of (put_bytes_at s at t) ≡ take at (bits_of s) ++ (bits_of t ++ drop (at + length t * 8) (bits_of s))
    unfolding put_bytes_at
    bits_put_run =
        bits_bytes (length s) (take at (bits_of s) ++ (bits_of t ++ drop (at + length t * 8) (bits_of s)))
        (simp (length-append, length_before s at (length t * 8) fits, length-drop, length_bits) (omega arith))

    -- what was put in is taken out again
    pub run_put : Bytes t → bytes_at (put_bytes_at s at t) at (length t) ≡ t
    run_put h =
        bits_same (bytes_at (put_bytes_at s at t) at (length t)) t (bytes_run (put_bytes_at s at t) at (length t)) h (length_run (put_bytes_at s at t) at (length t))
        (bits_run (put_bytes_at s at t) at (length t) (rw length_put_run fits)
        ∙ rw (
          bits_put_run,
          drop_at (take at (bits_of s)) (bits_of t ++ drop (at + length t * 8) (bits_of s)) at (length_before s at (length t * 8) fits),
          take_at (bits_of t) (drop (at + length t * 8) (bits_of s)) (length t * 8) (length_bits t),
        ))

    -- what has the bits that a run put in leaves is what it leaves
    pub put_run_is : (x : List ℕ) → Bytes x → bits_of x ≡ take at (bits_of s) ++ (bits_of t ++ drop (at + length t * 8) (bits_of s)) → x ≡ put_bytes_at s at t
    put_run_is x h e =
        let same : bits_of x ≡ bits_of (put_bytes_at s at t) = e ∙ sym bits_put_run in
        bits_same x (put_bytes_at s at t) h bytes_put_run (omega (arith, ap length same, length_bits x, length_bits (put_bytes_at s at t))) same

-- ---- as a number

pub bytes_value_lt : (t : List ℕ) → value_of (bits_of t) < 2 ^ (length t * 8)
bytes_value_lt t = rw length_bits at (value_lt (bits_of t))
