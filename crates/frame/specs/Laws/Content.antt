-- Content of a bit length and its fill, as whole bytes: two values spell them, and they spell the two values. Assumes nothing.
use Rattle.std.specs.Prelude.{◌≡◌, refl, Bool, true, false, cond, List, ◌++◌, ℕ, ◌+◌, ◌-◌, ◌*◌, ◌≤◌, ◌<◌, ◌^◌, leb, ltb, length, take, drop}
use Rattle.std.proofs.Common.{sym, ap₂, ◌∙◌, arith, length-append, length-drop, drop_of_length-le, length-take-le, take_all, take_at, drop_at, take-add, take-take, drop-drop, le-leb, leb-true, leb-false, lt-ltb, ltb-true}
use Rattle.std.proofs.Math.Path.{ap}
use Rattle.std.proofs.Math.Seq.{take-nil}
use Rattle.std.proofs.lemmas.Bool.{lt-leb}
use Rattle.bits.specs.Answers.{got}
use Rattle.bits.specs.Bits.{Bytes, value_of, digits, bits_of, bytes_of, field_at}
use Rattle.bits.specs.Laws.Answers.{got_fits}
use Rattle.bits.specs.Laws.Bytes.{length_bits, length_bytes, bits_bytes, bits_same, bytes_bits, bytes_below, bytes_take, bytes_drop}
use Rattle.bits.specs.Laws.Digits.{length_digits, value_nil, value_digits, digits_value}
use Rattle.bits.specs.Laws.Fields.{bits_take, bits_drop}
use Rattle.format.specs.Fmt.{pad}
use Rattle.frame.specs.Frame.{declared, bytes_for, content_of}

-- the fill makes whole bytes
pub padded : (l : ℕ) → l + pad l ≡ bytes_for l * 8
padded l = omega arith

-- of any bits: the first l, then the fill
two_parts : (l : ℕ) (b : List Bool) → l + pad l ≤ length b → digits l (value_of (take l b)) ++ digits (pad l) (value_of (take (pad l) (drop l b))) ≡ take (l + pad l) b
two_parts l b h =
    ap₂ ◌++◌ (digits_value l (take l b) (length-take-le l b (omega arith))) (digits_value (pad l) (take (pad l) (drop l b)) (length-take-le (pad l) (drop l b) (omega (arith, length-drop l b))))
    ∙ sym (take-add l (pad l) b)

-- the bits of content of the right size are those of its two values
pub content_bits : (c : List ℕ) (l : ℕ) → length c ≡ bytes_for l → digits l (field_at c 0 l) ++ digits (pad l) (field_at c l (pad l)) ≡ bits_of c
unfolding field_at
content_bits c l n =
    let k : length (bits_of c) ≡ l + pad l = length_bits c ∙ ap (◌* 8) n ∙ sym (padded l) in
    two_parts l (bits_of c) (omega (arith, k)) ∙ take_all (l + pad l) (bits_of c) (omega (arith, k))

-- content is that of its values
pub content_again : (c : List ℕ) (l : ℕ) → Bytes c → length c ≡ bytes_for l → content_of l (field_at c 0 l) (field_at c l (pad l)) ≡ c
unfolding content_of
content_again c l fine n = ap₂ bytes_of (sym n) (content_bits c l n) ∙ bytes_bits c fine

module _ (l v x : ℕ) (narrow : v < 2 ^ l) (slim : x < 2 ^ pad l) where
  spelled : bits_of (content_of l v x) ≡ digits l v ++ digits (pad l) x
  unfolding content_of
  spelled = bits_bytes (bytes_for l) (digits l v ++ digits (pad l) x) (length-append (digits l v) (digits (pad l) x) ∙ omega (arith, length_digits l v, length_digits (pad l) x, padded l))

  -- the values are those of their content
  pub content_first : field_at (content_of l v x) 0 l ≡ v
  unfolding field_at
  content_first = ap (λ b. value_of (take l b)) spelled ∙ ap value_of (take_at (digits l v) (digits (pad l) x) l (length_digits l v)) ∙ value_digits l narrow

  pub content_fill : field_at (content_of l v x) l (pad l) ≡ x
  unfolding field_at
  content_fill =
      ap (λ b. value_of (take (pad l) (drop l b))) spelled
      ∙ ap (λ b. value_of (take (pad l) b)) (drop_at (digits l v) (digits (pad l) x) l (length_digits l v))
      ∙ ap value_of (take_all (pad l) (digits (pad l) x) (omega (arith, length_digits (pad l) x)))
      ∙ value_digits (pad l) slim

pub content_long : (l v x : ℕ) → length (content_of l v x) ≡ bytes_for l
unfolding content_of
content_long l v x = length_bytes (bytes_for l) (digits l v ++ digits (pad l) x)

pub content_bytes : (l v x : ℕ) → Bytes (content_of l v x)
unfolding content_of
content_bytes l v x = bytes_below (bytes_for l) (digits l v ++ digits (pad l) x)

-- the fill of content is got, or there is none
pub got_fill : (c : List ℕ) (l : ℕ) → got c l (pad l) ≡ field_at c l (pad l)
unfolding field_at
got_fill c l = go (leb l (length c * 8)) refl
  where
    past : length c * 8 < l → field_at c l (pad l) ≡ 0
    past h = rw (drop_of_length-le (bits_of c) {i = l} (omega (arith, length_bits c)), take-nil (pad l)) value_nil

    go : (t : Bool) → leb l (length c * 8) ≡ t → got c l (pad l) ≡ field_at c l (pad l)
    go true e = let h = leb-true l (length c * 8) e in got_fits c l (pad l) (omega arith) (omega arith)
    go false e = let h = leb-false l (length c * 8) e in rw (le-leb (pad l) 32 (omega arith), lt-leb (l + pad l) (length c * 8) (omega arith)) (sym (past h))

-- content that stands from byte i of s on is those bytes of s
pub content_shown : (s : List ℕ) (i l v x : ℕ) → Bytes s → i ≤ length s → v ≡ value_of (take l (drop (i * 8) (bits_of s))) → x ≡ value_of (take (pad l) (drop (i * 8 + l) (bits_of s)))
    → i + bytes_for l ≤ length s → content_of l v x ≡ take (bytes_for l) (drop i s)
unfolding content_of
content_shown s i l v x fine small is fill room =
    let b = drop (i * 8) (bits_of s) in
    let n : length b ≡ (length s - i) * 8 = length-drop (i * 8) (bits_of s) ∙ omega (arith, length_bits s) in
    let m : length (take (bytes_for l) (drop i s)) ≡ bytes_for l = length-take-le (bytes_for l) (drop i s) (omega (arith, length-drop i s)) in
    let whole : digits l v ++ digits (pad l) x ≡ take (bytes_for l * 8) b =
    ap₂ (λ v x. digits l v ++ digits (pad l) x) is (fill ∙ ap (λ b. value_of (take (pad l) b)) (sym (drop-drop l (i * 8) (bits_of s))))
    ∙ two_parts l b (omega (arith, n, padded l)) ∙ ap (λ k. take k b) (padded l) in
    let long : length (digits l v ++ digits (pad l) x) ≡ bytes_for l * 8 = ap length whole ∙ length-take-le (bytes_for l * 8) b (omega (arith, n)) in
    bits_same (bytes_of (bytes_for l) (digits l v ++ digits (pad l) x)) (take (bytes_for l) (drop i s)) (bytes_below (bytes_for l) _) (bytes_take (bytes_for l) (drop i s) (bytes_drop i s fine)) (length_bytes (bytes_for l) _ ∙ sym m)
    (bits_bytes (bytes_for l) (digits l v ++ digits (pad l) x) long ∙ whole ∙ ap (take (bytes_for l * 8)) (sym (bits_drop i s small)) ∙ sym (bits_take (bytes_for l) (drop i s) (omega (arith, length-drop i s))))

-- a frame's length, where the bit length fits it: of the content that is there, and the other way
pub fits_content : (fixed n l : ℕ) → 0 < fixed → declared fixed n ≡ fixed + bytes_for l → n ≡ bytes_for l
unfolding declared
fits_content fixed n l some e = go (ltb (fixed + n) (2 ^ 16)) e
  where
    go : (t : Bool) → cond t (fixed + n) 0 ≡ fixed + bytes_for l → n ≡ bytes_for l
    go true e = omega (arith, e)
    go false e = absurd (omega (arith, e))

pub declared_fits : (fixed n l v : ℕ) → n ≡ bytes_for l → v ≡ fixed + bytes_for l → v < 2 ^ 16 → declared fixed n ≡ v
unfolding declared
declared_fits fixed n l v m e small =
    let k : fixed + n ≡ v = ap (fixed +◌) m ∙ sym e in
    rw (k, lt-ltb v (2 ^ 16) small) refl

drop_take : (i k : ℕ) (s : List ℕ) → i ≤ length s → drop i (take (i + k) s) ≡ take k (drop i s)
drop_take i k s h = ap (drop i) (take-add i k s) ∙ drop_at (take i s) (take k (drop i s)) i (length-take-le i s h)

-- content from byte i of a frame s on, `tail` bytes before its end: the values are its body's, and it is a part of the frame
pub content_part : (s : List ℕ) (i tail l v x : ℕ) → Bytes s → 0 < tail → length s ≡ i + bytes_for l + tail → let b = bits_of (take (length s - 1) s) in v ≡ value_of (take l (drop (i * 8) b))
    → x ≡ value_of (take (pad l) (drop (i * 8 + l) b)) → content_of l v x ≡ take (length s - tail - i) (drop i s)
content_part s i tail l v x fine some long is fill =
    let m = length s - 1 in
    let n : length (take m s) ≡ m = length-take-le m s (omega arith) in
    let k : i + (m - i) ≡ m = omega (arith, long) in
    let size : length s - tail - i ≡ bytes_for l = omega (arith, long) in
    content_shown (take m s) i l v x (bytes_take m s fine) (omega (arith, n, long)) is fill (omega (arith, n, long))
    ∙ ap (λ y. take (bytes_for l) (drop i (take y s))) (sym k)
    ∙ ap (take (bytes_for l)) (drop_take i (m - i) s (omega (arith, long)))
    ∙ take-take (bytes_for l) (m - i) (drop i s) (omega (arith, long))
    ∙ ap (λ y. take y (drop i s)) (sym size)

-- 16 bits tell it
pub declared_small : (fixed n : ℕ) → declared fixed n ≤ 65_535
unfolding declared
declared_small fixed n = go (ltb (fixed + n) (2 ^ 16)) refl
  where
    go : (t : Bool) → ltb (fixed + n) (2 ^ 16) ≡ t → cond t (fixed + n) 0 ≤ 65_535
    go true e = let l = ltb-true (fixed + n) (2 ^ 16) e in omega arith
    go false e = omega arith
