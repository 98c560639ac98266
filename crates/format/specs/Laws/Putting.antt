-- The code puts a record's values, field by field, where writing accepts them. Assumes nothing.
use Rattle.std.specs.Prelude.{◌≡◌, refl, Bool, cond, List, [], ◌∷◌, ◌++◌, ℕ, ◌+◌, ◌*◌, ◌/◌, ◌%◌, ◌≤◌, leb, length, take, drop}
use Rattle.std.proofs.Common.{sym, ap, ap₂, ◌∙◌, append_assoc, append-nil, arith, add_assoc, length-append, length-drop, length-take, pow_pos, take_at, drop_at, drop-drop, le-leb}
use Rattle.std.proofs.Math.Path.{subst⁻¹}
use Rattle.bits.specs.Laws.Answers.{puttable_fits}
use Rattle.bits.specs.Laws.Bytes.{length_bits, length_bytes, bits_append, bits_bytes, bits_same, bytes_append, bytes_below, bytes_drop}
use Rattle.bits.specs.Laws.Digits.{length_digits}
use Rattle.bits.specs.Laws.Fields.{bits_drop}
use Rattle.bits.specs.Bits.{Bytes, digits, bits_of, bytes_of, put_at}
use Rattle.format.specs.Correcting.{put_in}
use Rattle.format.specs.Fmt.{accepted, Fmt, end, bytes, write, pad}
use Rattle.format.specs.Laws.Round.{accepted_inj, sized_inv}

-- ---- what is to be put

-- Writing answers the bits l: first m, then those of us in g.
pub record Ahead (g : Fmt) (to : ℕ) (us : List ℕ) (m l : List Bool) : Type 0 where
  pub before : List ℕ
  pub rest : List Bool
  pub after : write g before to us ≡ accepted rest
  pub whole : m ++ rest ≡ l

-- Where writing accepts vs in f from `at` on, the n bits m come first, then those of us in g.
pub record Begins (f : Fmt) (at : ℕ) (vs : List ℕ) (m : List Bool) (n : ℕ) (g : Fmt) (us : List ℕ) : Type 0 where
  pub long : length m ≡ n
  pub ahead : (h : List ℕ) (l : List Bool) → write f h at vs ≡ accepted l → Ahead g (at + n) us m l

pub begins_then : {f : Fmt} {at : ℕ} {vs : List ℕ} {m : List Bool} {n : ℕ} {g : Fmt} {us : List ℕ} {m' : List Bool} {n' : ℕ} {g' : Fmt} {us' : List ℕ}
    → Begins f at vs m n g us → Begins g (at + n) us m' n' g' us' → Begins f at vs (m ++ m') (n + n') g' us'
begins_then {at = at} {m = m} {n} {m' = m'} {n'} {g'} {us'} x y = record {
  long = length-append m m' ∙ ap₂ ◌+◌ x.long y.long;
  ahead = λ h l e.
      let a = x.ahead h l e in
      let b = y.ahead a.before a.rest a.after in
      record {
        before = b.before;
        rest = b.rest;
        after = ap (λ p. write g' b.before p us') (sym (add_assoc at n n')) ∙ b.after;
        whole = append_assoc m m' b.rest ∙ ap (m ++◌) b.whole ∙ a.whole;
      };
}

-- ---- what stands

-- Of the bits b that writing answers, those before `at` stand in t, and those of vs are to be put; the rest of t is as it was in s.
pub record Putting (s : List ℕ) (b : List Bool) (f : Fmt) (at : ℕ) (vs : List ℕ) (t : List ℕ) : Type 0 where
  pub before : List ℕ
  pub front : List Bool
  pub left : List Bool
  pub todo : write f before at vs ≡ accepted left
  pub whole : front ++ left ≡ b
  pub long : length front ≡ at
  pub stands : bits_of t ≡ front ++ drop at (bits_of s)
  pub size : length t ≡ length s
  pub fine : Bytes t
  pub room : length b ≤ length s * 8

pub put_start : (s : List ℕ) (f : Fmt) (vs : List ℕ) (b : List Bool) → Bytes s → length b ≤ length s * 8 → write f [] 0 vs ≡ accepted b → Putting s b f 0 vs s
put_start s f vs b h l e = record { before = []; front = []; left = b; todo = e; whole = refl; long = refl; stands = refl; size = refl; fine = h; room = l }

-- s with the bits m, n of them, in place of those from `at` on
abbrev pub laid_in : List ℕ → ℕ → List Bool → ℕ → List ℕ
laid_in s at m n = bytes_of (length s) (take at (bits_of s) ++ (m ++ drop (at + n) (bits_of s)))

module _ {s t : List ℕ} {b : List Bool} {f : Fmt} {at : ℕ} {vs : List ℕ} {m : List Bool} {n : ℕ} {g : Fmt} {us : List ℕ} (x : Begins f at vs m n g us) (e : Putting s b f at vs t) where
  -- there is room
  pub put_fits : at + n ≤ length t * 8
  put_fits =
      let y = x.ahead e.before e.left e.todo in
      let k : length b ≡ at + (n + length y.rest) =
      ap length (sym e.whole ∙ ap (e.front ++◌) (sym y.whole)) ∙ length-append e.front (m ++ y.rest)
      ∙ omega (arith, e.long, length-append m y.rest, x.long) in
      omega (arith, k, e.room, e.size)

  pub put_bits : {u : List ℕ} → u ≡ laid_in t at m n → Putting s b g (at + n) us u
  put_bits d =
      let y = x.ahead e.before e.left e.todo in
      let k : take at (bits_of t) ≡ e.front = ap (take at) e.stands ∙ take_at e.front (drop at (bits_of s)) at e.long in
      let q : drop (at + n) (bits_of t) ≡ drop (at + n) (bits_of s) =
      sym (drop-drop n at (bits_of t)) ∙ ap (λ l. drop n (drop at l)) e.stands ∙ ap (drop n) (drop_at e.front (drop at (bits_of s)) at e.long) ∙ drop-drop n at (bits_of s) in
      let z : length (take at (bits_of t) ++ (m ++ drop (at + n) (bits_of t))) ≡ length t * 8 =
      simp (length-append, length-take, length-drop, length_bits) (omega (arith, put_fits, x.long)) in
      record {
        before = y.before;
        front = e.front ++ m;
        left = y.rest;
        todo = y.after;
        whole = append_assoc e.front m y.rest ∙ ap (e.front ++◌) y.whole ∙ e.whole;
        long = length-append e.front m ∙ ap₂ ◌+◌ e.long x.long;
        stands = ap bits_of d ∙ bits_bytes (length t) (take at (bits_of t) ++ (m ++ drop (at + n) (bits_of t))) z ∙ rw (k, q) (sym (append_assoc e.front m (drop (at + n) (bits_of s))));
        size = ap length d ∙ length_bytes (length t) _ ∙ e.size;
        fine = subst⁻¹ Bytes d (bytes_below (length t) _);
        room = e.room;
      }

-- ---- the steps of the code

-- a byte count has no bits
pub put_bytes : {s t : List ℕ} {b : List Bool} {f : ℕ → Fmt} {at n : ℕ} {vs : List ℕ} → Putting s b (bytes f) at (n ∷ vs) t → Putting s b (f n) at vs t
unfolding write
put_bytes {f = f} {at} {n} {vs} e = record {
  before = n ∷ e.before;
  front = e.front;
  left = e.left;
  todo = (sized_inv n at (write (f n) (n ∷ e.before) at vs) e.todo).0;
  whole = e.whole;
  long = e.long;
  stands = e.stands;
  size = e.size;
  fine = e.fine;
  room = e.room;
}

-- bits that the bytes l spell
pub put_run : {s t : List ℕ} {b : List Bool} {f : Fmt} {at : ℕ} {vs : List ℕ} {m : List Bool} {n : ℕ} {g : Fmt} {us : List ℕ} {r : Bool} {u : List ℕ} (l : List ℕ) → m ≡ bits_of l
    → Begins f at vs m n g us → Putting s b f at vs t → (r ≡ leb (at + length l * 8) (length t * 8)) × (u ≡ cond r (laid_in t at (bits_of l) (length l * 8)) t)
    → Putting s b g (at + n) us u
put_run {t = t} {at = at} {m = m} {n} l is x e p =
    let k : n ≡ length l * 8 = sym x.long ∙ ap length is ∙ length_bits l in
    put_bits x e (p.1 ∙ rw (p.0, ← k, le-leb (at + n) (length t * 8) (put_fits x e), ← is) refl)

-- ---- the end

-- the bits that fill the last byte
pub put_fill : {s t : List ℕ} {b : List Bool} {at : ℕ} {u : List ℕ} → Putting s b end at [] t → u ≡ put_in t at (pad at) 0 → Putting s b end (at + pad at) [] u
unfolding write put_at digits
put_fill {t = t} {at = at} e d =
    put_bits zeros e (d ∙ ap (λ b. cond b (put_at t at (pad at) 0) t) (puttable_fits t at (pad at) 0 (omega arith) (put_fits zeros e) (pow_pos (pad at))))
  where
    zeros : Begins end at [] (digits (pad at) 0) (pad at) end []
    zeros = record {
      long = length_digits (pad at) 0;
      ahead = λ h l x. record { before = h; rest = []; after = ap (λ n. accepted (digits n 0)) (whole_byte at); whole = append-nil (digits (pad at) 0) ∙ accepted_inj x };
    }
      where
        whole_byte : (at : ℕ) → pad (at + pad at) ≡ 0
        whole_byte at = omega arith

-- All is put: the message stands in front, and the bytes past it are as they were.
pub put_end : {s t : List ℕ} {b : List Bool} {at : ℕ} → Bytes s → at % 8 ≡ 0 → Putting s b end at [] t → t ≡ bytes_of (length b / 8) b ++ drop (length b / 8) s
unfolding write digits
put_end {s} {t} {b} {at} fine z e =
    let p : pad at ≡ 0 = omega arith in
    let l : e.left ≡ [] = sym (accepted_inj e.todo) ∙ ap (λ n. digits n 0) p in
    let k : b ≡ e.front = sym e.whole ∙ ap (e.front ++◌) l ∙ append-nil e.front in
    let n : length b ≡ at = ap length k ∙ e.long in
    let i = length b / 8 in
    let m : length b ≡ i * 8 = omega (arith, n) in
    let o : i ≤ length s = omega (arith, e.room) in
    let x : bits_of (bytes_of i b ++ drop i s) ≡ bits_of t =
    bits_append (bytes_of i b) (drop i s) ∙ rw (bits_bytes i b m, bits_drop i s o) (ap₂ (λ a c. a ++ drop c (bits_of s)) k (sym m ∙ n) ∙ sym e.stands) in
    let y : length (bytes_of i b ++ drop i s) ≡ length t = length-append (bytes_of i b) (drop i s) ∙ omega (arith, length_bytes i b, length-drop i s, e.size) in
    sym (bits_same (bytes_of i b ++ drop i s) t (bytes_append (bytes_of i b) (drop i s) (bytes_below i b) (bytes_drop i s fine)) e.fine y x)

-- s with the message of vs put in front, where there is one and it has room, is t
abbrev pub Puts : Fmt → List ℕ → List ℕ → List ℕ → Type 0
Puts f vs s t = (b : List Bool) → write f [] 0 vs ≡ accepted b → length b ≤ length s * 8 → t ≡ bytes_of (length b / 8) b ++ drop (length b / 8) s
