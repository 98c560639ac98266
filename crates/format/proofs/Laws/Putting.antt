-- The code puts a record's values, field by field, where writing accepts them. Assumes nothing.
use Rattle.std.specs.Prelude.{◌≡◌, Bool, cond, List, ◌∷◌, ◌++◌, ℕ, ◌+◌, ◌*◌, ◌≤◌, ◌<◌, ◌^◌, length, take, drop}
use Rattle.std.proofs.Common.{sym, ap, ap₂, ◌∙◌, append_assoc, arith, add_assoc, length-append, length-drop, length-take, take-append-drop, drop-drop}
use Rattle.bits.specs.Answers.{puttable}
use Rattle.bits.specs.Laws.Answers.{puttable_fits}
use Rattle.bits.specs.Laws.Bytes.{length_bits}
use Rattle.bits.specs.Laws.Digits.{length_digits, digits_two}
use Rattle.bits.specs.Laws.Fields.{length_put, bits_put, put_split}
use Rattle.bits.specs.Bits.{digits, bits_of, bytes_of, put_at}
use Rattle.format.specs.Correcting.{put_in, put_in_lem}
use Rattle.format.specs.Fmt.{accepted, Judge, Fmt, field, choice, write}
use Rattle.format.specs.Laws.Extent.{Opens, opens_field, opens_choice}
use Rattle.format.specs.Laws.Round.{written}
use Rattle.format.specs.Laws.Putting.{Begins, Putting, put_fits, put_bits}

-- ---- what is to be put

module _ {w : ℕ} {j : Judge} {at v : ℕ} {vs : List ℕ} {f g : Fmt} (x : Opens f at v vs w j g) where
  pub begins : Begins f at (v ∷ vs) (digits w v) w g vs
  begins = record {
    long = length_digits w v;
    ahead = λ h l e. let y = written w j h at v (write g (v ∷ h) (at + w) vs) l (sym (x.is h) ∙ e) in record { before = v ∷ h; rest = y.rest; after = y.after; whole = y.whole };
  }

  narrow : (h : List ℕ) (l : List Bool) → write f h at (v ∷ vs) ≡ accepted l → v < 2 ^ w
  narrow h l e = (written w j h at v (write g (v ∷ h) (at + w) vs) l (sym (x.is h) ∙ e)).narrow

-- ---- the steps of the code

-- a field or a choice
pub put_number : {s t : List ℕ} {b : List Bool} {f g : Fmt} {at v : ℕ} {vs : List ℕ} {j : Judge} {u : List ℕ} (w : ℕ) → w ≤ 32 → Opens f at v vs w j g
    → Putting s b f at (v ∷ vs) t → u ≡ put_in t at w v → Putting s b g (at + w) vs u
unfolding put_at
put_number {t = t} {at = at} {v = v} w n x e p =
    put_bits (begins x) e (p ∙ ap (λ b. cond b (put_at t at w v) t) (puttable_fits t at w v n (put_fits (begins x) e) (narrow x e.before e.left e.todo)))

module _ {s t : List ℕ} {b : List Bool} {at v : ℕ} {vs : List ℕ} {j : Judge} {r : Bool} {u : List ℕ} (w : ℕ) (n : w ≤ 32) where
  pub put_step : {f : Fmt} {m : List ℕ → Bool} → Putting s b (field w j m f) at (v ∷ vs) t → (r ≡ puttable t at w v) × (u ≡ cond r (put_at t at w v) t) → Putting s b f (at + w) vs u
  put_step e p = put_number w n opens_field e (put_in_lem t at w v p)

  pub put_choice : {f : ℕ → Fmt} → Putting s b (choice w j f) at (v ∷ vs) t → (r ≡ puttable t at w v) × (u ≡ cond r (put_at t at w v) t) → Putting s b (f v) (at + w) vs u
  put_choice e p = put_number w n opens_choice e (put_in_lem t at w v p)

-- a wide field, in two puts of its high a bits and its low c
pub put_pair : {s t : List ℕ} {b : List Bool} {f g : Fmt} {at v : ℕ} {vs : List ℕ} {j : Judge} {u₁ u : List ℕ} (a c x y : ℕ) → a ≤ 32 → c ≤ 32 → x < 2 ^ a → y < 2 ^ c → v ≡ x * 2 ^ c + y
    → Opens f at v vs (a + c) j g → Putting s b f at (v ∷ vs) t → u₁ ≡ put_in t at a x → u ≡ put_in u₁ (at + a) c y → Putting s b g (at + (a + c)) vs u
unfolding put_at
put_pair {t = t} {at = at} {v = v} {u₁ = u₁} {u} a c x y na nc lx ly is o e p q =
    let fits : at + (a + c) ≤ length t * 8 = put_fits (begins o) e in
    let p' : u₁ ≡ put_at t at a x = p ∙ ap (λ b. cond b (put_at t at a x) t) (puttable_fits t at a x na (omega arith) lx) in
    let n : length u₁ ≡ length t = ap length p' ∙ length_put t at a x in
    let q' : u ≡ put_at u₁ (at + a) c y = q ∙ ap (λ b. cond b (put_at u₁ (at + a) c y) u₁) (puttable_fits u₁ (at + a) c y nc (omega arith) ly) in
    let bits : bits_of u₁ ≡ take at (bits_of t) ++ (digits a x ++ drop (at + a) (bits_of t)) = ap bits_of p' ∙ bits_put t at a (omega arith) x in
    let split : bits_of u₁ ≡ (take at (bits_of t) ++ digits a x) ++ (take c (drop (at + a) (bits_of t)) ++ drop (at + (a + c)) (bits_of t)) =
    bits ∙ sym (append_assoc (take at (bits_of t)) (digits a x) (drop (at + a) (bits_of t)))
    ∙ ap ((take at (bits_of t) ++ digits a x) ++◌) (sym (take-append-drop c (drop (at + a) (bits_of t))) ∙ ap (take c (drop (at + a) (bits_of t)) ++◌) (drop-drop c (at + a) (bits_of t) ∙ ap (λ n. drop n (bits_of t)) (add_assoc at a c))) in
    let front : length (take at (bits_of t) ++ digits a x) ≡ at + a = simp (length-append, length-take, length_digits, length_bits) (omega arith) in
    let mid : length (take c (drop (at + a) (bits_of t))) ≡ c = simp (length-take, length-drop, length_bits) (omega arith) in
    put_bits (begins o) e
    (q' ∙ put_split u₁ (at + a) c (take at (bits_of t) ++ digits a x) (take c (drop (at + a) (bits_of t))) (drop (at + (a + c)) (bits_of t)) split front mid y
    ∙ ap₂ bytes_of n (append_assoc (take at (bits_of t)) (digits a x) (digits c y ++ drop (at + (a + c)) (bits_of t))
    ∙ ap (take at (bits_of t) ++◌) (sym (append_assoc (digits a x) (digits c y) (drop (at + (a + c)) (bits_of t)))
    ∙ ap (◌++ drop (at + (a + c)) (bits_of t)) (sym (ap (digits (a + c)) is ∙ digits_two a c x ly)))))
