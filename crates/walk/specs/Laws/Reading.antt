-- The code's walk reads a layout, field by field: each kind of field is one step, and the walk over all of them is the reading. Assumes nothing.
use Rattle.std.specs.Prelude.{◌≡◌, ℕ, zero, suc, ◌+◌, ◌-◌, ◌*◌, ◌/◌, ◌%◌, ◌^◌, ◌<◌, ◌≤◌, Bool, true, false, cond, ◌&&◌, List, [], ◌∷◌, length, take, drop, ◌==◌, nat_le, refl}
use Rattle.std.proofs.Common.{sym, ◌∙◌, subst, arith, add-zero, zero-add, mod-eq_of_lt, length-drop, pow_pos, le-leb, leb-true, ne_eqb}
use Rattle.std.proofs.Math.Path.{ap, subst⁻¹}
use Rattle.std.proofs.Math.Bool.{and-false}
use Rattle.std.proofs.lemmas.Bool.{false≢true, lt-leb}
use Rattle.bits.specs.Bits.{value_of, bits_of, field_at}
use Rattle.bits.specs.Answers.{within, got}
use Rattle.bits.specs.Laws.Answers.{got_fits}
use Rattle.bits.specs.Laws.Bytes.{length_bits}
use Rattle.bits.specs.Laws.Fields.{field_lt, field_join}
use Rattle.format.specs.Fmt.{Out, accepted, refused, Judge, Fmt, field, choice, bytes, check, also, read, Spot, none, found, later, spot}
use Rattle.format.specs.Message.{fault}
use Rattle.walk.specs.Reading.{ranged, given, carried, blanked, signedly}
use Rattle.walk.specs.Faults.{ranging, signing, blanking, wholly}
use Rattle.walk.specs.Walk.{begun, onward}
use Rattle.format.specs.Words.{Test, any, ◌‥◌, signed, only, kept, num, code, fill}
use Rattle.walk.specs.Laws.Step.{sticky, sought, Reading, Steps, step, step_choice, step_late, step_spots, told, tested, clean, also_also}
use Rattle.format.specs.Laws.Tells.{blamed, Tells, only_tells, only_one}
use Rattle.walk.specs.Walk.{Walk}

-- ---- the code's steps

known : (s : List ℕ) (at w c n : ℕ) → ranging s at w n n (suc c) ≡ 0 → got s at w ≡ n
known s at w c n = go (within (length s) at w)
  where
    go : (b : Bool) → ◌≡◌ {A = ℕ} (cond b (cond (nat_le n (got s at w) && nat_le (got s at w) n) 0 (suc c)) 1) 0 → got s at w ≡ n
    go true z = only_one n (got s at w) c z
    go false z = absurd (omega (arith, z))

-- a test between limits that the code knows
limited : (s : List ℕ) (at w c lo hi : ℕ) (t : Test) (h : List ℕ) (m : Bool) → 0 < w → w ≤ 32 → at + w < 2 ^ 64 → ((v : ℕ) → t h v ≡ (lo ‥ hi) h v)
    → Steps s at w (only w (suc c) t) h m (got s at w) (ranging s at w lo hi (suc c)) 0
limited s at w c lo hi t h m some small reach l =
    subst (λ b. Steps s at w (only w (suc c) t) h m (got s at w) (cond (within (length s) at w) (cond b 0 (suc c)) 1) 0) (l (got s at w)) (tested s at w (only w (suc c) t) h (only_tells w c t h) reach (λ l. some) small m (λ e. some))

module _ {o : Out (List ℕ)} {all : Fmt} {i : ℕ} {s : List ℕ} {h : List ℕ} {at : ℕ} {k : List ℕ → List ℕ} {r : Walk} {g : Walk} (w : ℕ) (small : w ≤ 32) (reach : at + w < 2 ^ 64) where
  -- A field of one good value, which is kept.
  pub step_one : (c n : ℕ) {f : Fmt} → Reading o all i s (field w (only w (suc c) (n ‥ n)) kept f) h at k r → g ≡ ranged s w false n n (suc c) r
      → Reading o all i s f (n ∷ h) (at + w) (λ vs. k (n ∷ vs)) g
  step_one c n {f} e d =
      subst⁻¹ (λ g. Reading o all i s f (n ∷ h) (at + w) (λ vs. k (n ∷ vs)) g)
      (d ∙ ap (λ a. onward w false (got s a w) (ranging s a w n n (suc c)) 0 r) e.here)
      (step_late (got s at w) reach e (λ _ l.
      let x = tested s at w (only w (suc c) (n ‥ n)) h (only_tells w c (n ‥ n) h) reach (λ m. absurd (omega arith)) small false (λ e. absurd (false≢true e)) in
      record { findable = x.findable; reach = reach; into = x.into; same = x.same; holds = λ z. sym (known s at w c n z) ∙ x.holds z }))

  pub step_code : (n : ℕ) {f : Fmt} → Reading o all i s (code w n f) h at k r → g ≡ ranged s w false n n 2 r
      → Reading o all i s f (n ∷ h) (at + w) (λ vs. k (n ∷ vs)) g
  step_code n e d = step_one 1 n e d

  -- Fill, of no bits too.
  pub step_fill : {f : Fmt} → Reading o all i s (fill w f) h at k r → g ≡ ranged s w false 0 0 5 r → Reading o all i s f (0 ∷ h) (at + w) (λ vs. k (0 ∷ vs)) g
  step_fill e d = step_one 4 0 e d

  -- A number that decides what follows, by any judge that tells a number.
  pub step_given : 0 < w → {f : ℕ → Fmt} {j : Judge} {fault_of : ℕ → ℕ} {c : ℕ} → Tells w (j h) fault_of → c ≡ fault_of (got s at w)
      → Reading o all i s (choice w j f) h at k r → g ≡ given s w c r → Reading o all i s (f g.v) (g.v ∷ h) (at + w) (λ vs. k (g.v ∷ vs)) g
  unfolding onward
  step_given some {f} {j} {c = c} t z e d =
      subst⁻¹ (λ g. Reading o all i s (f g.v) (g.v ∷ h) (at + w) (λ vs. k (g.v ∷ vs)) g)
      (d ∙ ap (λ a. onward w false (got s a w) (cond (within (length s) a w) c 1) 0 r) e.here ∙ ap (λ c. onward w false (got s at w) (cond (within (length s) at w) c 1) 0 r) z)
      (step_choice (got s at w) e (tested s at w j h t reach (λ l. some) small false (λ e. absurd (false≢true e))))

-- Content, of any width.
pub step_content : {o : Out (List ℕ)} {all : Fmt} {i : ℕ} {s : List ℕ} {h : List ℕ} {at : ℕ} {k : List ℕ → List ℕ} {r : Walk} {g : Walk} {f : Fmt} (w : ℕ) → at + w < 2 ^ 64
    → Reading o all i s (field w (only w 4 any) kept f) h at k r → g ≡ carried s w r
    → let u = value_of (take w (drop at (bits_of s))) in Reading o all i s f (u ∷ h) (at + w) (λ vs. k (u ∷ vs)) g
step_content {o} {all} {i} {s} {h} {at} {k} {r} {f = f} w reach e d =
    let u = value_of (take w (drop at (bits_of s))) in
    subst⁻¹ (λ g. Reading o all i s f (u ∷ h) (at + w) (λ vs. k (u ∷ vs)) g)
    (d ∙ ap (λ a. onward w false 0 (cond (nat_le (a + w) (length s * 8)) 0 1) 0 r) e.here)
    (step_late 0 reach e (λ _ l. told s at w (only w 4 any) h (only_tells w 3 any h) reach (λ m. absurd (omega arith))))

-- two halves lie within the bytes where the second does
blank_within : (n at w : ℕ) → w ≤ 64 → at + w < 2 ^ 64 → within n ((at + w / 2) % 2 ^ 64) (w - w / 2) ≡ nat_le (at + w) (n * 8)
blank_within n at w small reach =
    let below : at + w / 2 < 2 ^ 64 = omega arith in
    let whole : at + w / 2 + (w - w / 2) ≡ at + w = omega arith in
    rw (mod-eq_of_lt below, le-leb (w - w / 2) 32 (omega arith), whole) refl

-- what stands in two halves is nothing where both are nothing
blank_field : (s : List ℕ) (at w : ℕ) → w ≤ 64 → at + w < 2 ^ 64 → at + w ≤ length s * 8 → blanking s at w ≡ cond (nat_le 0 (field_at s at w) && nat_le (field_at s at w) 0) 0 5
blank_field s at w small reach fits =
    let a = w / 2 in
    let b = w - w / 2 in
    let whole : field_at s at w ≡ field_at s at a * 2 ^ b + field_at s (at + a) b = ap (field_at s at) (halves w) ∙ field_join s at a b (omega arith) in
    let below : at + a < 2 ^ 64 = omega arith in
    rw (blank_within (length s) at w small reach ∙ le-leb (at + w) (length s * 8) fits, mod-eq_of_lt below, got_fits s at a (omega arith) (omega arith), whole)
    (go (field_at s at a) (field_at s (at + a) b) (2 ^ b) (pow_pos b))
  where
    halves : (w : ℕ) → w ≡ w / 2 + (w - w / 2)
    halves w = omega arith

    go : (x y n : ℕ) → 0 < n → ◌≡◌ {A = ℕ} (cond (x == 0) (cond (y == 0) 0 5) 5) (cond (nat_le 0 (x * n + y) && nat_le (x * n + y) 0) 0 5)
    go zero zero n l = let e : 0 * n + 0 ≡ 0 = omega arith in rw e refl
    go zero (suc y) n l = rw (ne_eqb (suc y) 0 (λ z. omega arith), lt-leb (0 * n + suc y) 0 (omega arith), and-false) refl
    go (suc x) y (suc n) l = rw (ne_eqb (suc x) 0 (λ z. omega arith), lt-leb (suc x * suc n + y) 0 (omega arith), and-false) refl
    go (suc x) y zero l = absurd (omega arith)

-- Fill of up to 64 bits.
pub step_blank : {o : Out (List ℕ)} {all : Fmt} {i : ℕ} {s : List ℕ} {h : List ℕ} {at : ℕ} {k : List ℕ → List ℕ} {r : Walk} {g : Walk} {f : Fmt} (w : ℕ) → w ≤ 64 → at + w < 2 ^ 64
    → Reading o all i s (fill w f) h at k r → g ≡ blanked s w r → Reading o all i s f (0 ∷ h) (at + w) (λ vs. k (0 ∷ vs)) g
unfolding field_at
step_blank {o} {all} {i} {s} {h} {at} {k} {r} {f = f} w small reach e d =
    subst⁻¹ (λ g. Reading o all i s f (0 ∷ h) (at + w) (λ vs. k (0 ∷ vs)) g)
    (d ∙ ap (λ a. onward w false 0 (blanking s a w) 0 r) e.here)
    (step_late 0 reach e (λ _ l.
    let x = told s at w (only w 5 (0 ‥ 0)) h (only_tells w 4 (0 ‥ 0) h) reach (λ m. absurd (omega arith)) in
    let c = same (nat_le (at + w) (length s * 8)) refl in
    record { findable = x.findable; reach = reach; into = x.into; same = x.same ∙ ap (λ c. blamed c 0) (sym c); holds = λ z. sym (none (nat_le (at + w) (length s * 8)) (value_of (take w (drop at (bits_of s)))) (sym c ∙ z)) }))
  where
    v : ℕ
    v = value_of (take w (drop at (bits_of s)))

    same : (y : Bool) → nat_le (at + w) (length s * 8) ≡ y → blanking s at w ≡ cond (nat_le (at + w) (length s * 8)) (cond (nat_le 0 v && nat_le v 0) 0 5) 1
    same true y = blank_field s at w small reach (leb-true (at + w) (length s * 8) y) ∙ rw y refl
    same false y = rw (blank_within (length s) at w small reach, y) refl

    none : (y : Bool) (v : ℕ) → ◌≡◌ {A = ℕ} (cond y (cond (nat_le 0 v && nat_le v 0) 0 5) 1) 0 → v ≡ 0
    none true v z = only_one 0 v 4 z
    none false v z = absurd (omega (arith, z))

module _ {o : Out (List ℕ)} {all : Fmt} {i : ℕ} {s : List ℕ} {h : List ℕ} {at : ℕ} {k : List ℕ → List ℕ} {r : Walk} {g : Walk}
    (w : ℕ) (some : 0 < w) (small : w ≤ 32) (reach : at + w < 2 ^ 64) where
  -- A number whose limits follow from the values before it.
  pub step_limits : (c lo hi : ℕ) (t : Test) {m : List ℕ → Bool} {f : Fmt} → ((v : ℕ) → t h v ≡ (lo ‥ hi) h v)
      → Reading o all i s (field w (only w (suc c) t) m f) h at k r → g ≡ ranged s w (m h) lo hi (suc c) r
      → Reading o all i s f (g.v ∷ h) (at + w) (λ vs. k (g.v ∷ vs)) g
  unfolding onward
  step_limits c lo hi t {m} {f} l e d =
      subst⁻¹ (λ g. Reading o all i s f (g.v ∷ h) (at + w) (λ vs. k (g.v ∷ vs)) g)
      (d ∙ ap (λ a. onward w (m h) (got s a w) (ranging s a w lo hi (suc c)) 0 r) e.here)
      (step (got s at w) e (limited s at w c lo hi t h (m h) some small reach l))

  pub step_num : (lo hi : ℕ) {f : Fmt} → Reading o all i s (num w (lo ‥ hi) f) h at k r → g ≡ ranged s w true lo hi 4 r
      → Reading o all i s f (g.v ∷ h) (at + w) (λ vs. k (g.v ∷ vs)) g
  step_num lo hi e d = step_limits 3 lo hi (lo ‥ hi) (λ v. refl) e d

  -- A number that decides what follows.
  pub step_decide : (c lo hi : ℕ) (t : Test) {f : ℕ → Fmt} → ((v : ℕ) → t h v ≡ (lo ‥ hi) h v)
      → Reading o all i s (choice w (only w (suc c) t) f) h at k r → g ≡ ranged s w false lo hi (suc c) r
      → Reading o all i s (f g.v) (g.v ∷ h) (at + w) (λ vs. k (g.v ∷ vs)) g
  unfolding onward
  step_decide c lo hi t {f} l e d =
      subst⁻¹ (λ g. Reading o all i s (f g.v) (g.v ∷ h) (at + w) (λ vs. k (g.v ∷ vs)) g)
      (d ∙ ap (λ a. onward w false (got s a w) (ranging s a w lo hi (suc c)) 0 r) e.here)
      (step_choice (got s at w) e (limited s at w c lo hi t h false some small reach l))

  pub step_signed : (m x : ℕ) {f : Fmt} → Reading o all i s (num w (signed w m x) f) h at k r → g ≡ signedly s w m (2 ^ w - m) x r
      → Reading o all i s f (g.v ∷ h) (at + w) (λ vs. k (g.v ∷ vs)) g
  unfolding onward
  step_signed m x {f} e d =
      subst⁻¹ (λ g. Reading o all i s f (g.v ∷ h) (at + w) (λ vs. k (g.v ∷ vs)) g)
      (d ∙ ap (λ a. onward w true (got s a w) (signing s a w m (2 ^ w - m) x) 0 r) e.here)
      (step (got s at w) e (tested s at w (only w 4 (signed w m x)) h (only_tells w 3 (signed w m x) h) reach (λ l. some) small true (λ e. some)))

-- How many whole bytes are left.
pub step_rest : {o : Out (List ℕ)} {all : Fmt} {i : ℕ} {s : List ℕ} {h : List ℕ} {at : ℕ} {k : List ℕ → List ℕ} {r g : Walk} {f : ℕ → Fmt} → at < 2 ^ 64
    → Reading o all i s (bytes f) h at k r → g ≡ onward 0 false (wholly s r.at) 0 0 r
    → Reading o all i s (f (wholly s at)) (wholly s at ∷ h) at (λ vs. k (wholly s at ∷ vs)) g
unfolding read spot onward
step_rest {o} {all} {i} {s} {h} {at} {k} {r} {f = f} reach e d =
    subst⁻¹ (λ g. Reading o all i s (f n) (n ∷ h) at (λ vs. k (n ∷ vs)) g) (d ∙ ap (λ a. onward 0 false (wholly s a) 0 0 r) e.here) (record {
      so = e.so ∙ ap (λ m. sticky r (also k (also (m ∷◌) (read (f m) (m ∷ h) at b)))) long ∙ go (r.code == 0) refl;
      here = ap (◌% 2 ^ 64) (add-zero r.at ∙ e.here) ∙ mod-eq_of_lt reach;
      spots = λ z vs. e.spots (clean r.code 0 z).0 (n ∷ vs) ∙ lands vs ∙ ap (λ a. sought (onward 0 false n 0 0 r) a (spot (f n) (n ∷ h) vs)) (add-zero at);
      slim = thin (r.seek && r.left == 0);
      within = λ z. e.within (clean r.code 0 z).0;
    })
  where
    n : ℕ
    n = wholly s at

    b : List Bool
    b = drop at (bits_of s)

    long : length b / 8 ≡ n
    long = ap (◌/ 8) (length-drop at (bits_of s) ∙ ap (◌- at) (length_bits s))

    go : (t : Bool) → (r.code == 0) ≡ t → sticky r (also k (also (n ∷◌) (read (f n) (n ∷ h) at b))) ≡ sticky (onward 0 false n 0 0 r) (also (λ vs. k (n ∷ vs)) (read (f n) (n ∷ h) at b))
    go false t = simp t
    go true t = rw t (also_also k n (read (f n) (n ∷ h) at b))

    unmoved : (x : Spot) → x ≡ later 0 x
    unmoved none = refl
    unmoved (found p u) = ap (λ q. found q u) (sym (zero-add p))

    lands : (vs : List ℕ) → sought r at (spot (bytes f) h (n ∷ vs)) ≡ sought (onward 0 false n 0 0 r) (at + 0) (spot (f n) (n ∷ h) vs)
    lands vs = step_spots at 0 n 0 0 r false (spot (bytes f) h (n ∷ vs)) (spot (f n) (n ∷ h) vs) e.here (λ y. let z : ◌≡◌ {A = ℕ} 0 1 = cc in absurd (omega arith)) (refl, λ m. unmoved (spot (f n) (n ∷ h) vs m))

    thin : (x : Bool) → cond x 0 r.width ≤ 32
    thin true = omega arith
    thin false = e.slim

-- The first tests answered c.
pub start : (all : Fmt) (i c : ℕ) (s : List ℕ) {r : Walk} → r ≡ begun c i → Reading (check (fault c) 0 (read all [] 0 (bits_of s))) all i s all [] 0 (λ vs. vs) r
start all i c s d = subst⁻¹ (λ r. Reading (check (fault c) 0 (read all [] 0 (bits_of s))) all i s all [] 0 (λ vs. vs) r) d
    (record { so = go c (read all [] 0 (bits_of s)); here = refl; spots = λ z vs. found_at (spot all [] vs i); slim = omega arith; within = λ z. omega arith })
  where
    go : (c : ℕ) (o : Out (List ℕ)) → check (fault c) 0 o ≡ cond (c == 0) (also (λ vs. vs) o) (refused c 0)
    go zero (accepted vs) = refl
    go zero (refused d p) = refl
    go (suc c) o = rw (ne_eqb (suc c) 0 (λ z. omega arith)) refl

    found_at : (x : Spot) → x ≡ later 0 x
    found_at none = refl
    found_at (found p u) = ap (λ q. found q u) (sym (zero-add p))

-- what a walk takes from w bits has at most w
pub got_lt : (s : List ℕ) (at w : ℕ) {v : ℕ} → v ≡ got s at w → v < 2 ^ w
got_lt s at w e = rw e (go (within (length s) at w))
  where
    go : (b : Bool) → cond b (field_at s at w) 0 < 2 ^ w
    go true = field_lt s at w
    go false = pow_pos w
