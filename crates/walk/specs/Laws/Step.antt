-- One step of the walk, over any judge: where reading stands at a field, it stands behind it afterwards. Assumes nothing.
use Rattle.std.specs.Prelude.{◌≡◌, ℕ, zero, suc, ◌+◌, ◌-◌, ◌*◌, ◌%◌, ◌^◌, ◌<◌, ◌≤◌, Bool, true, false, cond, ◌&&◌, List, [], ◌∷◌, length, take, drop, ◌==◌, ◌≢◌, nat_le}
use Rattle.std.proofs.Math.Path.{refl, ap}
use Rattle.std.proofs.Common.{◌∙◌, add-zero, length-take, length-drop, length-take-le, drop-drop, le-leb, leb-true, leb-false, eq-eqb, ne_eqb, eqb-true}
use Rattle.std.proofs.lemmas.Bool.{false≢true, eqb-false}
use native.Mathlib.Omega.{arith}
use Rattle.std.proofs.Math.Nat.{mod-eq_of_lt}
use Rattle.bits.specs.Bits.{value_of, bits_of, field_at}
use Rattle.bits.specs.Answers.{within, got}
use Rattle.bits.specs.Laws.Bytes.{length_bits}
use Rattle.format.specs.Fmt.{Out, accepted, refused, Fault, good, bad, or_bad, Judge, Fmt, field, choice, check, also, read_field, read, Spot, later, where?, spot}
use Rattle.format.specs.Correcting.{standing}
use Rattle.walk.specs.Walk.{onward}
use Rattle.format.specs.Words.{or_else, kept}
use Rattle.format.specs.Laws.Spots.{later_later}
use Rattle.format.specs.Laws.Tells.{blamed, Tells}
use Rattle.walk.specs.Walk.{Walk}

-- a refusal sticks
abbrev pub sticky : {A : Type 0} → Walk → Out A → Out A
sticky r o = cond (r.code == 0) o (refused r.code r.offset)

pub stuck : {A : Type 0} (r : Walk) (o : Out A) → (r.code ≢ 0) → sticky r o ≡ refused r.code r.offset
stuck r o h = rw (ne_eqb r.code 0 h) refl

pub clear : {A : Type 0} (r : Walk) (o : Out A) → r.code ≡ 0 → sticky r o ≡ o
clear r o h = rw (eq-eqb r.code 0 h) refl

-- where the field stood that was sought, if it may be corrected
abbrev pub stood : Walk → Spot
stood r = standing r.spot r.width

-- where the sought field will be found to stand, if g says where it is from `at` on
abbrev pub sought : Walk → ℕ → (ℕ → Spot) → Spot
sought r at g = cond r.seek (later at (g r.left)) (stood r)

-- o is what reading f from `at` on answers, the values before it put in front by k, unless r was refused before;
-- and, where nothing was refused, the field i of `all` is found by r, or will be.
pub record Reading (o : Out (List ℕ)) (all : Fmt) (i : ℕ) (s : List ℕ) (f : Fmt) (h : List ℕ) (at : ℕ) (k : List ℕ → List ℕ) (r : Walk) : Type 0 where
  pub so : o ≡ sticky r (also k (read f h at (drop at (bits_of s))))
  pub here : r.at ≡ at
  pub spots : r.code ≡ 0 → (vs : List ℕ) → spot all [] (k vs) i ≡ sought r at (spot f h vs)
  pub slim : r.width ≤ 32
  pub within : r.code ≡ 0 → at ≤ length s * 8

pub also_also : (k : List ℕ → List ℕ) (v : ℕ) (o : Out (List ℕ)) → also k (also (v ∷◌) o) ≡ also (λ vs. k (v ∷ vs)) o
also_also k v (accepted x) = refl
also_also k v (refused c p) = refl

-- ---- a field's fault, as its judge says it and as a number

-- the judge's fault, or that the field is cut
abbrev pub flaw : ℕ → (List Bool → Fault) → List Bool → Fault
flaw w j b = or_else (j (take w b)) (or_bad (nat_le w (length b)) 1)

pub read_flaw : (w : ℕ) (j : Judge) (h : List ℕ) (at : ℕ) (b : List Bool) (next : ℕ → List Bool → Out (List ℕ))
    → read_field w j h at b next ≡ check (flaw w (j h) b) at (also (value_of (take w b) ∷◌) (next (value_of (take w b)) (drop w b)))
unfolding read_field
read_flaw w j h at b next = go (j h (take w b)) (or_bad (nat_le w (length b)) 1) (also (value_of (take w b) ∷◌) (next (value_of (take w b)) (drop w b)))
  where
    go : (x y : Fault) (o : Out (List ℕ)) → check x at (check y at o) ≡ check (or_else x y) at o
    go good y o = refl
    go (bad c i) y o = refl

-- a faultless field is there
flawless : (w : ℕ) (j : List Bool → Fault) (b : List Bool) → flaw w j b ≡ good → w ≤ length b
flawless w j b = go (j (take w b)) (nat_le w (length b)) refl
  where
    go : (x : Fault) (t : Bool) → nat_le w (length b) ≡ t → or_else x (or_bad t 1) ≡ good → w ≤ length b
    go x true e h = leb-true w (length b) e
    go good false e h = let z : ◌≡◌ {A = ℕ} 0 1 = cc in absurd (omega arith)
    go (bad c i) false e h = let z : ◌≡◌ {A = ℕ} 0 1 = cc in absurd (omega arith)

-- The code's step past a field: its fault c and how far in, as the layout judges it; its value u; m where it may be corrected.
pub record Steps (s : List ℕ) (at w : ℕ) (j : Judge) (h : List ℕ) (m : Bool) (u c i : ℕ) : Type 0 where
  pub findable : m ≡ true → (0 < w) × (w ≤ 32)
  pub reach : at + w < 2 ^ 64
  pub into : i ≤ w
  pub same : flaw w (j h) (drop at (bits_of s)) ≡ blamed c i
  pub holds : c ≡ 0 → u ≡ value_of (take w (drop at (bits_of s)))

-- nothing refused behind a step: nothing was before, and the step found no fault
pub clean : (a c : ℕ) → cond (a == 0) c a ≡ 0 → (a ≡ 0) × (c ≡ 0)
clean a c = go (a == 0) refl
  where
    go : (t : Bool) → (a == 0) ≡ t → cond t c a ≡ 0 → (a ≡ 0) × (c ≡ 0)
    go true e z = (eqb-true a 0 e, z)
    go false e z = absurd (eqb-false a 0 e z)

module _ {s : List ℕ} {at w : ℕ} {j : Judge} {h : List ℕ} {m : Bool} {u c i : ℕ} (r : Walk) (e : r.at ≡ at) (x : Steps s at w j h m u c i) (v : ℕ) where
  pub step_so : (k : List ℕ → List ℕ) (next : ℕ → List Bool → Out (List ℕ))
      → sticky r (also k (read_field w j h at (drop at (bits_of s)) next))
      ≡ sticky (onward w m v c i r) (also (λ vs. k (u ∷ vs)) (next u (drop (at + w) (bits_of s))))
  unfolding onward
  step_so k next = go (r.code == 0) refl c refl
    where
      b : List Bool
      b = drop at (bits_of s)

      go : (t : Bool) → (r.code == 0) ≡ t → (d : ℕ) → c ≡ d
          → sticky r (also k (read_field w j h at b next)) ≡ sticky (onward w m v c i r) (also (λ vs. k (u ∷ vs)) (next u (drop (at + w) (bits_of s))))
      go false t d z = simp t
      go true t zero z =
          let y : u ≡ value_of (take w b) = x.holds z in
          rw (t, z, read_flaw w j h at b next, x.same, z) (rw (← y, drop-drop w at (bits_of s)) (also_also k u (next u (drop (at + w) (bits_of s)))))
      go true t (suc d) z =
          rw (t, z, read_flaw w j h at b next, x.same, z, e, mod-eq_of_lt (lower x.into x.reach), ne_eqb (suc d) 0 (λ z. omega arith)) refl
        where
          lower : i ≤ w → at + w < 2 ^ 64 → at + i < 2 ^ 64
          lower p q = omega arith

  pub step_here : (onward w m v c i r).at ≡ at + w
  unfolding onward
  step_here = ap (λ a. (a + w) % 2 ^ 64) e ∙ mod-eq_of_lt x.reach

  pub step_slim : r.width ≤ 32 → (onward w m v c i r).width ≤ 32
  unfolding onward
  step_slim l = go (r.seek && r.left == 0) m x.findable
    where
      go : (a b : Bool) → (b ≡ true → (0 < w) × (w ≤ 32)) → cond a (cond b w 0) r.width ≤ 32
      go true true y = (y refl).1
      go true false y = omega arith
      go false b y = l

  pub step_clean : (onward w m v c i r).code ≡ 0 → (r.code ≡ 0) × (c ≡ 0)
  unfolding onward
  step_clean z = clean r.code c z

  pub step_within : (r.code ≡ 0 → at ≤ length s * 8) → (onward w m v c i r).code ≡ 0 → at + w ≤ length s * 8
  step_within l z =
      let (a, d) = step_clean z in
      let y = flawless w (j h) (drop at (bits_of s)) (x.same ∙ ap (λ c. blamed c i) d) in
      omega (arith, l a, y, length-drop at (bits_of s), length_bits s)

-- f finds the field, or what g finds behind it
abbrev pub Passing : ℕ → Bool → (ℕ → Spot) → (ℕ → Spot) → Type 0
Passing w m f g = (f 0 ≡ where? m w) × ((n : ℕ) → f (suc n) ≡ later w (g n))

pub step_spots : (at w v c i : ℕ) (r : Walk) (m : Bool) (f g : ℕ → Spot) → r.at ≡ at → (m ≡ true → 0 < w) → Passing w m f g
    → sought r at f ≡ sought (onward w m v c i r) (at + w) g
unfolding onward
step_spots at w v c i r m f g e l p = go r.seek refl r.left refl m l p.0
  where
    go : (a : Bool) → r.seek ≡ a → (n : ℕ) → r.left ≡ n → (m : Bool) → (m ≡ true → 0 < w) → f 0 ≡ where? m w → sought r at f ≡ sought (onward w m v c i r) (at + w) g
    go false ea n en m l q = rw ea refl
    go true ea zero en true l q = let y = l refl in rw (ea, en, q, ne_eqb w 0 (λ z. omega arith), e, add-zero) refl
    go true ea zero en false l q = rw (ea, en, q) refl
    go true ea (suc n) en m l q =
        let d : suc n - 1 ≡ n = omega arith in
        rw (ea, en, p.1 n, ne_eqb (suc n) 0 (λ z. omega arith), d) (later_later at w (g n))

module _ {o : Out (List ℕ)} {all : Fmt} {i : ℕ} {s : List ℕ} {h : List ℕ} {at : ℕ} {k : List ℕ → List ℕ} {r : Walk} {w : ℕ} {j : Judge} where
  -- over a field
  pub step : {f : Fmt} {m : List ℕ → Bool} {u c q : ℕ} (v : ℕ) → Reading o all i s (field w j m f) h at k r → Steps s at w j h (m h) u c q
      → Reading o all i s f (u ∷ h) (at + w) (λ vs. k (u ∷ vs)) (onward w (m h) v c q r)
  unfolding read spot
  step {f} {m} {u} {c} {q} v e x = record {
    so = e.so ∙ step_so r e.here x v k (λ v b. read f (v ∷ h) (at + w) b);
    here = step_here r e.here x v;
    spots = λ z vs. e.spots (step_clean r e.here x v z).0 (u ∷ vs)
        ∙ step_spots at w v c q r (m h) (spot (field w j m f) h (u ∷ vs)) (spot f (u ∷ h) vs) e.here (λ y. (x.findable y).0) (refl, λ n. refl);
    slim = step_slim r e.here x v e.slim;
    within = step_within r e.here x v e.within;
  }

  -- over a field that decides what follows
  pub step_choice : {f : ℕ → Fmt} {u c q : ℕ} (v : ℕ) → Reading o all i s (choice w j f) h at k r → Steps s at w j h false u c q
      → Reading o all i s (f u) (u ∷ h) (at + w) (λ vs. k (u ∷ vs)) (onward w false v c q r)
  unfolding read spot
  step_choice {f} {u} {c} {q} v e x = record {
    so = e.so ∙ step_so r e.here x v k (λ v b. read (f v) (v ∷ h) (at + w) b);
    here = step_here r e.here x v;
    spots = λ z vs. e.spots (step_clean r e.here x v z).0 (u ∷ vs)
        ∙ step_spots at w v c q r false (spot (choice w j f) h (u ∷ vs)) (spot (f u) (u ∷ h) vs) e.here (λ y. (x.findable y).0) (refl, λ n. refl);
    slim = step_slim r e.here x v e.slim;
    within = step_within r e.here x v e.within;
  }

-- over a field that may not be corrected, which is looked at only where nothing was refused
pub step_late : {o : Out (List ℕ)} {all : Fmt} {i : ℕ} {s : List ℕ} {h : List ℕ} {at : ℕ} {k : List ℕ → List ℕ} {r : Walk} {w : ℕ} {j : Judge} {f : Fmt} {u c q : ℕ} (v : ℕ) → at + w < 2 ^ 64
    → Reading o all i s (field w j kept f) h at k r → (r.code ≡ 0 → at ≤ length s * 8 → Steps s at w j h false u c q)
    → Reading o all i s f (u ∷ h) (at + w) (λ vs. k (u ∷ vs)) (onward w false v c q r)
unfolding onward
step_late {o} {all} {i} {s} {h} {at} {k} {r} {w} {j} {f} {u} {c} {q} v reach e x = go (r.code == 0) refl
  where
    thin : (a : Bool) → cond a 0 r.width ≤ 32
    thin true = omega arith
    thin false = e.slim

    late : (r.code ≢ 0) → Reading o all i s f (u ∷ h) (at + w) (λ vs. k (u ∷ vs)) (onward w false v c q r)
    late n = record {
      so = e.so ∙ rw (ne_eqb r.code 0 n, ne_eqb r.code 0 n) refl;
      here = ap (λ a. (a + w) % 2 ^ 64) e.here ∙ mod-eq_of_lt reach;
      spots = λ z. absurd (n (clean r.code c z).0);
      slim = thin (r.seek && r.left == 0);
      within = λ z. absurd (n (clean r.code c z).0);
    }

    go : (t : Bool) → (r.code == 0) ≡ t → Reading o all i s f (u ∷ h) (at + w) (λ vs. k (u ∷ vs)) (onward w false v c q r)
    go true t = let z = eqb-true r.code 0 t in step v e (x z (e.within z))
    go false t = late (eqb-false r.code 0 t)

module _ (s : List ℕ) (at w : ℕ) (j : Judge) (h : List ℕ) {fault_of : ℕ → ℕ} (x : Tells w (j h) fault_of) (reach : at + w < 2 ^ 64) (some : length s * 8 < at → 0 < w) where
  abbrev rest : List Bool
  rest = drop at (bits_of s)

  there : at + w ≤ length s * 8 → flaw w (j h) rest ≡ blamed (fault_of (value_of (take w rest))) 0
  there l =
      let n : w ≤ length rest = omega (arith, length-drop at (bits_of s), length_bits s) in
      rw (x.whole (take w rest) (length-take-le w rest n), le-leb w (length rest) n) (go (fault_of (value_of (take w rest))))
    where
      go : (c : ℕ) → or_else (blamed c 0) good ≡ blamed c 0
      go zero = refl
      go (suc c) = refl

  missed : length s * 8 < at + w → flaw w (j h) rest ≡ bad 1 0
  missed l = rw (x.cut (take w rest) (short (nat_le at (length s * 8)) refl)) refl
    where
      short : (y : Bool) → nat_le at (length s * 8) ≡ y → length (take w rest) < w
      short true e = omega (arith, leb-true at (length s * 8) e, length-take w rest, length-drop at (bits_of s), length_bits s)
      short false e = omega (arith, some (leb-false at (length s * 8) e), length-take w rest, length-drop at (bits_of s), length_bits s)

  -- of any width, by its value
  pub told : Steps s at w j h false (value_of (take w rest)) (cond (nat_le (at + w) (length s * 8)) (fault_of (value_of (take w rest))) 1) 0
  told = record { findable = λ e. absurd (false≢true e); reach = reach; into = omega arith; same = go (nat_le (at + w) (length s * 8)) refl; holds = λ z. refl }
    where
      go : (y : Bool) → nat_le (at + w) (length s * 8) ≡ y → flaw w (j h) rest ≡ blamed (cond y (fault_of (value_of (take w rest))) 1) 0
      go true e = there (leb-true (at + w) (length s * 8) e)
      go false e = missed (leb-false (at + w) (length s * 8) e)

  -- of at most 32 bits, as it is got
  pub tested : w ≤ 32 → (m : Bool) → (m ≡ true → 0 < w) → Steps s at w j h m (got s at w) (cond (within (length s) at w) (fault_of (got s at w)) 1) 0
  unfolding field_at
  tested small m more = record { findable = λ e. (more e, small); reach = reach; into = omega arith; same = same' (nat_le (at + w) (length s * 8)) refl; holds = holds' (nat_le (at + w) (length s * 8)) refl }
    where
      same' : (y : Bool) → nat_le (at + w) (length s * 8) ≡ y → flaw w (j h) (drop at (bits_of s)) ≡ blamed (cond (within (length s) at w) (fault_of (got s at w)) 1) 0
      same' true e = rw (le-leb w 32 small, e) (there (leb-true (at + w) (length s * 8) e))
      same' false e = rw (le-leb w 32 small, e) (missed (leb-false (at + w) (length s * 8) e))

      holds' : (y : Bool) → nat_le (at + w) (length s * 8) ≡ y → cond (within (length s) at w) (fault_of (got s at w)) 1 ≡ 0 → got s at w ≡ value_of (take w (drop at (bits_of s)))
      holds' true e z = rw (le-leb w 32 small, e) refl
      holds' false e z =
          let n : cond (within (length s) at w) (fault_of (got s at w)) 1 ≡ 1 = rw (le-leb w 32 small, e) refl in
          absurd (omega (arith, z, n))
