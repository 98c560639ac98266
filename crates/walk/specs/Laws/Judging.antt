-- The code judges a record's values, field by field, as writing does. Assumes nothing.
use Rattle.std.specs.Prelude.{◌≡◌, ℕ, zero, suc, ◌+◌, ◌-◌, ◌/◌, ◌%◌, ◌^◌, ◌<◌, ◌≤◌, Bool, true, false, cond, ◌&&◌, List, [], ◌∷◌, ◌++◌, length, ◌==◌, ◌≢◌, nat_le, nat_lt, refl}
use Rattle.std.proofs.Common.{sym, ap, ◌∙◌, arith, add-zero, le_refl, mod-eq_of_lt, length-append, le-leb, leb-true, ltb-true, ltb-false, eqb-true, ne_eqb}
use Rattle.std.proofs.Math.Path.{subst⁻¹}
use Rattle.std.proofs.Math.Bool.{and-false}
use Rattle.std.proofs.lemmas.Bool.{lt-leb, eqb-false}
use Rattle.bits.specs.Bits.{digits}
use Rattle.bits.specs.Laws.Digits.{length_digits}
use Rattle.format.specs.Fmt.{Out, accepted, refused, Fault, good, bad, or_bad, Judge, Fmt, end, field, bytes, check, also, sized, write_field, write, pad}
use Rattle.walk.specs.Judging.{valued, signedly_valued, beyond}
use Rattle.format.specs.Message.{fault}
use Rattle.walk.specs.Walk.{begun, onward}
use Rattle.format.specs.Words.{Test, ◌‥◌, signed, or_else, only, num, deciding}
use Rattle.format.specs.Laws.Extent.{Opens, opens_field, opens_choice, extent}
use Rattle.format.proofs.Laws.Extent.{extent_laid}
use Rattle.format.specs.Laws.Round.{sized_at}
use Rattle.walk.specs.Laws.Step.{sticky, stuck, clean}
use Rattle.format.specs.Laws.Tells.{blamed, Tells, wrong, wrong_tells, wrong_narrow, wrong_wide}
use Rattle.walk.specs.Walk.{Walk}

-- o is what writing vs in f from `at` on answers, the bits before them put in front by k, unless r was refused before.
pub record Judging (o : Out (List Bool)) (f : Fmt) (h : List ℕ) (at : ℕ) (vs : List ℕ) (r : Walk) : Type 0 where
  pub k : List Bool → List Bool
  pub so : o ≡ sticky r (also k (write f h at vs))
  pub here : r.code ≡ 0 → r.at ≡ at
  pub long : r.code ≡ 0 → (l : List Bool) → length (k l) ≡ at + length l

-- ---- one step

-- two faults at one offset
two_checks : {A : Type 0} (x y : Fault) (at : ℕ) (o : Out A) → check x at (check y at o) ≡ check (or_else x y) at o
two_checks good y at o = refl
two_checks (bad d i) y at o = refl

deeper : (k : List Bool → List Bool) (m : List Bool) (o : Out (List Bool)) → also k (also (m ++◌) o) ≡ also (λ l. k (m ++ l)) o
deeper k m (accepted l) = refl
deeper k m (refused d p) = refl

-- past a field or a choice: the code's fault c, i bits in, is the value's
pub judge : {o : Out (List Bool)} {f g : Fmt} {h : List ℕ} {at v : ℕ} {vs : List ℕ} {r q : Walk} {w : ℕ} {j : Judge} (b : Bool) (u c i : ℕ) → i ≤ w → at + w < 2 ^ 64 → Opens f at v vs w j g
    → wrong w (j h) v ≡ blamed c i → Judging o f h at (v ∷ vs) r → q ≡ onward w b u c i r → Judging o g (v ∷ h) (at + w) vs q
unfolding write_field onward
judge {o} {f} {g} {h} {at} {v} {vs} {r} {w = w} {j} b u c i inner reach opens x e d = subst⁻¹ (λ q. Judging o g (v ∷ h) (at + w) vs q) d (record {
  k = λ l. e.k (digits w v ++ l);
  so = e.so ∙ ap (λ y. sticky r (also e.k y)) (opens.is h) ∙ go (r.code == 0) refl c refl (write g (v ∷ h) (at + w) vs);
  here = λ z. ap (λ a. (a + w) % 2 ^ 64) (e.here (clean r.code c z).0) ∙ mod-eq_of_lt reach;
  long = λ z l. e.long (clean r.code c z).0 (digits w v ++ l) ∙ omega (arith, length-append (digits w v) l, length_digits w v);
})
  where
    go : (t : Bool) → (r.code == 0) ≡ t → (d : ℕ) → c ≡ d → (n : Out (List Bool))
        → sticky r (also e.k (write_field w j h at v n)) ≡ sticky (onward w b u c i r) (also (λ l. e.k (digits w v ++ l)) n)
    go false t d z n = simp t
    go true t zero z n =
        rw (t, z, two_checks (or_bad (nat_lt v (2 ^ w)) 4) (j h (digits w v)) at (also (digits w v ++◌) n), x, z) (deeper e.k (digits w v) n)
    go true t (suc d) z n =
        let l : at + i < 2 ^ 64 = omega arith in
        rw (t, z, two_checks (or_bad (nat_lt v (2 ^ w)) 4) (j h (digits w v)) at (also (digits w v ++◌) n), x, z, e.here (eqb-true r.code 0 t), mod-eq_of_lt l, ne_eqb (suc d) 0 (λ z. omega arith)) refl

-- past a field that the code takes no walk over, as many bits as it has
pub judge_beyond : {o : Out (List Bool)} {f g : Fmt} {h : List ℕ} {at v : ℕ} {vs : List ℕ} {r : Walk} {w : ℕ} {j : Judge} (c : ℕ) → Opens f at v vs w j g → wrong w (j h) v ≡ blamed c 0
    → Judging o f h at (v ∷ vs) r → Judging o g (v ∷ h) (at + w) vs (beyond w c r)
unfolding write_field beyond
judge_beyond {o} {f} {g} {h} {at} {v} {vs} {r} {w} {j} c opens x e = record {
  k = λ l. e.k (digits w v ++ l);
  so = e.so ∙ ap (λ y. sticky r (also e.k y)) (opens.is h) ∙ go (r.code == 0) refl c refl (write g (v ∷ h) (at + w) vs);
  here = λ z. ap (◌+ w) (e.here (clean r.code c z).0);
  long = λ z l. e.long (clean r.code c z).0 (digits w v ++ l) ∙ omega (arith, length-append (digits w v) l, length_digits w v);
}
  where
    go : (t : Bool) → (r.code == 0) ≡ t → (d : ℕ) → c ≡ d → (n : Out (List Bool))
        → sticky r (also e.k (write_field w j h at v n)) ≡ sticky (beyond w c r) (also (λ l. e.k (digits w v ++ l)) n)
    go false t d z n = simp t
    go true t zero z n = rw (t, z, two_checks (or_bad (nat_lt v (2 ^ w)) 4) (j h (digits w v)) at (also (digits w v ++◌) n), x, z) (deeper e.k (digits w v) n)
    go true t (suc d) z n =
        rw (t, z, two_checks (or_bad (nat_lt v (2 ^ w)) 4) (j h (digits w v)) at (also (digits w v ++◌) n), x, z, e.here (eqb-true r.code 0 t), ne_eqb (suc d) 0 (λ z. omega arith)) (ap (refused (suc d)) (add-zero at))

-- a byte count, which is the one that reading will find
pub judge_bytes : {o : Out (List Bool)} {f : ℕ → Fmt} {h : List ℕ} {at n : ℕ} {vs : List ℕ} {r : Walk} → extent (f n) at vs / 8 ≡ n → Judging o (bytes f) h at (n ∷ vs) r → Judging o (f n) (n ∷ h) at vs r
unfolding write sized
judge_bytes {o} {f} {h} {at} {n} {vs} {r} z e = record {
  k = e.k;
  so = e.so ∙ ap (λ y. sticky r (also e.k y)) (go (write (f n) (n ∷ h) at vs) refl);
  here = e.here;
  long = e.long;
}
  where
    go : (y : Out (List Bool)) → write (f n) (n ∷ h) at vs ≡ y → sized n at y ≡ y
    go (accepted l) d = sized_at n at l (ap (λ m. m / 8) (extent_laid (f n) (n ∷ h) at vs l d) ∙ z)
    go (refused c p) d = refl

-- where something was refused, the rest does not matter
pub judge_refused : {o : Out (List Bool)} {f g : Fmt} {h : List ℕ} {at : ℕ} {vs : List ℕ} {r : Walk} (h' : List ℕ) (to : ℕ) (us : List ℕ) → (r.code ≢ 0) → Judging o f h at vs r → Judging o g h' to us r
judge_refused {g = g} {r = r} h' to us n e = record {
  k = e.k;
  so = e.so ∙ stuck r (also e.k (write _ _ _ _)) n ∙ sym (stuck r (also e.k (write g h' to us)) n);
  here = λ z. absurd (n z);
  long = λ z l. absurd (n z);
}

-- ---- the fault of a value

-- a test that is limits, for the values that fit
abbrev pub Limits : ℕ → Test → List ℕ → ℕ → ℕ → ℕ → Type 0
Limits w t h v lo hi = v < 2 ^ w → t h v ≡ (lo ‥ hi) h v

wrong_limits : (w lo hi : ℕ) (t : Test) (h : List ℕ) (v : ℕ) → hi < 2 ^ w → Limits w t h v lo hi → wrong w (only w 4 t h) v ≡ blamed (cond (nat_le lo v && nat_le v hi) 0 4) 0
wrong_limits w lo hi t h v n k = go (nat_lt v (2 ^ w)) refl
  where
    over : 2 ^ w ≤ v → ◌≡◌ {A = ℕ} (cond (nat_le lo v && nat_le v hi) 0 4) 4
    over l = rw (lt-leb v hi (omega arith), and-false)

    go : (t' : Bool) → nat_lt v (2 ^ w) ≡ t' → wrong w (only w 4 t h) v ≡ blamed (cond (nat_le lo v && nat_le v hi) 0 4) 0
    go true e = let l = ltb-true v (2 ^ w) e in wrong_narrow w 3 t h v l ∙ ap (λ x. blamed (cond x 0 4) 0) (k l)
    go false e = let l = ltb-false v (2 ^ w) e in wrong_wide w 3 t h v l ∙ ap (λ c. blamed c 0) (sym (over l))

-- ---- the steps of the code

module _ {o : Out (List Bool)} {h : List ℕ} {at v : ℕ} {vs : List ℕ} {r g : Walk} (w : ℕ) (reach : at + w < 2 ^ 64) where
  -- between limits, which may hang on the values before
  pub judge_limits : {f : Fmt} (t : Test) (lo hi : ℕ) → hi < 2 ^ w → Limits w t h v lo hi → Judging o (num w t f) h at (v ∷ vs) r → g ≡ valued w v lo hi r
      → Judging o f (v ∷ h) (at + w) vs g
  judge_limits t lo hi n k e d = judge true v _ 0 (omega arith) reach opens_field (wrong_limits w lo hi t h v n k) e d

  pub judge_num : {f : Fmt} (lo hi : ℕ) → hi < 2 ^ w → Judging o (num w (lo ‥ hi) f) h at (v ∷ vs) r → g ≡ valued w v lo hi r → Judging o f (v ∷ h) (at + w) vs g
  judge_num lo hi n e d = judge_limits (lo ‥ hi) lo hi n (λ l. refl) e d

  pub judge_deciding : {f : ℕ → Fmt} (lo hi : ℕ) → hi < 2 ^ w → Judging o (deciding w (lo ‥ hi) f) h at (v ∷ vs) r → g ≡ valued w v lo hi r
      → Judging o (f v) (v ∷ h) (at + w) vs g
  judge_deciding lo hi n e d = judge true v _ 0 (omega arith) reach opens_choice (wrong_limits w lo hi (lo ‥ hi) h v n (λ l. refl)) e d

  pub judge_signed : {f : Fmt} (m x full : ℕ) → full ≡ 2 ^ w → Judging o (num w (signed w m x) f) h at (v ∷ vs) r → g ≡ signedly_valued w v full m (2 ^ w - m) x r
      → Judging o f (v ∷ h) (at + w) vs g
  judge_signed m x full n e d = judge true v _ 0 (omega arith) reach opens_field (rw n (go (nat_lt v (2 ^ w)) refl)) e d
    where
      go : (t : Bool) → nat_lt v (2 ^ w) ≡ t → wrong w (only w 4 (signed w m x) h) v ≡ blamed (cond t (cond (signed w m x h v) 0 4) 4) 0
      go true e = wrong_narrow w 3 (signed w m x) h v (ltb-true v (2 ^ w) e)
      go false e = wrong_wide w 3 (signed w m x) h v (ltb-false v (2 ^ w) e)

-- limits that hold only where nothing was refused before, as those that an earlier value sets
pub judge_late : {o : Out (List Bool)} {h : List ℕ} {at v : ℕ} {vs : List ℕ} {r g : Walk} {f : Fmt} (w : ℕ) (t : Test) (lo hi : ℕ) → at + w < 2 ^ 64 → (r.code ≡ 0 → (hi < 2 ^ w) × Limits w t h v lo hi)
    → Judging o (num w t f) h at (v ∷ vs) r → g ≡ valued w v lo hi r → Judging o f (v ∷ h) (at + w) vs g
unfolding onward
judge_late {o} {h} {at} {v} {vs} {r} {g} {f} w t lo hi reach x e d = go (r.code == 0) refl
  where
    late : (r.code ≢ 0) → (valued w v lo hi r).code ≢ 0
    late n = rw (ne_eqb r.code 0 n) n

    go : (y : Bool) → (r.code == 0) ≡ y → Judging o f (v ∷ h) (at + w) vs g
    go true y = let (n, k) = x (eqb-true r.code 0 y) in judge_limits w reach t lo hi n k e d
    go false y = let n = eqb-false r.code 0 y in subst⁻¹ (λ q. Judging o f (v ∷ h) (at + w) vs q) d (record {
      k = e.k;
      so = e.so ∙ rw (y, y) refl;
      here = λ z. absurd (late n z);
      long = λ z l. absurd (late n z);
    })

-- a value that was judged good lies between its limits
pub valued_between : {g : Walk} (r : Walk) (w v lo hi : ℕ) → g ≡ valued w v lo hi r → g.code ≡ 0 → (lo ≤ v) × (v ≤ hi)
unfolding onward
valued_between r w v lo hi d z = go (r.code == 0) (nat_le lo v) (nat_le v hi) refl refl refl (sym (ap (λ q. q.code) d) ∙ z)
  where
    go : (x y u : Bool) → (r.code == 0) ≡ x → nat_le lo v ≡ y → nat_le v hi ≡ u → cond x (cond (y && u) 0 4) r.code ≡ 0 → (lo ≤ v) × (v ≤ hi)
    go false y u ex ey eu z = absurd (eqb-false r.code 0 ex z)
    go true true true ex ey eu z = (leb-true lo v ey, leb-true v hi eu)
    go true true false ex ey eu z = absurd (omega (arith, z))
    go true false u ex ey eu z = absurd (omega (arith, z))

-- a field whose judge tells the number c of the record's value, which has at most w bits
pub judge_tells : {o : Out (List Bool)} {f g : Fmt} {h : List ℕ} {at v : ℕ} {vs : List ℕ} {r q : Walk} {j : Judge} {fault_of : ℕ → ℕ} (w : ℕ) (b : Bool) (u c : ℕ) → at + w < 2 ^ 64 → v < 2 ^ w
    → Tells w (j h) fault_of → c ≡ fault_of v → Opens f at v vs w j g → Judging o f h at (v ∷ vs) r → q ≡ onward w b u c 0 r → Judging o g (v ∷ h) (at + w) vs q
judge_tells {v = v} w b u c reach l x z opens e d = judge b u c 0 (omega arith) reach opens (wrong_tells w v x l ∙ ap (λ c. blamed c 0) (sym z)) e d

-- a field that the record does not hold
pub judge_fixed : {o : Out (List Bool)} {f : Fmt} {h : List ℕ} {at : ℕ} {vs : List ℕ} {r g : Walk} {m : List ℕ → Bool} (w c n : ℕ) → at + w < 2 ^ 64 → n < 2 ^ w
    → Judging o (field w (only w (suc c) (n ‥ n)) m f) h at (n ∷ vs) r → g ≡ onward w false n 0 0 r → Judging o f (n ∷ h) (at + w) vs g
judge_fixed {h = h} w c n reach l e d =
    let x : cond (nat_le n n && nat_le n n) 0 (suc c) ≡ 0 = rw (le-leb n n (le_refl n)) refl in
    judge false n 0 0 (omega arith) reach opens_field (wrong_narrow w c (n ‥ n) h n l ∙ ap (λ c. blamed c 0) x) e d

-- ---- the start and the end

-- the test of the kind answered c
pub judge_start : (all : Fmt) (i c : ℕ) (vs : List ℕ) {r : Walk} → r ≡ begun c i → Judging (check (fault c) 0 (write all [] 0 vs)) all [] 0 vs r
judge_start all i c vs d = subst⁻¹ (λ r. Judging (check (fault c) 0 (write all [] 0 vs)) all [] 0 vs r) d
    (record { k = λ l. l; so = go c (write all [] 0 vs); here = λ z. refl; long = λ z l. omega arith })
  where
    go : (c : ℕ) (o : Out (List Bool)) → check (fault c) 0 o ≡ cond (c == 0) (also (λ l. l) o) (refused c 0)
    go zero (accepted l) = refl
    go zero (refused d p) = refl
    go (suc c) o = rw (ne_eqb (suc c) 0 (λ z. omega arith)) refl

-- The values are judged: their bits, which end at a whole byte, or r's refusal.
pub record Judged (o : Out (List Bool)) (r : Walk) : Type 0 where
  pub laid : List Bool
  pub so : o ≡ sticky r (accepted laid)
  pub long : r.code ≡ 0 → length laid ≡ r.at + pad r.at

pub judge_end : {o : Out (List Bool)} {h : List ℕ} {at : ℕ} {r : Walk} → Judging o end h at [] r → Judged o r
unfolding write
judge_end {at = at} {r} e = record {
  laid = e.k (digits (pad at) 0);
  so = e.so;
  long = λ z. e.long z (digits (pad at) 0) ∙ ap (at +◌) (length_digits (pad at) 0) ∙ ap (λ a. a + pad a) (sym (e.here z));
}
