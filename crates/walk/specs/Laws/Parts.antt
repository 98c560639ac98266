-- A field made of parts, read: its judge sees the bits that there are, cut or whole, and the walk stands behind it with its value. Assumes nothing.
use Rattle.std.specs.Prelude.{◌≡◌, ℕ, ◌+◌, ◌-◌, ◌*◌, ◌^◌, ◌<◌, ◌≤◌, min, Bool, true, false, cond, List, ◌∷◌, length, take, drop, nat_le}
use Rattle.std.proofs.Math.Path.{refl, sym, ap, subst⁻¹}
use Rattle.std.proofs.Common.{◌∙◌, arith, length-take, length-drop, take-take, leb-true, leb-false}
use Rattle.std.proofs.Math.Bool.{and-false}
use Rattle.std.proofs.Math.Nat.{min-eq_left, mod-eq_of_lt}
use Rattle.std.proofs.Math.Seq.{take-length}
use Rattle.std.proofs.lemmas.Bool.{lt-leb}
use Rattle.bits.specs.Answers.{within, got}
use Rattle.bits.specs.Bits.{value_of, bits_of, field_at}
use Rattle.bits.specs.Laws.Answers.{within_true, got_fits}
use Rattle.bits.specs.Laws.Bytes.{length_bits}
use Rattle.bits.specs.Laws.Digits.{digits_value, value_lt, value_nil}
use Rattle.format.specs.Fmt.{Out, Fault, good, bad, or_bad, Judge, Fmt, field}
use Rattle.format.specs.Words.{or_else, free}
use Rattle.format.specs.Laws.Tells.{blamed}
use Rattle.walk.specs.Pieces.{unpieced, lying}
use Rattle.walk.specs.Reading.{grouped, group_read, group_judged}
use Rattle.walk.specs.Walk.{onward}
use Rattle.walk.specs.Laws.Pieces.{Matches}
use Rattle.walk.specs.Laws.Reading.{got_lt}
use Rattle.walk.specs.Laws.Step.{Reading, flaw, step}
use Rattle.walk.specs.Pieces.{Pieces}
use Rattle.walk.specs.Walk.{Walk}

-- a field that is there lies there as its number
pub lying_whole : (s : List ℕ) (at w : ℕ) → at + w ≤ length s * 8 → lying s at w ≡ unpieced w (got s at w)
lying_whole s at w l = ap (λ n. unpieced n (got s at n)) (min-eq_left (omega arith))

module _ (s : List ℕ) (at w : ℕ) (small : w ≤ 32) where
  abbrev rest : List Bool
  rest = drop at (bits_of s)

  abbrev b : List Bool
  b = take w rest

  long : length b ≡ min w (length s * 8 - at)
  long = length-take w rest ∙ ap (min w) (length-drop at (bits_of s) ∙ ap (◌- at) (length_bits s))

  -- the bits that there are spell the number that is got
  spelt : got s at (length b) ≡ value_of b
  unfolding field_at
  spelt = go (nat_le at (length s * 8)) refl
    where
      first : take (length b) rest ≡ b
      first = sym (take-take (length b) w rest (omega (arith, long))) ∙ take-length b

      go : (t : Bool) → nat_le at (length s * 8) ≡ t → got s at (length b) ≡ value_of b
      go true t = got_fits s at (length b) (omega (arith, long)) (omega (arith, long, leb-true at (length s * 8) t)) ∙ ap value_of first
      go false t =
          let l = leb-false at (length s * 8) t in
          let none : length b ≡ 0 = omega (arith, long) in
          ap (λ x. cond x (field_at s at (length b)) 0) (outside (length b) l) ∙ sym (ap value_of (sym first ∙ ap (λ n. take n rest) none) ∙ value_nil)
        where
          outside : (n : ℕ) → length s * 8 < at → within (length s) at n ≡ false
          outside n l = rw (lt-leb (at + n) (length s * 8) (omega arith)) (and-false (nat_le n 32))

  lying_is : lying s at w ≡ unpieced (length b) (value_of b)
  lying_is = ap (λ n. unpieced n (got s at n)) (sym long) ∙ ap (unpieced (length b)) spelt

  module _ (j : List Bool → Fault) (J : Pieces → Pieces) (x : Matches j w J) where
    abbrev g : Pieces
    g = J (lying s at w)

    says : j b ≡ blamed g.code g.into
    says =
        ap j (sym (digits_value (length b) b refl)) ∙ x.so (length b) (value_of b) (omega (arith, long)) (value_lt b)
        ∙ ap (λ p. blamed (J p).code (J p).into) (sym lying_is)

    -- what is cut is refused by one of its parts
    group_flaw : flaw w j rest ≡ blamed g.code g.into
    group_flaw = go (nat_le w (length rest)) refl (j b) refl ∙ says
      where
        go : (t : Bool) → nat_le w (length rest) ≡ t → (y : Fault) → j b ≡ y → or_else y (or_bad t 1) ≡ y
        go t e (bad c i) d = refl
        go true e good d = refl
        go false e good d = absurd (omega (arith, x.there b d, leb-false w (length rest) e, length-take w rest))

    group_holds : 0 < w → g.code ≡ 0 → got s at w ≡ value_of b
    unfolding field_at
    group_holds some z =
        let l = x.there b (says ∙ ap (λ c. blamed c g.into) z) in
        got_fits s at w small (omega (arith, l, long))

    group_into : g.into ≤ w
    group_into = let l = x.inner (min w (length s * 8 - at)) (got s at (min w (length s * 8 - at))) in omega (arith, l)

module _ {o : Out (List ℕ)} {all : Fmt} {i : ℕ} {s : List ℕ} {h : List ℕ} {at : ℕ} {k : List ℕ → List ℕ} {r q : Walk} {f : Fmt} {j : Judge} {J : Pieces → Pieces} (w : ℕ) where
  pub step_group : 0 < w → w ≤ 32 → at + w < 2 ^ 64 → Matches (j h) w J → Reading o all i s (field w j free f) h at k r → q ≡ group_read s w J r
      → Reading o all i s f (q.v ∷ h) (at + w) (λ vs. k (q.v ∷ vs)) q
  unfolding onward
  step_group some small reach x e d =
      let is : q ≡ grouped w (got s at w) (J (lying s at w)) r = d ∙ ap (λ a. grouped w (got s a w) (J (lying s a w)) r) e.here in
      subst⁻¹ (λ q. Reading o all i s f (q.v ∷ h) (at + w) (λ vs. k (q.v ∷ vs)) q) is
      (step (got s at w) e (record { findable = λ e. (some, small); reach = reach; into = group_into s at w small (j h) J x; same = group_flaw s at w small (j h) J x; holds = group_holds s at w small (j h) J x some }))

  -- a field that is there, by its number
  pub step_there : 0 < w → w ≤ 32 → at + w < 2 ^ 64 → at + w ≤ length s * 8 → Matches (j h) w J → Reading o all i s (field w j free f) h at k r → q ≡ group_judged w J (got s r.at w) r
      → Reading o all i s f (q.v ∷ h) (at + w) (λ vs. k (q.v ∷ vs)) q
  step_there some small reach there x e d =
      step_group some small reach x e (d ∙ ap (λ p. grouped w (got s r.at w) (J p) r) (sym (lying_whole s r.at w (omega (arith, there, e.here)))))

-- ---- its value and its offset; a field that is there is judged by its number, one that is cut by the bits that there are

module _ (s : List ℕ) (r : Walk) (n : ℕ) (J : Pieces → Pieces) {q : Walk} where
  pub group_v : q ≡ group_read s n J r → q.v ≡ got s r.at n
  unfolding onward
  group_v d = ap (λ q. q.v) d

  pub group_at : r.at + n < 2 ^ 64 → q ≡ group_read s n J r → q.at ≡ r.at + n
  unfolding onward
  group_at reach d = ap (λ q. q.at) d ∙ mod-eq_of_lt reach

  group_fits : q ≡ group_read s n J r → (q ≡ group_read s n J r) × (q.v < 2 ^ n)
  group_fits d = (d, got_lt s r.at n (group_v d))

  module _ {there : Bool} (is : there ≡ within (length s) r.at n) where
    pub group_whole : {v : ℕ} → there ≡ true → q ≡ group_judged n J v r → v ≡ got s r.at n → (q ≡ group_read s n J r) × (q.v < 2 ^ n)
    group_whole t e x =
        let whole = lying_whole s r.at n (within_true (length s) r.at n (sym is ∙ t)).1 in
        group_fits (e ∙ ap (λ v. group_judged n J v r) x ∙ ap (λ p. grouped n (got s r.at n) (J p) r) (sym whole))

    pub group_cut : {g : Pieces} → there ≡ false → q ≡ grouped n 0 g r → g ≡ J (lying s r.at n) → (q ≡ group_read s n J r) × (q.v < 2 ^ n)
    group_cut t e x =
        let none : 0 ≡ got s r.at n = sym (ap (λ b. cond b (field_at s r.at n) 0) (sym is ∙ t)) in
        group_fits (e ∙ ap (λ g. grouped n 0 g r) x ∙ ap (λ v. grouped n v (J (lying s r.at n)) r) none)
