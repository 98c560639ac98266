-- The end of a walk, and what the whole walk says of the message: its answer, and where the sought field stood. Assumes nothing.
use Rattle.std.specs.Prelude.{◌≡◌, ℕ, ◌+◌, ◌-◌, ◌*◌, ◌/◌, ◌%◌, ◌^◌, ◌<◌, ◌≤◌, Bool, true, false, cond, List, [], length, take, drop, ◌==◌, nat_eq, refl}
use Rattle.std.proofs.Common.{ap, ◌∙◌, subst, arith, add-zero, mod-eq_of_lt, length-drop, eq-eqb, ne_eqb, eqb-true}
use Rattle.std.proofs.Math.Path.{subst⁻¹}
use Rattle.std.proofs.lemmas.Bool.{eqb-false}
use Rattle.bits.specs.Bits.{value_of, bits_of, field_at}
use Rattle.bits.specs.Answers.{got}
use Rattle.bits.specs.Laws.Answers.{got_fits}
use Rattle.bits.specs.Laws.Bytes.{length_bits}
use Rattle.format.specs.Fmt.{Out, accepted, Fmt, end, also, read, pad, spot}
use Rattle.walk.specs.Reading.{ended}
use Rattle.walk.specs.Faults.{closes}
use Rattle.walk.specs.Laws.Step.{sticky, stood, sought, Reading, clean}
use Rattle.walk.specs.Walk.{Walk}

-- The whole walk: its answer, and where the field i stood.
pub record Walked (o : Out (List ℕ)) (all : Fmt) (i : ℕ) (vs : List ℕ) (r : Walk) : Type 0 where
  pub so : o ≡ sticky r (accepted vs)
  pub spots : r.code ≡ 0 → spot all [] vs i ≡ stood r
  pub slim : r.width ≤ 32

pub same_values : {o : Out (List ℕ)} {all : Fmt} {i : ℕ} {us vs : List ℕ} {r : Walk} → us ≡ vs → Walked o all i us r → Walked o all i vs r
same_values {o} {all} {i} {r = r} e x = subst (λ vs. Walked o all i vs r) e x

-- fill bits up to a whole byte, and nothing behind them
pub finish : {o : Out (List ℕ)} {all : Fmt} {i : ℕ} {s : List ℕ} {h : List ℕ} {at : ℕ} {k : List ℕ → List ℕ} {r q : Walk} → at + 8 < 2 ^ 64
    → Reading o all i s end h at k r → q ≡ ended s r → Walked o all i (k []) q
unfolding read spot ended closes field_at
finish {o} {all} {i} {s} {h} {at} {k} {r} reach e d =
    subst⁻¹ (λ q. Walked o all i (k []) q) d
    (record { so = e.so ∙ go (r.code == 0) refl; spots = λ z. e.spots (clean r.code (closes s r.at) z).0 [] ∙ sits r.seek refl; slim = thin r.seek })
  where
    b : List Bool
    b = drop at (bits_of s)

    long : length b ≡ length s * 8 - at
    long = length-drop at (bits_of s) ∙ ap (◌- at) (length_bits s)

    near : (n : ℕ) → n < 8 → (at + n) % 2 ^ 64 ≡ at + n
    near n l = mod-eq_of_lt (lower l)
      where
        lower : n < 8 → at + n < 2 ^ 64
        lower l = omega (arith, reach)

    fits : at ≤ length s * 8 → pad at ≤ length s * 8 - at
    fits l = omega arith

    takes : at ≤ length s * 8 → got s at (pad at) ≡ value_of (take (pad at) b)
    takes l = got_fits s at (pad at) (omega arith) (omega (arith, fits l))

    closed : nat_eq r.code 0 ≡ true → at ≤ length s * 8 → (x y : Bool) → (value_of (take (pad at) b) == 0) ≡ x → (at / 8 + (at % 8 + 7) / 8 == length s) ≡ y
        → sticky r (also k (read end h at b)) ≡ sticky (ended s r) (accepted (k []))
    closed c l false y ex ey = rw (c, e.here, takes l, ex, near 0 (omega arith)) refl
    closed c l true true ex ey =
        let z = eqb-true (at / 8 + (at % 8 + 7) / 8) (length s) ey in
        rw (c, e.here, takes l, ex, ey, eq-eqb (length b) (pad at) (omega (arith, long))) refl
    closed c l true false ex ey =
        let z = eqb-false (at / 8 + (at % 8 + 7) / 8) (length s) ey in
        rw (c, e.here, takes l, ex, ey, ne_eqb (length b) (pad at) (λ q. z (omega (arith, long))), near (pad at) (omega arith), add-zero (at + pad at)) refl

    go : (x : Bool) → (r.code == 0) ≡ x → sticky r (also k (read end h at b)) ≡ sticky (ended s r) (accepted (k []))
    go false ex = simp ex
    go true ex = closed ex (e.within (eqb-true r.code 0 ex)) (value_of (take (pad at) b) == 0) (at / 8 + (at % 8 + 7) / 8 == length s) refl refl

    sits : (x : Bool) → r.seek ≡ x → sought r at (spot end h []) ≡ stood (ended s r)
    sits true e = rw e refl
    sits false e = rw e refl

    thin : (x : Bool) → cond x 0 r.width ≤ 32
    thin true = omega arith
    thin false = e.slim
