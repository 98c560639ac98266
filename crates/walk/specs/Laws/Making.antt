-- Writing a message of any layout: what the code answers, and leaves in a lent buffer. Assumes nothing.
use Rattle.std.specs.Prelude.{◌≡◌, ℕ, suc, ◌+◌, ◌*◌, ◌/◌, ◌<◌, ◌≤◌, Bool, true, false, cond, List, [], ◌∷◌, ◌++◌, length, take, drop, ◌==◌, ◌≢◌, nat_le, Result, IsErrAnd}
use Rattle.std.proofs.Math.Path.{refl, ap}
use Rattle.std.proofs.Common.{sym, subst, ap₂, ◌∙◌, length-append, take-append-drop, take_at, drop_at, drop-drop}
use native.Mathlib.Omega.{arith}
use borrow.Author.Tests.{leb-true, lt-ltb, eqb-true, eqb-false}
use Rattle.bits.specs.Bits.{bytes_of}
use Rattle.bits.specs.Laws.Bytes.{length_bytes}
use Rattle.bits.specs.Xor.{xor_of}
use Rattle.format.specs.Fmt.{Out, accepted, refused, Fault, good, bad, check, after, write}
use Rattle.walk.specs.Judging.{beyond, bytes_to, made, verdict, closing}
use Rattle.format.specs.Promises.{Writes}
use Rattle.format.specs.Refusals.{shown, bare, seen_refusal, told_of}
use Rattle.format.specs.declared.Refusal.{Refusal}
use Rattle.format.specs.Laws.Outcomes.{number_some, told_exit}
use Rattle.format.specs.Refusals.{Verdict}
use Rattle.format.specs.Sealing.{stamped}
use Rattle.format.specs.Message.{Layout, fault, between, size, sealed, closed, told, into, refuses, accepts, write_message}
use Rattle.walk.specs.Laws.Judging.{Judged}
use Rattle.format.specs.Laws.Putting.{Puts}
use Rattle.format.specs.Laws.Round.{checked}
use Rattle.walk.specs.Laws.Step.{sticky, clear}
use Rattle.walk.specs.Walk.{Walk}

length_sealed : (z : Bool) (t : List ℕ) (at : ℕ) → length t ≡ bytes_to at → length (sealed z t) ≡ made z at
length_sealed false t at e = e
length_sealed true t at e = length-append t (xor_of t ∷ []) ∙ ap (◌+ 1) e

-- what is the same past the fields is the same past the seal
drop_made : (z : Bool) (at : ℕ) (s t : List ℕ) → drop (bytes_to at) t ≡ drop (bytes_to at) s → drop (made z at) t ≡ drop (made z at) s
drop_made false at s t e = e
drop_made true at s t e = sym (drop-drop 1 (bytes_to at) t) ∙ ap (drop 1) e ∙ drop-drop 1 (bytes_to at) s

made_above : (z : Bool) (at : ℕ) → bytes_to at ≤ made z at
made_above false at = omega arith
made_above true at = omega arith

-- a caller's m bytes behind the walk r
pub closing_beyond : (z : Bool) (least most room m : ℕ) (r : Walk) → closing z least most room (beyond (m * 8) 0 r) ≡ verdict (shown r.code r.offset) least most room (made z r.at + m)
unfolding beyond
closing_beyond z least most room m r = ap₂ (λ c n. verdict c least most room n) (own (r.code == 0) refl) (more z)
  where
    own : (x : Bool) → (r.code == 0) ≡ x → shown (cond x 0 r.code) (cond x 0 r.offset) ≡ shown r.code r.offset
    own true e = ap (λ c. shown c r.offset) (sym (eqb-true r.code 0 e))
    own false e = refl

    more : (z : Bool) → made z (r.at + m * 8) ≡ made z r.at + m
    more false = omega arith
    more true = omega arith

module _ (l : Layout) (vs s : List ℕ) {r : Walk} (j : Judged (check (fault (l.kind vs)) 0 (write l.fmt [] 0 vs)) r) where
  abbrev n : ℕ
  n = bytes_to r.at

  abbrev whole : ℕ
  whole = made l.seal r.at

  abbrev message : List ℕ
  message = sealed l.seal (bytes_of n j.laid)

  long : length message ≡ whole
  long = length_sealed l.seal (bytes_of n j.laid) r.at (length_bytes n j.laid)

  -- the message, or the first refusal
  makes : write_message l vs ≡ sticky r (check (fault (size l whole)) 0 (accepted message))
  unfolding write_message
  makes = first (fault (l.kind vs)) (write l.fmt [] 0 vs) ∙ ap (λ o. after o (closed l)) j.so ∙ go (r.code == 0) refl
    where
      first : (x : Fault) (o : Out (List Bool)) → check x 0 (after o (closed l)) ≡ after (check x 0 o) (closed l)
      first good o = refl
      first (bad c i) o = refl

      go : (t : Bool) → (r.code == 0) ≡ t → after (cond t (accepted j.laid) (refused r.code r.offset)) (closed l) ≡ cond t (check (fault (size l whole)) 0 (accepted message)) (refused r.code r.offset)
      go false t = refl
      go true t =
          let m : length j.laid / 8 ≡ n = omega (arith, j.long (eqb-true r.code 0 t)) in
          rw (m, long) refl

  -- what closing the walk says is what writing tells, refused or not
  pub closing_told : {code : Verdict} → code ≡ closing l.seal l.least l.most (length s) r → code ≡ told (into s (write_message l vs))
  closing_told e = e ∙ go (r.code == 0) (between l.least l.most whole) (nat_le whole (length s)) refl refl refl
    where
      go : (x y z : Bool) → (r.code == 0) ≡ x → between l.least l.most whole ≡ y → nat_le whole (length s) ≡ z
          → cond x (cond y (cond z (bare 0) (bare 6)) (bare 1)) (shown r.code r.offset) ≡ told (into s (write_message l vs))
      go false y z ex ey ez = sym (ap (λ o. told (into s o)) makes ∙ rw ex refl)
      go true false z ex ey ez = sym (ap (λ o. told (into s o)) makes ∙ rw (ex, ey) refl)
      go true true false ex ey ez = sym (ap (λ o. told (into s o)) makes ∙ rw (ex, ey, long, ez) refl)
      go true true true ex ey ez = sym (ap (λ o. told (into s o)) makes ∙ rw (ex, ey, long, ez) refl)

  -- nothing is written
  pub write_refused : {code : Verdict} → code ≡ closing l.seal l.least l.most (length s) r → (code.code ≢ 0) → Writes l s code s vs
  write_refused {code} e h = go (r.code == 0) (between l.least l.most whole) (nat_le whole (length s)) refl refl refl
    where
      go : (x y z : Bool) → (r.code == 0) ≡ x → between l.least l.most whole ≡ y → nat_le whole (length s) ≡ z → Writes l s code s vs
      go false y z ex ey ez =
          let m : into s (write_message l vs) ≡ refused r.code r.offset = ap (into s) makes ∙ rw ex refl in
          let a = refuses {s = s} m in
          (e ∙ rw ex a.0, a.1)
      go true false z ex ey ez =
          let m : into s (write_message l vs) ≡ refused 1 0 = ap (into s) makes ∙ rw (ex, ey) refl in
          let a = refuses {s = s} m in
          (e ∙ rw (ex, ey) a.0, a.1)
      go true true false ex ey ez =
          let m : into s (write_message l vs) ≡ refused 6 0 = ap (into s) makes ∙ rw (ex, ey, long, ez) refl in
          let a = refuses {s = s} m in
          (e ∙ rw (ex, ey, ez) a.0, a.1)
      go true true true ex ey ez = absurd (h (ap (λ c. c.code) e ∙ rw (ex, ey, ez) refl))

  -- the same where it is handed on
  pub closes_exit : {A : Type 0} (x : Result A Refusal) (f : Refusal) → IsErrAnd x (λ g. g ≡ f) → seen_refusal f ≡ closing l.seal l.least l.most (length s) r → Writes l s (told_of x) s vs
  closes_exit x f h e = subst (λ c. Writes l s c s vs) (sym (told_exit x f h)) (write_refused e (number_some f.reason))

  -- t has the fields, and u the seal besides
  pub write_stands : {code : Verdict} {t u : List ℕ} → code ≡ closing l.seal l.least l.most (length s) r → code.code ≡ 0 → Puts l.fmt vs s t
      → u ≡ sealed l.seal (take n t) ++ drop whole t → Writes l s (bare 0) u vs
  write_stands {code} {t} {u} e h p d = go (r.code == 0) (between l.least l.most whole) (nat_le whole (length s)) refl refl refl (ap (λ c. c.code) (sym e) ∙ h)
    where
      go : (x y z : Bool) → (r.code == 0) ≡ x → between l.least l.most whole ≡ y → nat_le whole (length s) ≡ z → ◌≡◌ {A = ℕ} (cond x (cond y (cond z (bare 0) (bare 6)) (bare 1)) (shown r.code r.offset)).code 0 → Writes l s (bare 0) u vs
      go false y z ex ey ez k = absurd (eqb-false r.code 0 ex k)
      go true false z ex ey ez k = absurd (omega (arith, k))
      go true true false ex ey ez k = absurd (omega (arith, k))
      go true true true ex ey ez k =
          let q : length j.laid ≡ n * 8 = omega (arith, j.long (eqb-true r.code 0 ex)) in
          let m : length j.laid / 8 ≡ n = omega arith in
          let w : write l.fmt [] 0 vs ≡ accepted j.laid = (checked (fault (l.kind vs)) 0 (write l.fmt [] 0 vs) (j.so ∙ clear r (accepted j.laid) (eqb-true r.code 0 ex))).1 in
          let room : n ≤ length s = omega (arith, leb-true whole (length s) ez, made_above l.seal r.at) in
          let t' : t ≡ bytes_of n j.laid ++ drop n s = p j.laid w (omega arith) ∙ ap (λ i. bytes_of i j.laid ++ drop i s) m in
          let front : take n t ≡ bytes_of n j.laid = ap (take n) t' ∙ take_at (bytes_of n j.laid) (drop n s) n (length_bytes n j.laid) in
          let back : drop n t ≡ drop n s = ap (drop n) t' ∙ drop_at (bytes_of n j.laid) (drop n s) n (length_bytes n j.laid) in
          let u' : u ≡ message ++ drop whole s = d ∙ ap₂ (λ a b. sealed l.seal a ++ b) front (drop_made l.seal r.at s t back) in
          let i : into s (write_message l vs) ≡ accepted u = ap (into s) makes ∙ rw (ex, ey, long, ez) (ap accepted (sym u')) in
          accepts s i

  -- with no seal
  pub write_bare : {code : Verdict} {t : List ℕ} → l.seal ≡ false → code ≡ closing l.seal l.least l.most (length s) r → code.code ≡ 0 → Puts l.fmt vs s t → Writes l s (bare 0) t vs
  write_bare {t = t} z e h p = write_stands e h p (rw z (sym (take-append-drop n t)))

  -- with the seal stamped behind the fields
  pub write_stamped : {code : Verdict} {n : ℕ} {t u : List ℕ} → l.seal ≡ true → code ≡ closing l.seal l.least l.most (length s) r → code.code ≡ 0 → Puts l.fmt vs s t → length t ≡ length s
      → n ≡ bytes_to r.at → u ≡ stamped n t → Writes l s (bare 0) u vs
  unfolding stamped
  write_stamped {n = n} {t} z e h p same k d =
      let room : bytes_to r.at < length t = omega (arith, fits (ap (λ c. c.code) (sym e) ∙ h), same, ap (λ z. made z r.at) z) in
      let next : suc (bytes_to r.at) ≡ bytes_to r.at + 1 = omega arith in
      write_stands e h p (d ∙ rw (k, lt-ltb (bytes_to r.at) (length t) room, z, next) refl)
    where
      fits : (closing l.seal l.least l.most (length s) r).code ≡ 0 → whole ≤ length s
      fits = go (r.code == 0) (between l.least l.most whole) (nat_le whole (length s)) refl refl
        where
          go : (x y z : Bool) → (r.code == 0) ≡ x → nat_le whole (length s) ≡ z → (cond x (cond y (cond z (bare 0) (bare 6)) (bare 1)) (shown r.code r.offset)).code ≡ 0 → whole ≤ length s
          go x y true ex ez k = leb-true whole (length s) ez
          go false y false ex ez k = absurd (eqb-false r.code 0 ex k)
          go true true false ex ez k = absurd (omega (arith, k))
          go true false false ex ez k = absurd (omega (arith, k))
