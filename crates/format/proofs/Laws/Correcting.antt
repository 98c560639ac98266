-- The code corrects in place: it changes the field's bits, reads the fields again, puts the old bits back where they are refused, and makes the seal anew. Its steps have one answer each. Assumes nothing.
use Rattle.std.specs.Prelude.{◌≡◌, Bool, false, cond, ℕ, ◌+◌, ◌*◌, ◌≤◌, ◌<◌, ◌^◌, ltb, length}
use Rattle.std.proofs.Math.Path.{refl}
use Rattle.std.proofs.Common.{sym, ap, ◌∙◌, arith, eq-eqb, eqb-true, ltb-true, ltb-false}
use Rattle.std.proofs.Math.Bool.{true}
use mathlib.Core.List.{List, []}
use Rattle.std.proofs.Math.Dec.{eqb}
use Rattle.std.proofs.lemmas.Bool.{eqb-false}
use Rattle.bits.specs.Bits.{Bytes, bits_of, field_at, put_at}
use Rattle.bits.specs.Laws.Answers.{one_answer, got_fits, puttable_fits}
use Rattle.bits.specs.Laws.Fields.{field_lt, length_put, put_put, put_field}
use Rattle.format.specs.Correcting.{standing, admitted, put_in, Begins, Finishes}
use Rattle.format.specs.Refusals.{shown, bare}
use Rattle.format.specs.Refusals.{Verdict}
use Rattle.format.specs.Promises.{Corrects}
use Rattle.format.specs.Fmt.{accepted, refused, also, read, spot, found}
use Rattle.format.specs.Message.{Layout, Sound, body, sealed, told, read_message, correct_message, refuses, accepts}
use Rattle.format.specs.Sealing.{reclosed}
use Rattle.format.specs.Laws.Sealing.{length_body, body_put, reclosed_body}
use Rattle.format.proofs.Laws.Whole.{was, spot_fits, filled, correct_narrow, correct_wide}
use Rattle.format.specs.Laws.Zero.{Judged, read_zero}
use Rattle.format.proofs.Laws.Zero.{read_zero_message}
use Rattle.format.specs.Laws.Correcting.{admitted_clean, accepted_by, refused_by_lem, own_refusal}

-- Reading the message told c, and where it was accepted, the field i stands at p with w bits.
module _ (l : Layout) (ok : Sound l) (numbers : Judged l.fmt) (s : List ℕ) (i v p w : ℕ) {c : Verdict} (reads : c ≡ told (read_message l s))
    (stands : (vs : List ℕ) → read_message l s ≡ accepted vs → spot l.fmt [] vs i ≡ standing p w) (slim : w ≤ 32) where
  early : ((admitted c p w v).code ≡ 0 → ⊥) → Corrects l s i v (admitted c p w v) s
  unfolding correct_message
  early h = go (eqb c.code 0) (eqb w 0) (ltb v (2 ^ w)) refl refl refl
    where
      nowhere : (vs : List ℕ) → read_message l s ≡ accepted vs → eqb w 0 ≡ true → correct_message l s i v ≡ refused 10 0
      nowhere vs o y = rw (o, stands vs o, y) refl

      go : (x y z : Bool) → eqb c.code 0 ≡ x → eqb w 0 ≡ y → ltb v (2 ^ w) ≡ z → Corrects l s i v (admitted c p w v) s
      go false y z ex ey ez = rw ex (own_refusal l s i v reads (eqb-false c.code 0 ex))
      go true true z ex ey ez =
          let (vs, o) = accepted_by (read_message l s) reads (λ q. read_zero_message l s q numbers) (eqb-true c.code 0 ex) in
          rw (ex, ey) (refuses (nowhere vs o ey))
      go true false false ex ey ez =
          let (vs, o) = accepted_by (read_message l s) reads (λ q. read_zero_message l s q numbers) (eqb-true c.code 0 ex) in
          let e = correct_wide l ok s vs i v p w o (stands vs o ∙ rw ey refl) (ltb-false v (2 ^ w) ez) in
          rw (ex, ey, ez) (refuses e)
      go true false true ex ey ez = absurd (h (rw (ex, ey, ez) refl))

  -- The correction begun leaves t, reading whose fields tells d, and finished it answers `last` and leaves x.
  module _ (fine : Bytes s) {code : Verdict} {at width old : ℕ} {d last : Verdict} {t x : List ℕ} (begun : Begins s c p w v code at width old t)
      (again : c.code ≡ 0 → length t ≡ length s → d ≡ told (read l.fmt [] 0 (bits_of (body l.seal t)))) (finished : Finishes l.seal code at width old d t last x) where
    -- the field was changed
    module _ (on : code.code ≡ 0) where
      record Fits : Type 0 where
        values : List ℕ
        read_so : read_message l s ≡ accepted values
        spot_so : spot l.fmt [] values i ≡ found p w
        narrow : v < 2 ^ w

      fits : Fits
      fits = pass (eqb c.code 0) (eqb w 0) (ltb v (2 ^ w)) refl refl refl (ap (λ r. r.code) (sym begun.admits) ∙ on)
        where
          pass : (x y z : Bool) → eqb c.code 0 ≡ x → eqb w 0 ≡ y → ltb v (2 ^ w) ≡ z → (cond x (cond y (bare 10) (cond z (bare 0) (shown 4 p))) c).code ≡ 0 → Fits
          pass true false true ex ey ez e =
              let (vs, o) = accepted_by (read_message l s) reads (λ q. read_zero_message l s q numbers) (eqb-true c.code 0 ex) in
              record { values = vs; read_so = o; spot_so = stands vs o ∙ rw ey refl; narrow = ltb-true v (2 ^ w) ez }
          pass true false false ex ey ez e = absurd (omega (arith, e))
          pass true true z ex ey ez e = absurd (omega (arith, e))
          pass false y z ex ey ez e = absurd (eqb-false c.code 0 ex e)

      abbrev vs : List ℕ
      vs = fits.values

      inner : p + w ≤ length (body l.seal s) * 8
      inner = spot_fits l ok s vs i v p w fits.read_so fits.spot_so

      outer : p + w ≤ length s * 8
      outer = omega (arith, inner, length_body l.seal s)

      put_so : t ≡ put_at s p w v
      put_so = begun.puts ∙ rw (eq-eqb code.code 0 on, puttable_fits s p w v slim outer fits.narrow) refl

      body_so : body l.seal t ≡ put_at (body l.seal s) p w v
      body_so = ap (body l.seal) put_so ∙ body_put l.seal s p w v fine inner

      answer_so : correct_message l s i v ≡ also (λ us. sealed l.seal (body l.seal t)) (read l.fmt [] 0 (bits_of (body l.seal t)))
      answer_so =
          correct_narrow l ok s vs i v p w fits.read_so fits.spot_so fits.narrow
          ∙ ap (λ b. also (λ us. sealed l.seal b) (read l.fmt [] 0 (bits_of b))) (sym body_so)

      nonempty : l.seal ≡ true → 0 < length s
      nonempty = filled l ok s vs (was l s vs fits.read_so)

      long : length t ≡ length s
      long = ap length put_so ∙ length_put s p w v

      back : put_in t p w old ≡ s
      back =
          let o : old ≡ field_at s p w = begun.was ∙ got_fits s p w slim outer in
          let h : old < 2 ^ w = rw o (field_lt s p w) in
          rw (puttable_fits t p w old slim (omega (arith, outer, long)) h)
          (rw (put_so, o) (put_put s p w outer v (field_at s p w) ∙ put_field s p w outer fine))

      again_so : d ≡ told (read l.fmt [] 0 (bits_of (body l.seal t)))
      again_so = again (admitted_clean c p w v (ap (λ r. r.code) (sym begun.admits) ∙ on)) long

      late : Corrects l s i v last x
      late = end (eqb d.code 0) refl
        where
          end : (y : Bool) → eqb d.code 0 ≡ y → Corrects l s i v last x
          end true e =
              let (us, o) = accepted_by (read l.fmt [] 0 (bits_of (body l.seal t))) again_so (λ q. read_zero l.fmt [] 0 (bits_of (body l.seal t)) q numbers) (eqb-true d.code 0 e) in
              let a = accepts s (answer_so ∙ ap (also (λ us. sealed l.seal (body l.seal t))) o) in
              let k : x ≡ reclosed l.seal t = finished.leaves ∙ rw (eq-eqb code.code 0 on, e) refl in
              (finished.answers ∙ rw (eq-eqb code.code 0 on) (again_so ∙ ap told o ∙ a.0), k ∙ reclosed_body l.seal t (λ y. omega (arith, nonempty y, long)) ∙ a.1)
          end false e =
              let (n, q, o, same) = refused_by_lem (read l.fmt [] 0 (bits_of (body l.seal t))) again_so (eqb-false d.code 0 e) in
              let a = refuses {s = s} (answer_so ∙ ap (also (λ us. sealed l.seal (body l.seal t))) o) in
              let k : x ≡ put_in t p w old = finished.leaves ∙ rw (eq-eqb code.code 0 on, e, begun.offset, begun.wide) refl in
              (finished.answers ∙ rw (eq-eqb code.code 0 on) (same ∙ a.0), k ∙ back ∙ a.1)

    -- The code corrects in place.
    pub in_place : Corrects l s i v last x
    in_place = go (eqb code.code 0) refl
      where
        go : (y : Bool) → eqb code.code 0 ≡ y → Corrects l s i v last x
        go true e = late (eqb-true code.code 0 e)
        go false e =
            let a = early (λ z. eqb-false code.code 0 e (ap (λ r. r.code) begun.admits ∙ z)) in
            (finished.answers ∙ rw e (begun.admits ∙ a.0), finished.leaves ∙ rw e (begun.puts ∙ rw e a.1))

-- ---- two answers that the promises of its steps allow are equal

pub one_beginning : (s : List ℕ) (c : Verdict) (p w v : ℕ) (code : Verdict) (at width old : ℕ) (code' : Verdict) (at' width' old' : ℕ) (t t' : List ℕ) → Begins s c p w v code at width old t → Begins s c p w v code' at' width' old' t'
    → (code ≡ code') × (at ≡ at') × (width ≡ width') × (old ≡ old') × (t ≡ t')
one_beginning s c p w v code at width old code' at' width' old' t t' x y =
    let (e, left) = one_answer (λ code. cond (eqb code.code 0) (put_in s p w v) s) (x.admits, x.puts) (y.admits, y.puts) in
    (e, x.offset ∙ sym y.offset, x.wide ∙ sym y.wide, x.was ∙ sym y.was, left)
