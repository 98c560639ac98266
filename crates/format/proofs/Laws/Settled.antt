-- Demand 3 in one piece, for every family: each correction ends as `Settled` says. By cases, as it does: the message's own refusal, no such field, too wide, and else writing and reading again agree. Assumes nothing.
use Rattle.std.specs.Prelude.{◌≡◌, Bool, true, false, cond, List, [], ℕ, ◌+◌, ◌*◌, ◌^◌, ◌≤◌, ◌<◌, ltb, length}
use Rattle.std.proofs.Math.Path.{refl, subst⁻¹}
use Rattle.std.proofs.Common.{sym, ap, ◌∙◌, subst, arith, ltb-true, ltb-false}
use Rattle.bits.specs.Bits.{Bytes, bits_of, field_at, put_at}
use Rattle.bits.specs.Laws.Fields.{length_put, field_put, field_put_before, field_put_after}
use Rattle.format.specs.Fmt.{Out, accepted, refused, also, read, Spot, none, found, spot}
use Rattle.format.specs.Message.{Layout, body, sealed, told, leaves, into, read_message, write_message, correct_message, ahead}
use Rattle.format.specs.Refusals.{shown, bare}
use Rattle.format.specs.Refusals.{Verdict}
use Rattle.format.specs.Laws.Refusals.{shown_again}
use Rattle.format.specs.Promises.{refused_by, plain, read_record, Writes, Corrects}
use Rattle.format.specs.Settled.{Stays, Differs, AsWritten, SettledAt, Settled}
use Rattle.format.specs.Laws.Answers.{plain_good}
use Rattle.format.specs.Laws.Family.{Family, roomy}
use Rattle.format.proofs.Laws.Family.{never_read, read_values, correction_writes, correction_wide, correction_none}
use Rattle.format.specs.Laws.Round.{clash}
use Rattle.format.specs.Laws.Whole.{body_sealed, length_sealed}
use Rattle.format.proofs.Laws.Whole.{was, whole_again, spot_fits, correct_narrow}
use Rattle.format.proofs.Laws.Zero.{correct_zero}

-- the bits of one field made v, and the seal anew: nothing else differs
differs : (z : Bool) (s : List ℕ) (p w v : ℕ) → sealed z (body z s) ≡ s → p + w ≤ length (body z s) * 8 → v < 2 ^ w → Differs z s p w v (sealed z (put_at (body z s) p w v))
differs z s p w v whole fits narrow =
    let b = body z s in
    let t = put_at b p w v in
    let in_Body = body_sealed z t in
    record {
      is = refl;
      size = length_sealed z t b (length_put b p w v) ∙ ap length whole;
      spells = ap (λ x. field_at x p w) in_Body ∙ field_put b p w fits v narrow;
      before = λ at n h. ap (λ x. field_at x at n) in_Body ∙ field_put_before b p w fits v at n h;
      behind = λ at n h. ap (λ x. field_at x at n) in_Body ∙ field_put_after b p w fits v at n h;
    }

-- a correction that is refused by c
stays : (l : Layout) (s : List ℕ) (i v c p : ℕ) (code : Verdict) (t : List ℕ) → correct_message l s i v ≡ refused c p → Corrects l s i v code t → Stays (shown c p) s code t
stays l s i v c p code t e (z, x) = (z ∙ ap told e, x ∙ ap (λ o. leaves o s) e)

-- ---- every correction ends so

module _ {l : Layout} {R : Type 0} {Lent : R → Type 0} {values_of : R → List ℕ} {record_of : List ℕ → R} {changed : ℕ → ℕ → R → R} (F : Family l R Lent values_of record_of changed)
    (spot_of : R → ℕ → Spot) (spotted : (r : R) (i : ℕ) → spot l.fmt [] (values_of r) i ≡ spot_of r i)
    (s : List ℕ) (fine : Bytes s) (i v : ℕ) (code : Verdict) (t : List ℕ) (corrects : Corrects l s i v code t) where
  abbrev writes : R → List ℕ → Verdict → List ℕ → Type 0
  writes r u d x = Writes l u d x (values_of (changed i v r))

  -- the message's own refusal
  own : (c p : ℕ) → read_record l record_of s ≡ refused c p → correct_message l s i v ≡ refused c p
  unfolding correct_message
  own c p e = go (read_message l s) refl e
    where
      go : (o : Out (List ℕ)) → read_message l s ≡ o → also record_of o ≡ refused c p → correct_message l s i v ≡ refused c p
      go (accepted vs) m e = clash (sym e)
      go (refused d q) m e = rw m (ap (also (λ r. s)) e)

  module _ (r : R) (good : read_record l record_of s ≡ accepted r) where
    -- what the field's bits can spell is put there, and answered as it is then read
    as_written : (p w : ℕ) → spot l.fmt [] (values_of r) i ≡ found p w → v < 2 ^ w → AsWritten (writes r) l.seal s p w v code t
    as_written p w there narrow =
        let vs = values_of r in
        let (e, k) = read_values F s r fine good in
        go (read l.fmt [] 0 (bits_of inner)) (correct_narrow l F.sound s vs i v p w e there narrow)
        (differs l.seal s p w v (whole_again l F.sound s vs (was l s vs e)) (spot_fits l F.sound s vs i v p w e there) narrow)
      where
        inner : List ℕ
        inner = put_at (body l.seal s) p w v

        wrote : correct_message l s i v ≡ write_message l (values_of (changed i v r))
        wrote = correction_writes F s r fine good i v p w there narrow

        go : (o : Out (List ℕ)) → correct_message l s i v ≡ also (λ us. sealed l.seal inner) o → Differs l.seal s p w v (sealed l.seal inner) → AsWritten (writes r) l.seal s p w v code t
        go (refused c q) e d =
            let (z, x) = stays l s i v c q code t e corrects in
            let some : code.code ≡ 0 → ⊥ = λ y. correct_zero l F.sound s i v q F.judged (e ∙ ap (λ c. refused c q) (ap (λ r. r.code) (sym z) ∙ y)) in
            record {
              answers = λ u room d x (z', x'). (z ∙ sym (z' ∙ ap (λ o. told (into u o)) (sym wrote ∙ e)), λ y. absurd (some y));
              good = λ y. absurd (some y);
              bad = λ y. x;
            }
        go (accepted us) e d =
            let m = sealed l.seal inner in
            let z : code ≡ bare 0 = corrects.0 ∙ ap told e in
            let is : t ≡ m = corrects.1 ∙ ap (λ o. leaves o s) e in
            let laid : (u : List ℕ) → length s ≤ length u → into u (write_message l (values_of (changed i v r))) ≡ accepted (ahead m u) =
            λ u room. ap (into u) (sym wrote ∙ e) ∙ roomy u m (omega (arith, d.size)) in
            record {
              answers = λ u room d x (z', x'). (z ∙ sym (z' ∙ ap told (laid u room)), λ y. x' ∙ ap (λ o. leaves o u) (laid u room) ∙ ap (λ m. ahead m u) (sym is));
              good = λ y. subst⁻¹ (Differs l.seal s p w v) is d;
              bad = λ y. absurd (y (ap (λ r. r.code) z));
            }

    at : (x : Spot) → spot_of r i ≡ x → SettledAt (writes r) l.seal s x v code t
    at none k = stays l s i v 10 0 code t (correction_none F s r fine good i v (spotted r i ∙ k)) corrects
    at (found p w) k = by (ltb v (2 ^ w)) refl
      where
        by : (b : Bool) → ltb v (2 ^ w) ≡ b → cond b (AsWritten (writes r) l.seal s p w v code t) (Stays (shown 4 p) s code t)
        by true h = as_written p w (spotted r i ∙ k) (ltb-true v (2 ^ w) h)
        by false h = stays l s i v 4 p code t (correction_wide F s r fine good i v p w (spotted r i ∙ k) (ltb-false v (2 ^ w) h)) corrects

  pub settled : (o : Out R) → o ≡ plain (read_record l record_of s) → Settled l spot_of values_of changed s o i v code t
  settled o e = subst⁻¹ (λ o. Settled l spot_of values_of changed s o i v code t) e (go (read_record l record_of s) refl)
    where
      go : (o : Out R) → read_record l record_of s ≡ o → Settled l spot_of values_of changed s (plain o) i v code t
      go (refused c p) e = let (z, x) = stays l s i v c p code t (own c p e) corrects in (z ∙ sym (shown_again c p), x)
      go (accepted r) e = at r e (spot_of r i) refl

  -- The same where a record names its fields by numbers of its own, n being the name of field i in whatever record s is read as.
  pub settled_named : (named : R → ℕ → ℕ) (n : ℕ) → ((r : R) → read_record l record_of s ≡ accepted r → i ≡ named r n) → (o : Out R) → o ≡ plain (read_record l record_of s)
      → Settled l (λ r n. spot_of r (named r n)) values_of (λ n v r. changed (named r n) v r) s o n v code t
  settled_named named n same (refused c p) e = settled (refused c p) e
  settled_named named n same (accepted r) e =
      subst (λ i. SettledAt (λ u d x. Writes l u d x (values_of (changed i v r))) l.seal s (spot_of r i) v code t) (same r (plain_good (read_record l record_of s) (sym e))) (settled (accepted r) e)

  -- No refusal is told only where the message is read, the field may be corrected and can spell the value; and then it alone differs.
  pub record Corrected (o : Out R) : Type 0 where
    pub message : R
    pub offset : ℕ
    pub width : ℕ
    pub read_so : o ≡ accepted message
    pub there : spot_of message i ≡ found offset width
    pub narrow : v < 2 ^ width
    pub alone : Differs l.seal s offset width v t

  pub accepted_correction : code.code ≡ 0 → Corrected (read_record l record_of s)
  accepted_correction z = go (read_record l record_of s) refl
    where
      go : (o : Out R) → read_record l record_of s ≡ o → Corrected o
      go (refused c p) e = absurd (never_read F s p (e ∙ ap (λ c. refused c p) (ap (λ r. r.code) (sym (settled (refused_by (shown c p)) (sym (ap plain e))).0) ∙ z)))
      go (accepted r) e = stood (spot_of r i) refl (at r e (spot_of r i) refl)
        where
          stood : (x : Spot) → spot_of r i ≡ x → SettledAt (writes r) l.seal s x v code t → Corrected (accepted r)
          stood none k y = absurd (omega (arith, ap (λ r. r.code) y.0, z))
          stood (found p w) k y = by (ltb v (2 ^ w)) refl y
            where
              by : (b : Bool) → ltb v (2 ^ w) ≡ b → cond b (AsWritten (writes r) l.seal s p w v code t) (Stays (shown 4 p) s code t) → Corrected (accepted r)
              by true h y = record { message = r; offset = p; width = w; read_so = refl; there = k; narrow = ltb-true v (2 ^ w) h; alone = y.good z }
              by false h y = absurd (omega (arith, ap (λ r. r.code) y.0, z))
