-- The text of a notice, and the end: all whole bytes that are left are judged as one field. Assumes nothing.
use Rattle.std.specs.Prelude.{◌≡◌, Bool, true, false, cond, ◌&&◌, List, [], ◌∷◌, ◌++◌, ℕ, ◌+◌, ◌*◌, ◌≤◌, length, take, drop, eqb}
use Rattle.std.proofs.Math.Path.{refl, subst⁻¹}
use Rattle.std.proofs.Common.{sym, ap, ◌∙◌, arith, length-take-le, length-drop, le-leb, eq-eqb, ne_eqb, eqb-true}
use Rattle.std.proofs.lemmas.Bool.{false≢true, eqb-false}
use Rattle.bits.specs.Answers.{spanned}
use Rattle.bits.specs.Bits.{value_of, bits_of, bytes_of, bytes_at, field_at}
use Rattle.bits.specs.Laws.Bytes.{length_bits}
use Rattle.bits.specs.Laws.Digits.{digits_value}
use Rattle.bits.specs.Laws.Runs.{length_run, run_value}
use Rattle.walk.specs.Faults.{wholly}
use Rattle.format.specs.Fmt.{Out, Fmt, good, end}
use Rattle.format.specs.Words.{or_else, unless, ◌▹◌}
use Rattle.format.specs.Laws.Runs.{run_stands}
use Rattle.format.specs.Laws.Tells.{blamed}
use Rattle.walk.specs.Laws.Along.{Going}
use Rattle.walk.specs.Laws.Reading.{step_rest}
use Rattle.walk.specs.Laws.Step.{Steps, stuck, step_late}
use Rattle.walk.specs.Laws.Walked.{Walked, finish, same_values}
use Rattle.walk.specs.Walk.{Walk}
use Rattle.packet.specs.Packet.{joined}
use Rattle.text.specs.Text.{in_language}
use Rattle.notice.specs.Notice.{ours, text}
use Rattle.notice.specs.Record.{texted}
use Rattle.notice.specs.Steps.{text_walked, ending_of, Ending}

-- text that lies within the message: its fault is the language's
text_steps : (english : Bool) (s : List ℕ) (at n : ℕ) (h : List ℕ) (c : ℕ) → at + n * 8 ≤ length s * 8 → length s ≤ joined → c ≡ cond (spanned (length s) at n && in_language english (bytes_at s at n)) 0 4
    → Steps s at (n * 8) (λ h b. unless (in_language english (bytes_of n b)) 4 0) h false (value_of (bits_of (bytes_at s at n))) c 0
unfolding bytes_at field_at
text_steps english s at n h c fits small is = record {
  findable = λ e. absurd (false≢true e);
  reach = omega arith;
  into = omega arith;
  same = rw (le-leb (n * 8) (length b) long, front) (go (in_language english (bytes_of n b)) ∙ ap (λ c. blamed c 0) (sym said));
  holds = λ z. sym (run_value s at n fits);
}
  where
    b : List Bool
    b = drop at (bits_of s)

    long : n * 8 ≤ length b
    long = omega (arith, length-drop at (bits_of s), length_bits s)

    -- n bytes are packed from their own bits alone
    front : bytes_of n (take (n * 8) b) ≡ bytes_of n b
    front = ap (bytes_of n) (sym (digits_value (n * 8) (take (n * 8) b) (length-take-le (n * 8) b long))) ∙ run_stands s at n (value_of (take (n * 8) b)) fits refl

    said : c ≡ cond (in_language english (bytes_of n b)) 0 4
    said = is ∙ ap (λ x. cond (x && in_language english (bytes_of n b)) 0 4) (le-leb (at + n * 8) (length s * 8) fits)

    go : (x : Bool) → or_else (unless x 4 0) good ≡ blamed (cond x 0 4) 0
    go true = refl
    go false = refl

-- the text from r on, and the end
pub record ClosedIs (english : Bool) (s : List ℕ) (r : Walk) (t : Ending) : Type 0 where
  pub on : {o : Out (List ℕ)} {all : Fmt} {i : ℕ} {us : List ℕ} → Going o all i s (text (ours english) ▹ end) us r → Walked o all i (us ++ texted (bytes_at s r.at t.text)) t.walk
  pub fits : t.walk.code ≡ 0 → (r.code ≡ 0) × (r.at ≤ length s * 8 → r.at + t.text * 8 ≤ length s * 8)

module _ (english : Bool) (s : List ℕ) (r : Walk) where
  -- after a refusal nothing is looked at
  closed_refused : (r.code ≡ 0 → ⊥) → ClosedIs english s r (record { walk = r; text = 0 })
  closed_refused n = record {
    on = λ {o} {all} {i} {us} x. record { so = x.so.so ∙ stuck r _ n ∙ sym (stuck r _ n); spots = λ z. absurd (n z); slim = x.so.slim };
    fits = λ z. absurd (n z);
  }

  -- the rest is told, the text judged, the end reached
  closed_text : r.code ≡ 0 → length s ≤ joined → let n = wholly s r.at in ClosedIs english s r (record { walk = text_walked english s n r; text = n })
  closed_text clean small = record {
    on = λ {o} {all} {i} {us} x.
        let at = r.at in
        let n = wholly s at in
        let near : at ≤ length s * 8 = x.so.within clean in
        let u = value_of (bits_of (bytes_at s at n)) in
        let fits : at + n * 8 ≤ length s * 8 = omega arith in
        let y = step_rest (omega arith) x.so refl in
        let z = step_late 0 (omega arith) y (λ _ l. text_steps english s at n (n ∷ x.past) _ fits small refl) in
        same_values (ap (λ m. us ++ (m ∷ u ∷ [])) (sym (length_run s at n))) (finish (omega arith) z refl);
    fits = λ z. (clean, λ l. omega arith);
  }

  -- ---- the two ways in which the walk ends

  pub ending_good : r.code ≡ 0 → let n = wholly s r.at in ending_of english s r ≡ record { walk = text_walked english s n r; text = n }
  unfolding ending_of
  ending_good z = rw (eq-eqb r.code 0 z) refl

  pub ending_refused : (r.code ≡ 0 → ⊥) → ending_of english s r ≡ record { walk = r; text = 0 }
  unfolding ending_of
  ending_refused n = rw (ne_eqb r.code 0 n) refl

  pub closed : length s ≤ joined → ClosedIs english s r (ending_of english s r)
  closed small = go (eqb r.code 0) refl
    where
      go : (t : Bool) → eqb r.code 0 ≡ t → ClosedIs english s r (ending_of english s r)
      go true t = let z = eqb-true r.code 0 t in subst⁻¹ (ClosedIs english s r) (ending_good z) (closed_text z small)
      go false t = let n = eqb-false r.code 0 t in subst⁻¹ (ClosedIs english s r) (ending_refused n) (closed_refused n)
