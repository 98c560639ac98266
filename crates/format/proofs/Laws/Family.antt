-- Demands 2 and 3 for a family, from the promises of its calls: what is proved of lists of values, said of records. Assumes nothing.
use Rattle.std.specs.Prelude.{◌≡◌, Bool, true, false, List, [], ◌++◌, ℕ, ◌≤◌, ◌<◌, ◌^◌, leb, length, take, drop}
use Rattle.std.proofs.Math.Path.{refl}
use Rattle.std.proofs.Common.{sym, ap, ◌∙◌, subst, arith, leb-true, take_at}
use Rattle.bits.specs.Bits.{Bytes}
use Rattle.format.specs.Fmt.{Out, accepted, refused, or_bad, check, also, spot, none, found}
use Rattle.format.specs.Message.{Layout, told, leaves, into, read_message, write_message, correct_message}
use Rattle.format.specs.Refusals.{bare}
use Rattle.format.specs.Refusals.{Verdict}
use Rattle.format.specs.Promises.{read_record, Writes}
use Rattle.format.specs.Laws.Lead.{sized_by}
use Rattle.format.proofs.Laws.Legal.{legal}
use Rattle.format.specs.Laws.Round.{clash, also_inv}
use Rattle.format.proofs.Laws.Round.{read_write}
use Rattle.format.proofs.Laws.Whole.{was, made, write_read_message, read_write_message, correct_wide}
use Rattle.format.proofs.Laws.Zero.{no_zero_message, read_zero_message}
use Rattle.format.specs.Laws.Family.{Family, roomy}

-- ---- two answers that a promise allows are equal

-- a layout of one size makes messages of that size
pub one_size : (l : Layout) (n : ℕ) → l.least ≡ n → l.most ≡ n → (vs m : List ℕ) → write_message l vs ≡ accepted m → length m ≡ n
one_size l n least most vs m e = let (a, b) = sized_by l (length m) (made l m vs e).fits in omega (arith, a, b, least, most)

-- ---- a refusal leaves every byte

module _ {l : Layout} {R : Type 0} {Lent : R → Type 0} {values_of : R → List ℕ} {record_of : List ℕ → R} {changed : ℕ → ℕ → R → R} (F : Family l R Lent values_of record_of changed) where
  -- The values that reading accepts are those of their record.
  pub record_values : (s vs : List ℕ) → read_message l s ≡ accepted vs → values_of (record_of vs) ≡ vs
  record_values s vs e = F.same_values vs (legal l.fmt [] 0 vs _ (read_write l.fmt [] 0 vs _ (was l s vs e).walked))

  -- ---- no number 0 but for success

  pub never_read : (s : List ℕ) (p : ℕ) → read_record l record_of s ≡ refused 0 p → ⊥
  never_read s p e = go (read_message l s) refl e
    where
      go : (o : Out (List ℕ)) → read_message l s ≡ o → also record_of o ≡ refused 0 p → ⊥
      go (accepted vs) m e = clash (sym e)
      go (refused c q) m e = let x : c ≡ 0 = cc in let y : q ≡ p = cc in read_zero_message l s p F.judged (rw (m, x, y) refl)

  pub never_written : (r : R) (p : ℕ) → Lent r → write_message l (values_of r) ≡ refused 0 p → ⊥
  never_written r p k e = no_zero_message l (values_of r) p F.judged (F.counted r k) e

  -- ---- demand 2

  -- A writing that told no refusal: the message stands in front of what is left of s, and is read back as the same record.
  pub record Wrote (r : R) (s t : List ℕ) : Type 0 where
    pub message : List ℕ
    pub made_so : write_message l (values_of r) ≡ accepted message
    pub room : length message ≤ length s
    pub front : t ≡ message ++ drop (length message) s
    pub reads : read_record l record_of message ≡ accepted r

  pub written_record : (r : R) (m : List ℕ) → Lent r → write_message l (values_of r) ≡ accepted m → read_record l record_of m ≡ accepted r
  written_record r m k e =
      ap (λ o. also record_of o) (write_read_message l F.sound m (values_of r) e)
      ∙ ap accepted (F.same_record r k (legal l.fmt [] 0 (values_of r) _ (made l m (values_of r) e).wrote))

  pub written_read : (s : List ℕ) (r : R) (t : List ℕ) → Lent r → Writes l s (bare 0) t (values_of r) → Wrote r s t
  written_read s r t k (z, x) = go (write_message l (values_of r)) refl z x
    where
      fits : (m : List ℕ) → write_message l (values_of r) ≡ accepted m → (y : Bool) → leb (length m) (length s) ≡ y
          → bare 0 ≡ told (check (or_bad y 6) 0 (accepted (m ++ drop (length m) s))) → t ≡ leaves (check (or_bad y 6) 0 (accepted (m ++ drop (length m) s))) s → Wrote r s t
      fits m e false h z x = absurd (omega (arith, ap (λ c. c.code) z))
      fits m e true h z x = record { message = m; made_so = e; room = leb-true (length m) (length s) h; front = x; reads = written_record r m k e }

      go : (o : Out (List ℕ)) → write_message l (values_of r) ≡ o → bare 0 ≡ told (into s o) → t ≡ leaves (into s o) s → Wrote r s t
      go (accepted m) e z x = fits m e (leb (length m) (length s)) refl z x
      go (refused c p) e z x = absurd (never_written r p k (e ∙ ap (λ r. refused r.code p) (sym z)))

  -- a message of n bytes stands in the first n
  pub written_front : (s : List ℕ) (r : R) (t : List ℕ) (n : ℕ) → Lent r → Writes l s (bare 0) t (values_of r) → ((m : List ℕ) → write_message l (values_of r) ≡ accepted m → length m ≡ n)
      → read_record l record_of (take n t) ≡ accepted r
  written_front s r t n k w long =
      let y = written_read s r t k w in
      ap (λ m. read_record l record_of m) (ap (take n) y.front ∙ take_at y.message (drop (length y.message) s) n (long y.message y.made_so)) ∙ y.reads

  -- s is a message that reading accepts as r
  module _ (s : List ℕ) (r : R) (fine : Bytes s) (good : read_record l record_of s ≡ accepted r) where
    -- its values are the record's
    pub read_values : (read_message l s ≡ accepted (values_of r)) × Lent r
    read_values =
        let (vs, e, k) = also_inv record_of (read_message l s) good in
        let m = read_write_message l F.sound s vs fine e in
        let h = legal l.fmt [] 0 vs _ (made l s vs m).wrote in
        (e ∙ ap accepted (sym (ap values_of (sym k) ∙ F.same_values vs h)), subst Lent k (F.can_lend vs h))

    pub read_writes : write_message l (values_of r) ≡ accepted s
    read_writes = read_write_message l F.sound s (values_of r) fine read_values.0

    -- What is read is written back as the same bytes.
    pub read_written : (u : List ℕ) (code : Verdict) (t : List ℕ) → length s ≤ length u → Writes l u code t (values_of r) → (code ≡ bare 0) × (t ≡ s ++ drop (length s) u)
    read_written u code t h (z, x) =
        let o = ap (into u) read_writes ∙ roomy u s h in
        (z ∙ ap told o, x ∙ ap (λ o. leaves o u) o)

    -- ---- demand 3, of which laws/Settled makes one piece

    -- A field that may be corrected, and a value that its bits can spell: what writing the changed record answers, its bytes or its refusal.
    pub correction_writes : (i v p w : ℕ) → spot l.fmt [] (values_of r) i ≡ found p w → v < 2 ^ w → correct_message l s i v ≡ write_message l (values_of (changed i v r))
    unfolding correct_message
    correction_writes i v p w e n = rw (read_values.0, e) (ap (write_message l) (sym (F.changes r i v p w read_values.1 e n).0))

    -- A value that they cannot spell is 4.
    pub correction_wide : (i v p w : ℕ) → spot l.fmt [] (values_of r) i ≡ found p w → 2 ^ w ≤ v → correct_message l s i v ≡ refused 4 p
    correction_wide i v p w e n = correct_wide l F.sound s (values_of r) i v p w read_values.0 e n

    -- Any other field number is 10.
    pub correction_none : (i v : ℕ) → spot l.fmt [] (values_of r) i ≡ none → correct_message l s i v ≡ refused 10 0
    unfolding correct_message
    correction_none i v e = rw (read_values.0, e) refl
