-- A tide telegram told in lent numbers: the promises allow one answer, a refusal leaves all that is lent, and where no refusal is told the telegram's own promise holds of what the numbers tell, by the answer's case. So demand 3 is said of these calls too. Assumes nothing.
use Rattle.std.specs.Prelude.{ℕ, zero, suc, ◌≡◌, refl, Bool, true, false, List, [], leb, ℤ, length, Ok, Err}
use Rattle.std.proofs.Common.{sym, ap, ◌∙◌, arith}
use Rattle.bits.specs.Bits.{Bytes}
use Rattle.format.specs.Fmt.{Out, accepted, refused, check, or_bad, also}
use Rattle.format.specs.Message.{told, fault, leaves, read_message, ahead}
use Rattle.format.specs.Refusals.{bare, seen_refusal, shown as Refusals·shown}
use Rattle.format.specs.Refusals.{Verdict}
use Rattle.format.specs.Promises.{answered, read_record, plain, refused_by, Corrects}
use Rattle.format.specs.Settled.{SettledBy}
use Rattle.format.proofs.Laws.Family.{never_read}
use Rattle.format.specs.Laws.Lent.{zero_stands}
use Rattle.tide.specs.Changed.{changed, spot_of}
use Rattle.tide.specs.HeightsPromises.{heights_read, shown, counted, Shows}
use Rattle.tide.specs.Promises.{housed, told_of, Reads}
use Rattle.tide.specs.Record.{Whole, record_of}
use Rattle.tide.specs.Tide.{tides}
use Rattle.tide.specs.WritingPromises.{TideWrites}
use Rattle.format.specs.declared.Refusal.{Refusal}
use Rattle.tide.specs.declared.reading.Told.{Told}
use Rattle.tide.specs.Laws.Demands.{family, whole_of}
use Rattle.tide.specs.Laws.Refused.{no_zero_showing}
use Rattle.tide.specs.Laws.WritingDemands.{corrected as corrected_tide}
use Rattle.c_rows.specs.Tide.{Tells, TideTold, HeightsTold}

-- what the two lent numbers tell
abbrev pub told_in_of : ℕ → ℕ → Told
told_in_of n m = record { tide = record { count = n }; numbers = m }

-- ---- reading

pub one_telling : (s : List ℕ) (n m : ℕ) (row : List ℕ) (c d : Verdict) (n₁ n₂ m₁ m₂ : ℕ) (row₁ row₂ : List ℕ)
    → TideTold s n m row c n₁ m₁ row₁ → TideTold s n m row d n₂ m₂ row₂ → (c ≡ d) × (n₁ ≡ n₂) × (m₁ ≡ m₂) × (row₁ ≡ row₂)
one_telling s n m row c d n₁ n₂ m₁ m₂ row₁ row₂ x y = (x.0 ∙ sym y.0, x.1 ∙ sym y.1, x.2 ∙ sym y.2, x.3 ∙ sym y.3)

pub refused_telling : (o : Out Whole) (n m : ℕ) (row : List ℕ) (c : Verdict) (n' m' : ℕ) (row' : List ℕ) → Tells o n m row c n' m' row' → (c.code ≡ 0 → ⊥) → (n' ≡ n) × (m' ≡ m) × (row' ≡ row)
refused_telling (accepted x) n m row c n' m' row' t h = absurd (h (ap (λ r. r.code) t.0))
refused_telling (refused d p) n m row c n' m' row' t h = (t.1, t.2, t.3)

module _ (s : List ℕ) (n m : ℕ) (row : List ℕ) (c : Verdict) (n' m' : ℕ) (row' : List ℕ) (tells : TideTold s n m row c n' m' row') where
  -- A reading that did not want for room answers by the telegram's own refusal; where that is none, the numbers tell what was read.
  pub told_in : (c.code ≡ 6 → ⊥) → (c ≡ told (read_message tides s)) × (c.code ≡ 0 → Reads s row (Ok (told_in_of n' m')) row')
  told_in roomed = go (read_message tides s) (never_read family s) tells
    where
      house : Out (List ℕ) → Out Whole
      house o = housed (length row) (also record_of o)

      go : (o : Out (List ℕ)) → ((p : ℕ) → also record_of o ≡ refused 0 p → ⊥) → Tells (house o) n m row c n' m' row'
          → (c ≡ told o) × (c.code ≡ 0 → (accepted (told_in_of n' m') ≡ plain (also told_of (house o))) × (row' ≡ answered (λ x. ahead x.1 row) (λ c. row) (house o)))
      go (refused zero p) never t = absurd (never p refl)
      go (refused (suc d) p) never t = (t.0, λ z. absurd (omega (arith, z, ap (λ r. r.code) t.0)))
      go (accepted vs) never t = room (leb (length (record_of vs).1) (length row)) t
        where
          at : Bool → Out Whole
          at b = check (or_bad b 6) 0 (accepted (record_of vs))

          room : (b : Bool) → Tells (at b) n m row c n' m' row' → (c ≡ bare 0) × (c.code ≡ 0 → (accepted (told_in_of n' m') ≡ plain (also told_of (at b))) × (row' ≡ answered (λ x. ahead x.1 row) (λ c. row) (at b)))
          room true t = (t.0, λ z. (λ i. accepted (told_in_of (t.1 i) (t.2 i)), t.3))
          room false t = absurd (roomed (ap (λ r. r.code) t.0))

  pub zero_telling : c.code ≡ 0 → Reads s row (Ok (told_in_of n' m')) row'
  zero_telling z = (told_in (λ six. omega (arith, z, six))).1 z

  -- Demand 3: every correction, by any number and any value, ends as writing the changed record does.
  pub corrected : Bytes s → (c.code ≡ 6 → ⊥) → (i v : ℕ) (code : Verdict) (t : List ℕ) → Corrects tides s i v code t
      → SettledBy (λ x u d y. let z = changed i v x in TideWrites u z.0 z.1 d y) (λ x. spot_of x i) false s (check (fault c.code) c.bit (accepted (whole_of (told_in_of n' m') row'))) v code t
  corrected fine roomed = let (own, reads) = told_in roomed in corrected_tide s row (told_in_of n' m') row' fine c own reads

-- the two ways in which it answers
module _ (s : List ℕ) (n m : ℕ) (row : List ℕ) where
  abbrev left : List ℕ → Out Whole → Type 0
  left t o = t ≡ answered (λ x. ahead x.1 row) (λ c. row) o

  pub tells_good : {r : Told} {row' : List ℕ} → Reads s row (Ok r) row' → TideTold s n m row (bare 0) r.tide.count r.numbers row'
  tells_good {r} {row'} (e, y) = go (housed (length row) (read_record tides record_of s)) e y
    where
      go : (o : Out Whole) → accepted r ≡ plain (also told_of o) → left row' o → Tells o n m row (bare 0) r.tide.count r.numbers row'
      go (accepted x) e y = let is : r ≡ told_of x = cc in (refl, ap (λ (r : Told). r.tide.count) is, ap (λ (r : Told). r.numbers) is, y)
      go (refused d p) e y = let z : ◌≡◌ {A = ℕ} 0 1 = cc in absurd (omega arith)

  pub tells_bad : (f : Refusal) {row' : List ℕ} → Reads s row (Err f) row' → TideTold s n m row (seen_refusal f) n m row'
  tells_bad f {row'} (e, y) = go (housed (length row) (read_record tides record_of s)) e y
    where
      go : (o : Out Whole) → refused_by (seen_refusal f) ≡ plain (also told_of o) → left row' o → Tells o n m row (seen_refusal f) n m row'
      go (refused c p) e y = let k : seen_refusal f ≡ Refusals·shown c p = cc in (k, refl, refl, y)
      go (accepted x) e y = let z : ◌≡◌ {A = ℕ} 0 1 = cc in absurd (omega arith)

-- ---- heights

pub one_heights : (s : List ℕ) (row : List ℤ) (n : ℕ) (c d : Verdict) (t u : List ℤ) (m k : ℕ) → HeightsTold s row n c t m → HeightsTold s row n d u k → (c ≡ d) × (t ≡ u) × (m ≡ k)
one_heights s row n c d t u m k x y = (x.0 ∙ sym y.0, x.1 ∙ sym y.1, x.2 ∙ sym y.2)

module _ (s : List ℕ) (row : List ℤ) (n : ℕ) (c : Verdict) (t : List ℤ) (m : ℕ) (tells : HeightsTold s row n c t m) where
  pub refused_heights : (c.code ≡ 0 → ⊥) → (t ≡ row) × (m ≡ n)
  refused_heights h = go (shown s row) tells.0 tells.1 tells.2
    where
      go : (o : Out (List ℤ)) → let k = also (λ t. length (leaves (heights_read s) [])) o in c ≡ told k → t ≡ leaves o row → m ≡ leaves k n → (t ≡ row) × (m ≡ n)
      go (accepted u) e x y = absurd (h (ap (λ r. r.code) e))
      go (refused d p) e x y = (x, y)

  pub zero_heights : c.code ≡ 0 → Shows s row (Ok m) t
  zero_heights z = (sym (ap plain (zero_stands (counted s row) n m c never tells.0 tells.2 z)), tells.1)
    where
      never : (p : ℕ) → counted s row ≡ refused 0 p → ⊥
      never p e = no_zero_showing s row (bare 0) refl (sym (ap plain e))
