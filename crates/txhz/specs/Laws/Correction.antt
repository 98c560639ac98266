-- The frame TXHZ with one field changed has the values with that one changed, and where its fields stand hangs on its count. Assumes nothing.
use Rattle.std.specs.Prelude.{◌≡◌, refl, Bool, true, false, cond, List, [], ◌∷◌, ℕ, zero, suc, ◌+◌, ◌-◌, ◌*◌, ◌/◌, ◌≤◌, ◌<◌, eqb, ltb, get_or, set}
use Rattle.std.proofs.Common.{sym, ap, ◌∙◌, add-zero, arith, le-ltb, get_or-drop}
use Rattle.format.specs.Correcting.{standing}
use Rattle.format.specs.Fmt.{accepted, Spot, none, found, later, where?, spot}
use Rattle.format.specs.Promises.{read_record, out_of, plain}
use Rattle.format.specs.Laws.Spots.{spots_along, spot_along, each_at, set_each, kept_entry}
use Rattle.txhz.specs.Changed.{receipt_spots, spots, spot_of, changed_receipt, changed}
use Rattle.txhz.specs.Promises.{Reads}
use Rattle.txhz.specs.Txhz.{letters, times, txhz, txhzs, values_of, record_of, count_of}
use Rattle.format.specs.declared.Refusal.{Refusal}
use Rattle.std.specs.Prelude.{Result}
use Rattle.txhz.specs.declared.reading.Receipt.{Receipt}
use Rattle.txhz.specs.declared.reading.Txhz.{Txhz}

told : (live : Bool) (at : ℕ) → later at (where? live 8) ≡ cond live (found at 8) none
told true at = ap (λ p. found p 8) (add-zero at)
told false at = refl

-- the fields where n receipts are counted, the bytes of a receipt said by f
abbrev each : (Bool → ℕ → Spot) → ℕ → List Spot
each f n =
    let of : ℕ → ℕ → List Spot → List Spot = λ k at l. f (ltb k n) at ∷ f (ltb k n) (at + 8) ∷ f (ltb k n) (at + 16) ∷ f (ltb k n) (at + 24) ∷ l in
    none ∷ none ∷ none ∷ found 56 24 ∷ found 80 24 ∷ found 104 8 ∷ of 0 112 (of 1 144 (of 2 176 (of 3 208 (of 4 240 []))))

-- where each field stands hangs on the count alone
along : (r : Txhz) → spots_along txhzs.fmt [] (values_of r) 0 ≡ spots r.count
unfolding txhzs txhz values_of spots_along
along r i = each (λ live at. told live at i) r.count

pub spotted : (r : Txhz) (i : ℕ) → spot txhzs.fmt [] (values_of r) i ≡ spot_of r i
spotted r i = spot_along txhzs.fmt (values_of r) i ∙ ap (λ t. get_or t i none) (along r)

-- the field i, found at p with w bits by as many receipts as the answer of reading s counts
pub looked_stands : (s : List ℕ) (i p w : ℕ) (was : Result Txhz Refusal) {n : ℕ} → Reads s was → n ≡ count_of (out_of was) → get_or (spots n) i none ≡ standing p w
    → (r : Txhz) → read_record txhzs record_of s ≡ accepted r → spot txhzs.fmt [] (values_of r) i ≡ standing p w
looked_stands s i p w was reads counts there r e =
    let same = counts ∙ ap count_of reads ∙ ap (λ o. count_of (plain o)) e in
    spotted r i ∙ ap (λ n. get_or (spots n) i none) (sym same) ∙ there

-- ---- what the code finds: in front of the receipts by name, and a byte of a receipt by a rule

-- what is no name there is a receipt's, or may not be corrected
pub behind : (n i : ℕ) → (i ≡ 3 → ⊥) → (i ≡ 4 → ⊥) → (i ≡ 5 → ⊥) → get_or (spots n) i none ≡ cond (ltb i 6) none (get_or (spots n) i none)
behind n zero a b c = refl
behind n (suc zero) a b c = refl
behind n (suc (suc zero)) a b c = refl
behind n (suc (suc (suc zero))) a b c = absurd (a refl)
behind n (suc (suc (suc (suc zero)))) a b c = absurd (b refl)
behind n (suc (suc (suc (suc (suc zero))))) a b c = absurd (c refl)
behind n (suc (suc (suc (suc (suc (suc i)))))) a b c = rw (le-ltb (suc (suc (suc (suc (suc (suc i)))))) 6 (omega arith)) refl

same : (n : ℕ) {k k' p p' : ℕ} → k ≡ k' → p ≡ p' → cond (ltb k n) (found p 8) none ≡ cond (ltb k' n) (found p' 8) none
same n e d = rw (e, d) refl

-- m receipts, from number k on
receipts : ℕ → ℕ → ℕ → List Spot
receipts n k zero = []
receipts n k (suc m) = receipt_spots (ltb k n) (112 + 32 * k) (receipts n (k + 1) m)

-- byte j behind the count is at its multiple of eight, where its receipt is counted
receipt_at_lem : (n k m j : ℕ) → j < 4 * m → get_or (receipts n k m) j none ≡ cond (ltb (k + j / 4) n) (found (112 + 32 * k + j * 8) 8) none
unfolding receipts
receipt_at_lem n k zero j h = absurd (omega arith)
receipt_at_lem n k (suc m) zero h = same n (omega arith) (omega arith)
receipt_at_lem n k (suc m) (suc zero) h = same n (omega arith) (omega arith)
receipt_at_lem n k (suc m) (suc (suc zero)) h = same n (omega arith) (omega arith)
receipt_at_lem n k (suc m) (suc (suc (suc zero))) h = same n (omega arith) (omega arith)
receipt_at_lem n k (suc m) (suc (suc (suc (suc j)))) h = receipt_at_lem n (k + 1) m j (omega arith) ∙ same n (omega arith) (omega arith)

pub byte_at : (n i : ℕ) → 6 ≤ i → i < 26 → get_or (spots n) i none ≡ cond (ltb ((i - 6) / 4) n) (found (64 + i * 8) 8) none
unfolding receipts
byte_at n i least most =
    let behind : i ≡ 6 + (i - 6) = omega arith in
    ap (λ i. get_or (spots n) i none) behind ∙ sym (get_or-drop 6 (spots n) (i - 6) none) ∙ receipt_at_lem n 0 5 (i - 6) (omega arith) ∙ same n (omega arith) (omega arith)

-- The changed record has the changed list of values.
pub changed_values : (r : Txhz) (i v p w : ℕ) → spot_of r i ≡ found p w → values_of (changed i v r) ≡ set (values_of r) i v
unfolding values_of changed each_at
changed_values r i v p w e =
    let kept = kept_entry (spot_of r) i v e in
    let f : ℕ → ℕ → ℕ = λ k x. cond (eqb i k) v x in
    let t : ℕ → Receipt → List ℕ → List ℕ = λ k t l. times (changed_receipt k i v t) l in
    (λ y. kept 0 0x24 refl y ∷ kept 1 letters refl y ∷ kept 2 35 refl y ∷ f 3 r.address ∷ f 4 r.receiver ∷ f 5 r.count
    ∷ t 6 r.first (t 10 r.second (t 14 r.third (t 18 r.fourth (t 22 r.fifth [])))))
    ∙ sym (set_each i v (values_of r))
