-- One receipt of the frame TXHZ, read, judged and put: where the code stands behind it, whichever receipt it is. Assumes nothing.
use Rattle.std.specs.Prelude.{◌≡◌, Bool, cond, ◌&&◌, List, ◌∷◌, ℕ, suc, ◌+◌, ◌*◌, ◌/◌, ◌%◌, ◌≤◌, ◌<◌, ◌^◌, leb, length}
use Rattle.std.proofs.Math.Path.{refl, ap, subst⁻¹}
use Rattle.std.proofs.Common.{◌∙◌, arith, lit≤}
use Rattle.std.proofs.Math.Bool.{true, false}
use Rattle.std.proofs.Math.Dec.{lit<}
use Rattle.bits.specs.Answers.{within, got}
use Rattle.format.specs.Correcting.{put_in}
use Rattle.format.specs.Fmt.{Out, Fault, bad, Fmt}
use Rattle.walk.specs.Walk.{onward}
use Rattle.format.specs.Words.{◌‥◌, only}
use Rattle.format.specs.Laws.Extent.{opens_field}
use Rattle.walk.specs.Laws.Judging.{Judging, judge_tells}
use Rattle.format.specs.Laws.Putting.{Putting}
use Rattle.format.proofs.Laws.Putting.{put_number}
use Rattle.walk.specs.Laws.Step.{Reading, step, tested}
use Rattle.format.specs.Laws.Tells.{Tells, only_tells, cond_tells}
use Rattle.format.specs.Laws.Zero.{Judged, Numbered, only_numbered}
use Rattle.walk.specs.Walk.{Walk}
use Rattle.txhz.specs.Steps.{Passed, slot_read_of, receipt_read, slot_judged, receipt_judged, receipt_put}
use Rattle.txhz.specs.Txhz.{counted, slot, receipt, times}
use Rattle.txhz.specs.declared.reading.Receipt.{Receipt}

-- a byte's fault, by whether its receipt is counted
abbrev fault_of : Bool → ℕ → ℕ → ℕ
fault_of live most v = cond live (cond (leb 0 v && leb v most) 0 4) (cond (leb 0 v && leb v 0) 0 5)

slot_tells : (live : Bool) (most : ℕ) (h : List ℕ) → Tells 8 (λ b. cond live (only 8 4 (0 ‥ most) h b) (only 8 5 (0 ‥ 0) h b)) (fault_of live most)
slot_tells live most h = cond_tells 8 live (only_tells 8 3 (0 ‥ most) h) (only_tells 8 4 (0 ‥ 0) h)

-- behind each byte of the receipt the count stands one field further back
behind : (k a b c : ℕ) (h : List ℕ) (live : Bool) → live ≡ counted k (4 * k) h
    → (live ≡ counted k (4 * k + 1) (a ∷ h)) × (live ≡ counted k (4 * k + 2) (b ∷ a ∷ h)) × (live ≡ counted k (4 * k + 3) (c ∷ b ∷ a ∷ h))
behind k a b c h live is =
    let one : suc (4 * k) ≡ 4 * k + 1 = omega arith in
    let two : suc (suc (4 * k)) ≡ 4 * k + 2 = omega arith in
    let three : suc (suc (suc (4 * k))) ≡ 4 * k + 3 = omega arith in
    (is ∙ ap (λ n. counted k n (a ∷ h)) one, is ∙ ap (λ n. counted k n (b ∷ a ∷ h)) two, is ∙ ap (λ n. counted k n (c ∷ b ∷ a ∷ h)) three)

-- ---- read

module _ {o : Out (List ℕ)} {all : Fmt} {i : ℕ} {s : List ℕ} {f : Fmt} where
  slot_read : {h : List ℕ} {at : ℕ} {vs : List ℕ → List ℕ} {r g : Walk} (k back most : ℕ) (live : Bool) → at + 8 < 2 ^ 64 → at % 8 ≡ 0 → live ≡ counted k back h
      → Reading o all i s (slot k back most f) h at vs r → g ≡ slot_read_of s live most r → Reading o all i s f (g.v ∷ h) (at + 8) (λ l. vs (g.v ∷ l)) g
  unfolding onward
  slot_read {h} {at} {vs} {r} k back most live reach whole is e d =
      let here : r.at / 8 * 8 ≡ at = omega (arith, e.here, whole) in
      subst⁻¹ (λ g. Reading o all i s f (g.v ∷ h) (at + 8) (λ l. vs (g.v ∷ l)) g)
      (d ∙ ap (λ x. slot_read_of s x most r) is ∙ same (counted k back h) ∙ ap (λ a. onward 8 (counted k back h) (got s a 8) (cond (within (length s) a 8) (fault_of (counted k back h) most (got s a 8)) 1) 0 r) here)
      (step (got s at 8) e (tested s at 8 _ h (slot_tells (counted k back h) most h) reach (λ l. lit< tt) (lit≤ tt) (counted k back h) (λ e. lit< tt)))
    where
      same : (x : Bool) → let p = r.at / 8 * 8 in slot_read_of s x most r ≡ onward 8 x (got s p 8) (cond (within (length s) p 8) (fault_of x most (got s p 8)) 1) 0 r
      same true = refl
      same false = refl

pub receipt_read_lem : {o : Out (List ℕ)} {all : Fmt} {i : ℕ} {s : List ℕ} {f : Fmt} {h : List ℕ} {at : ℕ} {vs : List ℕ → List ℕ} {r : Walk} {g : Passed} (k : ℕ) (live : Bool) → at + 32 < 2 ^ 64 → at % 8 ≡ 0 → live ≡ counted k (4 * k) h
    → Reading o all i s (receipt k f) h at vs r → g ≡ receipt_read s live r
    → let t = g.receipt in Reading o all i s f (t.receipt_minute ∷ t.receipt_hour ∷ t.sent_minute ∷ t.sent_hour ∷ h) (at + 8 + 8 + 8 + 8) (λ l. vs (times t l)) g.walk
unfolding receipt_read
receipt_read_lem {o} {all} {i} {s} {f} {h} {at} {vs} {r} k live reach whole is e d =
    let t = (receipt_read s live r).receipt in
    let (is1, is2, is3) = behind k t.sent_hour t.sent_minute t.receipt_hour h live is in
    let r1 = slot_read k (4 * k) 23 live (omega arith) whole is e refl in
    let r2 = slot_read k (4 * k + 1) 59 live (omega arith) (omega (arith, whole)) is1 r1 refl in
    let r3 = slot_read k (4 * k + 2) 23 live (omega arith) (omega (arith, whole)) is2 r2 refl in
    let r4 = slot_read k (4 * k + 3) 59 live (omega arith) (omega (arith, whole)) is3 r3 refl in
    subst⁻¹ (λ g. let t = g.receipt in Reading o all i s f (t.receipt_minute ∷ t.receipt_hour ∷ t.sent_minute ∷ t.sent_hour ∷ h) (at + 8 + 8 + 8 + 8) (λ l. vs (times t l)) g.walk) d r4

-- ---- judged

-- each value of a receipt has at most 8 bits
abbrev pub Narrow : Receipt → Type 0
Narrow t = (t.sent_hour < 2 ^ 8) × (t.sent_minute < 2 ^ 8) × (t.receipt_hour < 2 ^ 8) × (t.receipt_minute < 2 ^ 8)

slot_judged_lem : {o : Out (List Bool)} {f : Fmt} {h : List ℕ} {at v : ℕ} {vs : List ℕ} {r g : Walk} (k back most : ℕ) (live : Bool) → at + 8 < 2 ^ 64 → v < 2 ^ 8 → live ≡ counted k back h
    → Judging o (slot k back most f) h at (v ∷ vs) r → g ≡ slot_judged live v most r → Judging o f (v ∷ h) (at + 8) vs g
slot_judged_lem {h = h} {v = v} {r = r} k back most live reach small is e d =
    judge_tells 8 (counted k back h) v (fault_of (counted k back h) most v) reach small (slot_tells (counted k back h) most h) refl opens_field e
    (d ∙ ap (λ x. slot_judged x v most r) is ∙ same (counted k back h))
  where
    same : (x : Bool) → slot_judged x v most r ≡ onward 8 x v (fault_of x most v) 0 r
    same true = refl
    same false = refl

pub receipt_judged_lem : {o : Out (List Bool)} {f : Fmt} {h : List ℕ} {at : ℕ} {vs : List ℕ} {r g : Walk} (k : ℕ) (live : Bool) (t : Receipt) → Narrow t → at + 32 < 2 ^ 64 → live ≡ counted k (4 * k) h
    → Judging o (receipt k f) h at (times t vs) r → g ≡ receipt_judged live t r
    → Judging o f (t.receipt_minute ∷ t.receipt_hour ∷ t.sent_minute ∷ t.sent_hour ∷ h) (at + 8 + 8 + 8 + 8) vs g
receipt_judged_lem {h = h} k live t (a, b, c, z) reach is e d =
    let (is1, is2, is3) = behind k t.sent_hour t.sent_minute t.receipt_hour h live is in
    let r1 = slot_judged_lem k (4 * k) 23 live (omega arith) a is e refl in
    let r2 = slot_judged_lem k (4 * k + 1) 59 live (omega arith) b is1 r1 refl in
    let r3 = slot_judged_lem k (4 * k + 2) 23 live (omega arith) c is2 r2 refl in
    slot_judged_lem k (4 * k + 3) 59 live (omega arith) z is3 r3 d

-- ---- put

pub receipt_put_lem : {s t u : List ℕ} {b : List Bool} {f : Fmt} {at : ℕ} {x : Receipt} {vs : List ℕ} (k : ℕ) → Putting s b (receipt k f) at (times x vs) t → u ≡ receipt_put at x t
    → Putting s b f (at + 8 + 8 + 8 + 8) vs u
receipt_put_lem {t = t} {at = at} {x = x} k e d =
    let p1 = put_number 8 (lit≤ tt) opens_field e refl in
    let p2 = put_number 8 (lit≤ tt) opens_field p1 refl in
    let p3 = put_number 8 (lit≤ tt) opens_field p2 refl in
    let two : at + 16 ≡ at + 8 + 8 = omega arith in
    let three : at + 24 ≡ at + 8 + 8 + 8 = omega arith in
    put_number 8 (lit≤ tt) opens_field p3
    (d ∙ (λ i. put_in (put_in (put_in (put_in t at 8 x.sent_hour) (at + 8) 8 x.sent_minute) (two i) 8 x.receipt_hour) (three i) 8 x.receipt_minute))

-- ---- its refusals are numbers of the paper

slot_numbered : (k back most : ℕ) → Numbered (λ h b. cond (counted k back h) (only 8 4 (0 ‥ most) h b) (only 8 5 (0 ‥ 0) h b))
slot_numbered k back most = (
  λ h b i. by (λ f. f ≡ bad 0 i → ⊥) (counted k back h) ((only_numbered 8 3 (0 ‥ most)).0 h b i) ((only_numbered 8 4 (0 ‥ 0)).0 h b i),
  λ h b c i. by (λ f. f ≡ bad c i → i ≤ length b) (counted k back h) ((only_numbered 8 3 (0 ‥ most)).1 h b c i) ((only_numbered 8 4 (0 ‥ 0)).1 h b c i),
)
  where
    by : (P : Fault → Type 0) (x : Bool) {f g : Fault} → P f → P g → P (cond x f g)
    by P true m n = m
    by P false m n = n

pub receipt_numbered : (k : ℕ) (f : Fmt) → Judged f → Judged (receipt k f)
receipt_numbered k f j = (slot_numbered k (4 * k) 23, (slot_numbered k (4 * k + 1) 59, (slot_numbered k (4 * k + 2) 23, (slot_numbered k (4 * k + 3) 59, j))))
