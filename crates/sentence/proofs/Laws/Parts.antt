-- The sentence around a report is accepted just where it is the sentence of a good address and 17 bytes: cut by its size, each part is what
-- the pattern lays there. Assumes nothing.
use Rattle.std.specs.Prelude.{List, ◌++◌, ◌≡◌, ℕ, ◌+◌, ◌-◌, ◌≤◌, length, take, drop}
use Rattle.std.proofs.Common.{sym, ap, ◌∙◌, arith, length-drop, take-append-drop, drop-drop}
use Rattle.std.proofs.Math.ListN.{length-append}
use Rattle.bits.specs.Xor.{xor_of}
use Rattle.format.specs.Fmt.{accepted}
use Rattle.sentence.specs.Spelling.{decimal, spelt, unhexed, closing_of}
use Rattle.sentence.specs.Pattern.{start_mark, inner_mark, opening, summed_up, sentence, part, address_part, inner_part, hex_part, summed, last_five, around_so}
use Rattle.sentence.specs.Laws.Digits.{decimal_spelt}
use Rattle.sentence.specs.Laws.Hex.{Unhexed, hex_unhexed}
use Rattle.sentence.specs.Laws.Tests.{same_true, Led, led, passed, pattern_both, Addressed, addressed}
use Rattle.sentence.specs.Laws.Parts.{part_tail, length_part, five, Sentenced}

-- ---- cutting

cut_at : (from to : ℕ) (s : List ℕ) → from ≤ to → drop from s ≡ part from to s ++ drop to s
cut_at from to s h =
    let e : from + (to - from) ≡ to = omega arith in
    sym (take-append-drop (to - from) (drop from s)) ∙ ap (λ t. part from to s ++ t) (drop-drop (to - from) from s ∙ ap (λ k. drop k s) e)

-- ---- what is accepted is a sentence

joined : (s : List ℕ) → Led s → inner_part s ≡ inner_mark → Addressed (address_part s) → Unhexed (hex_part s) 17
    → Sentenced s (spelt 0 (address_part s)) (unhexed (hex_part s))
unfolding sentence summed_up opening
joined s l i a u =
    let n = length s in
    let ad = address_part s in
    let hx = hex_part s in
    let q = last_five s in
    let m : length ad ≤ 7 = omega (arith, length_part 7 (n - 46) s (omega arith) (omega arith)) in
    let dec = decimal_spelt 7 ad m a.figures a.leading in
    let o = opening (decimal 7 (spelt 0 ad)) (unhexed hx) in
    let w : s ≡ (take 7 s ++ (ad ++ (inner_part s ++ hx))) ++ q =
    sym (take-append-drop 7 s)
    ∙ ap (λ t. take 7 s ++ t) (cut_at 7 (n - 46) s (omega arith) ∙ ap (λ t. ad ++ t) (cut_at (n - 46) (n - 39) s (omega arith) ∙ ap (λ t. inner_part s ++ t) (cut_at (n - 39) (n - 5) s (omega arith))))
    ∙ sym (five (take 7 s) ad (inner_part s) hx q) in
    let v : s ≡ o ++ q =
    w
    ∙ ap (λ t. (t ++ (ad ++ (inner_part s ++ hx))) ++ q) l.starts
    ∙ ap (λ t. (start_mark ++ (t ++ (inner_part s ++ hx))) ++ q) (sym dec)
    ∙ ap (λ t. (start_mark ++ (decimal 7 (spelt 0 ad) ++ (t ++ hx))) ++ q) i
    ∙ ap (λ t. (start_mark ++ (decimal 7 (spelt 0 ad) ++ (inner_mark ++ t))) ++ q) (sym u.again) in
    let k : length o ≡ n - 5 = omega (arith, length-append o q, ap length v, length-drop (n - 5) s) in
    let t : summed s ≡ drop 1 o = ap (part 1 (n - 5)) v ∙ part_tail o q (n - 5) k in
    record { least = a.least; most = a.most; long = u.long; fine = u.fine; is = v ∙ ap (λ t. o ++ t) (l.ends ∙ ap (λ t. closing_of (xor_of t)) t) }

pub sentenced : (s : List ℕ) (x : ℕ × List ℕ) → around_so s ≡ accepted x → Sentenced s x.0 x.1
sentenced s x e =
    let p = passed s x e in
    let l = led s p.first in
    let (y, z, w) = pattern_both s p.like in
    let a = addressed (address_part s) w in
    let u = hex_unhexed 17 (hex_part s) (length_part (length s - 39) (length s - 5) s (omega arith) (omega arith) ∙ omega arith) z in
    rw p.inside (joined s l (same_true (inner_part s) inner_mark y) a u)
