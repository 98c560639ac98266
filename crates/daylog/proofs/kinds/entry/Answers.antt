-- `entry` stores the line with the word that its kind has.
use Rattle.std.proofs.Common.{◌≡◌, ℕ, ◌+◌, ◌≤◌, List, length, refl, arith, lit≤, ne_eqb}
use Rattle.format.specs.Refusals.{Verdict, told_of}
use Rattle.daylog.specs.Kinds.{word, refusal_of, entry_line}
use Rattle.daylog.specs.Stores.{placed, Stores}
use Rattle.daylog.specs.LinesText.{line}
use Rattle.daylog.specs.Words.{serial, packet, distress, ais, unknown}
use Rattle.daylog.proofs.kinds.entry.Goals as goal

-- ---- the words
serial_word : (k : ℕ) → k ≡ 1 → word k ≡ serial
unfolding word
serial_word k e = rw e refl

packet_word : (k : ℕ) → k ≡ 2 → word k ≡ packet
unfolding word
packet_word k e = rw e refl

distress_word : (k : ℕ) → k ≡ 3 → word k ≡ distress
unfolding word
distress_word k e = rw e refl

ais_word : (k : ℕ) → k ≡ 4 → word k ≡ ais
unfolding word
ais_word k e = rw e refl

other_word : (k : ℕ) → (k ≡ 1 → ⊥) → (k ≡ 2 → ⊥) → (k ≡ 3 → ⊥) → (k ≡ 4 → ⊥) → word k ≡ unknown
unfolding word
other_word k a b c d = rw (ne_eqb k 1 a, ne_eqb k 2 b, ne_eqb k 3 c, ne_eqb k 4 d) refl

-- ---- a line with the word w
module _ (n k : ℕ) (body w : List ℕ) (refusal : Verdict) (short : length w ≤ 8) where
  pub stored : word k ≡ w → refusal ≡ refusal_of k body → {at r : ℕ} {out left : List ℕ} → Stores out at (placed out at (line n w refusal (length body))) r left → length (line n w refusal (length body)) ≤ length w + 68
      → Stores out at (placed out at (entry_line n (record { kind = k; body = body }))) r left × (length (entry_line n (record { kind = k; body = body })) ≤ 76)
  unfolding entry_line
  stored e f s l = (rw (e, ← f) s, rw (e, ← f) (omega (arith, l, short)))

pub returns-in-1 : goal.returns-in-1
returns-in-1 c =
    let a = c.args in
    stored a.number a.kind a.body.now serial (told_of c.refusal-told.result) (lit≤ tt) (serial_word a.kind c.in-1.is) c.refusal-told.ensures c.line.ensures.stores c.line.ensures.longest

pub returns-in-2 : goal.returns-in-2
returns-in-2 c =
    let a = c.args in
    stored a.number a.kind a.body.now packet (told_of c.refusal-told.result) (lit≤ tt) (packet_word a.kind c.in-2.is) c.refusal-told.ensures c.line-in-2.ensures.stores c.line-in-2.ensures.longest

pub returns-in-3 : goal.returns-in-3
returns-in-3 c =
    let a = c.args in
    stored a.number a.kind a.body.now distress (told_of c.refusal-told.result) (lit≤ tt) (distress_word a.kind c.in-3.is) c.refusal-told.ensures c.line-in-3.ensures.stores c.line-in-3.ensures.longest

pub returns-in-4 : goal.returns-in-4
returns-in-4 c =
    let a = c.args in
    stored a.number a.kind a.body.now ais (told_of c.refusal-told.result) (lit≤ tt) (ais_word a.kind c.in-4.is) c.refusal-told.ensures c.line-in-4.ensures.stores c.line-in-4.ensures.longest

pub returns-in_default : goal.returns-in_default
returns-in_default c =
    let a = c.args in
    stored a.number a.kind a.body.now unknown (told_of c.refusal-told.result) (lit≤ tt) (other_word a.kind (λ z. omega arith) (λ z. omega arith) (λ z. omega arith) (λ z. omega arith)) c.refusal-told.ensures c.line-in_default.ensures.stores c.line-in_default.ensures.longest
