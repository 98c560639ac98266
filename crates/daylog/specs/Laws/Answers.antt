-- Two answers that a call's promise allows are equal. Assumes nothing.
use Rattle.std.specs.Prelude.{◌≡◌, ℕ, List, Result, Ok, Err, Option, Some, None, is_some, refl}
use Rattle.std.proofs.Common.{sym, ap, ◌∙◌}
use Rattle.format.specs.declared.Reason.{Reason}
use Rattle.format.specs.Refusals.{code_of}
use Rattle.format.specs.Laws.Outcomes.{number_some, one_number}
use Rattle.daylog.specs.Promises.{Lays, Lists, Ends, Heads, Keeps, laid_of, listed_of}
use Rattle.daylog.specs.Turns.{Begins, Turns, seen, ended_by, counted_of}
use Rattle.daylog.specs.declared.Listed.{Listed}
use Rattle.daylog.specs.declared.turns.State.{State}
use Rattle.daylog.specs.Laws.Made.{one_text}
use Rattle.daylog.specs.Laws.Turns.{no}

-- what is made, or the reason, by what is told of it
one_laid_of : (a b : Result ℕ Reason) → laid_of a ≡ laid_of b → a ≡ b
one_laid_of (Ok m) (Ok n) e = ap (λ r. Ok r.bytes) e
one_laid_of (Ok m) (Err r) e = absurd (number_some r (sym (ap (λ r. r.code) e)))
one_laid_of (Err r) (Ok n) e = absurd (number_some r (ap (λ r. r.code) e))
one_laid_of (Err q) (Err r) e = ap Err (one_number q r (ap (λ r. r.code) e))

one_listed_of : (n : ℕ) (a b : Result Listed Reason) → listed_of n a ≡ listed_of n b → a ≡ b
one_listed_of n (Ok l) (Ok m) e = λ i. Ok (record { used = (e i).used; made = (e i).made; number = (e i).number })
one_listed_of n (Ok l) (Err r) e = absurd (number_some r (sym (ap (λ r. r.code) e)))
one_listed_of n (Err r) (Ok m) e = absurd (number_some r (ap (λ r. r.code) e))
one_listed_of n (Err q) (Err r) e = ap Err (one_number q r (ap (λ r. r.code) e))

one_verdict : (a b : Result Unit Reason) → code_of a ≡ code_of b → a ≡ b
one_verdict (Ok x) (Ok y) e = refl
one_verdict (Ok x) (Err r) e = absurd (number_some r (sym e))
one_verdict (Err r) (Ok y) e = absurd (number_some r e)
one_verdict (Err q) (Err r) e = ap Err (one_number q r e)

one_end : (a b : Option (Result Unit Reason)) → is_some a ≡ is_some b → ended_by a ≡ ended_by b → a ≡ b
one_end (Some a) (Some b) d e = ap Some (one_verdict a b e)
one_end (Some a) None d e = no d
one_end None (Some b) d e = no (sym d)
one_end None None d e = refl

one_count : (a b : Option ℕ) → is_some a ≡ is_some b → counted_of a ≡ counted_of b → a ≡ b
one_count (Some a) (Some b) d e = ap Some e
one_count (Some a) None d e = no d
one_count None (Some b) d e = no (sym d)
one_count None None d e = refl

one_state : (a b : State) → seen a ≡ seen b → a ≡ b
one_state a b e =
    let ended = one_end a.ended b.ended (ap (λ t. t.done) e) (ap (λ t. t.code) e) in
    let broken = one_count a.broken b.broken (ap (λ t. t.broken) e) (ap (λ t. t.left) e) in
    λ i. record { made = (e i).made; ended = ended i; number = (e i).number; waiting = (e i).waiting; broken = broken i }

-- ---- the calls

pub one_list : (s : List ℕ) (n : ℕ) (out : List ℕ) (a b : Result Listed Reason) (x y : List ℕ) → Lists s n out (listed_of n a) x → Lists s n out (listed_of n b) y → (a ≡ b) × (x ≡ y)
one_list s n out a b x y p q =
    let (made, left) = one_text p.text q.text in
    let code = p.code ∙ sym q.code in
    let used = p.used ∙ sym q.used in
    let number = p.number ∙ sym q.number in
    (one_listed_of n a b (λ i. record { code = code i; used = used i; made = made i; number = number i }), left)

one_laid : {out t x y : List ℕ} (a b : Result ℕ Reason) → Lays out t (laid_of a) x → Lays out t (laid_of b) y → (a ≡ b) × (x ≡ y)
one_laid a b p q =
    let (bytes, left) = one_text p.text q.text in
    let code = p.code ∙ sym q.code in
    (one_laid_of a b (λ i. record { code = code i; bytes = bytes i }), left)

pub one_ending : (out : List ℕ) (n bytes : ℕ) (a b : Result ℕ Reason) (x y : List ℕ) → Ends out n bytes (laid_of a) x → Ends out n bytes (laid_of b) y → (a ≡ b) × (x ≡ y)
one_ending out n bytes a b x y p q = one_laid a b p q

pub one_heading : (out : List ℕ) (a b : Result ℕ Reason) (x y : List ℕ) → Heads out (laid_of a) x → Heads out (laid_of b) y → (a ≡ b) × (x ≡ y)
one_heading out a b x y p q = one_laid a b p q

pub one_keeping : (s : List ℕ) (from to : ℕ) (a b : Result ℕ Reason) (x y : List ℕ) → Keeps s from to (laid_of a) x → Keeps s from to (laid_of b) y → (a ≡ b) × (x ≡ y)
one_keeping s from to a b x y p q =
    let (bytes, left) = one_text p.kept q.kept in
    let code = p.code ∙ sym q.code in
    (one_laid_of a b (λ i. record { code = code i; bytes = bytes i }), left)

pub one_beginning : (text : List ℕ) (a b : State) (x y : List ℕ) → Begins text (seen a) x → Begins text (seen b) y → (a ≡ b) × (x ≡ y)
one_beginning text a b x y p q = (one_state a b (p.answer ∙ sym q.answer), p.leaves ∙ sym q.leaves)

pub one_turn : (t : State) (input : List ℕ) (got : ℕ) (text : List ℕ) (a b : State) (x y u v : List ℕ) → Turns (seen t) input got text (seen a) x u → Turns (seen t) input got text (seen b) y v
    → (a ≡ b) × (x ≡ y) × (u ≡ v)
one_turn t input got text a b x y u v p q =
    let e = p.is ∙ sym q.is in
    (one_state a b (ap (λ o. o.turn) e), ap (λ o. o.input) e, ap (λ o. o.text) e)
