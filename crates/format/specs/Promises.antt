-- What the calls of a family promise, over any layout: the answer, and what is left of the bytes s that they are lent. Assumes nothing.
use Rattle.std.specs.Prelude.{◌≡◌, Bool, cond, List, [], ℕ, ltb, Result, Ok, Err}
use Rattle.format.specs.Refusals.{number, bare, shown, packed}
use Rattle.format.specs.declared.Refusal.{Refusal}
use Rattle.format.specs.Refusals.{Verdict}
use Rattle.format.specs.Fmt.{Out, accepted, refused, or_bad, check, also, after}
use Rattle.format.specs.Message.{Layout, told, leaves, into, read_message, write_message, correct_message}

-- reading: the record of the message's values, or the refusal
abbrev pub read_record : {R : Type 0} → Layout → (List ℕ → R) → List ℕ → Out R
read_record l record_of s = also record_of (read_message l s)

-- a call's own type of answer: the good ones, and the refusals as they are told
abbrev pub answered : {R A : Type 0} → (R → A) → (Verdict → A) → Out R → A
answered good bad (accepted r) = good r
answered good bad (refused c p) = bad (shown c p)

-- a refusal that was told, as an answer
abbrev pub refused_by : {A : Type 0} → Verdict → Out A
refused_by r = refused r.code r.bit

-- an answer as a call tells it: a refusal has a bit where its number tells one
abbrev pub plain : {A : Type 0} → Out A → Out A
plain = answered accepted refused_by

-- a call's result as an answer: its value, or its refusal by number and bit
abbrev pub out_of : {R : Type 0} → Result R Refusal → Out R
out_of (Ok r) = accepted r
out_of (Err f) = refused (number f.reason) f.bit

-- the verdict on an answer that was told
abbrev pub verdict_of : {A : Type 0} → Out A → Verdict
verdict_of (accepted a) = bare 0
verdict_of (refused c p) = record { code = c; bit = p }

-- writing the values vs: the refusal, and t left of s
abbrev pub Writes : Layout → List ℕ → Verdict → List ℕ → List ℕ → Type 0
Writes l s refusal t vs = (refusal ≡ told (into s (write_message l vs))) × (t ≡ leaves (into s (write_message l vs)) s)

-- correcting field number i to v: the refusal, and t left of s
abbrev pub Corrects : Layout → List ℕ → ℕ → ℕ → Verdict → List ℕ → Type 0
Corrects l s i v refusal t = (refusal ≡ told (correct_message l s i v)) × (t ≡ leaves (correct_message l s i v) s)

-- a call for C: the number that its refusal is packed into
abbrev pub Packs : (Verdict → Type 0) → ℕ → Type 0
Packs promise n = (refusal : Verdict) × (n ≡ packed refusal) × promise refusal

-- ---- calls that are lent a row beside the bytes

-- an answer for which there is room, by a test that comes last: else 6
abbrev pub tested : {A : Type 0} → (A → Bool) → Out A → Out A
tested test o = after o (λ x. check (or_bad (test x) 6) 0 (accepted x))

-- a buffer's room for what a row of so many numbers tells: none where it has fewer than it is asked for
abbrev pub room_for : (has asked room : ℕ) → ℕ
room_for has asked room = cond (ltb has asked) 0 room

-- a writing's answer o in the buffer s, where the row that tells its values has enough numbers or not (6, tested last): the refusal, and t left of s
abbrev pub Lays : Bool → Out (List ℕ) → List ℕ → Verdict → List ℕ → Type 0
Lays has o s refusal t = (refusal ≡ told (into (cond has s []) o)) × (t ≡ cond has (leaves (into s o) s) s)
