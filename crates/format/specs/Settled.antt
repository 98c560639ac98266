-- How every correction of a field ends (paper 01, "Correcting a field"), by cases: what reading the message answers, where the field stands, whether its bits can spell the value, and what writing promises. Assumes nothing.
use Rattle.std.specs.Prelude.{◌≡◌, Bool, cond, List, ℕ, ◌+◌, ◌^◌, ◌≤◌, ltb, length}
use Rattle.bits.specs.Bits.{field_at, put_at}
use Rattle.format.specs.Refusals.{shown, bare}
use Rattle.format.specs.Refusals.{Verdict}
use Rattle.format.specs.Fmt.{Out, accepted, refused, Spot, none, found}
use Rattle.format.specs.Message.{Layout, body, sealed, ahead}
use Rattle.format.specs.Promises.{Writes}

-- refused so: no byte of s differs
abbrev pub Stays : Verdict → List ℕ → Verdict → List ℕ → Type 0
Stays so s refusal t = (refusal ≡ so) × (t ≡ s)

-- t is the message s with the w bits at p made v and the seal made anew. Its size is the same, and so is every bit before those w and behind them, up to the seal.
pub record Differs (seal : Bool) (s : List ℕ) (p w v : ℕ) (t : List ℕ) : Type 0 where
  pub is : t ≡ sealed seal (put_at (body seal s) p w v)
  pub size : length t ≡ length s
  pub spells : field_at (body seal t) p w ≡ v
  pub before : (at n : ℕ) → at + n ≤ p → field_at (body seal t) at n ≡ field_at (body seal s) at n
  pub behind : (at n : ℕ) → p + w ≤ at → field_at (body seal t) at n ≡ field_at (body seal s) at n

-- Whatever writing the changed record answers, d, and leaves, x, of a buffer u that has room: the correction answers the same, number and bit. Where that is no refusal, t stands in front of x, and differs from s in the field alone; else no byte differs.
pub record AsWritten (writes : List ℕ → Verdict → List ℕ → Type 0) (seal : Bool) (s : List ℕ) (p w v : ℕ) (refusal : Verdict) (t : List ℕ) : Type 0 where
  pub answers : (u : List ℕ) → length s ≤ length u → (d : Verdict) (x : List ℕ) → writes u d x → (refusal ≡ d) × (refusal.code ≡ 0 → x ≡ ahead t u)
  pub good : refusal.code ≡ 0 → Differs seal s p w v t
  pub bad : (refusal.code ≡ 0 → ⊥) → t ≡ s

-- a field that may not be corrected, or none (10); a value that its bits cannot spell (4, at the field's first bit); else as writing answers
abbrev pub SettledAt : (List ℕ → Verdict → List ℕ → Type 0) → Bool → List ℕ → Spot → ℕ → Verdict → List ℕ → Type 0
SettledAt writes seal s none v refusal t = Stays (bare 10) s refusal t
SettledAt writes seal s (found p w) v refusal t = cond (ltb v (2 ^ w)) (AsWritten writes seal s p w v refusal t) (Stays (shown 4 p) s refusal t)

-- the message's own refusal; else by where the field stands in the record r that it is read as, and what writing r changed promises
abbrev pub SettledBy : {R : Type 0} → (R → List ℕ → Verdict → List ℕ → Type 0) → (R → Spot) → Bool → List ℕ → Out R → ℕ → Verdict → List ℕ → Type 0
SettledBy writes stands seal s (refused c p) v refusal t = Stays (shown c p) s refusal t
SettledBy writes stands seal s (accepted r) v refusal t = SettledAt (writes r) seal s (stands r) v refusal t

-- Correcting field i to v in the bytes s, which reading answers with o: the refusal, and t left of s. For a family's table of where its fields stand, and its record with one of them changed.
abbrev pub Settled : {R : Type 0} → Layout → (R → ℕ → Spot) → (R → List ℕ) → (ℕ → ℕ → R → R) → List ℕ → Out R → ℕ → ℕ → Verdict → List ℕ → Type 0
Settled l spot_of values_of changed s o i v = SettledBy (λ r u d x. Writes l u d x (values_of (changed i v r))) (λ r. spot_of r i) l.seal s o v
