-- What each step of a correction answers and leaves. Assumes nothing.
use Rattle.std.specs.Prelude.{◌≡◌, Bool, cond, List, ℕ, ◌-◌, ◌^◌, ◌≤◌, ltb, eqb, get_or}
use Rattle.std.proofs.Common.{ap, ◌∙◌}
use Rattle.bits.specs.Answers.{got, puttable}
use Rattle.bits.specs.Bits.{put_at}
use Rattle.format.specs.Refusals.{shown, bare}
use Rattle.format.specs.Refusals.{Verdict}
use Rattle.format.specs.Fmt.{Spot, none, found}
use Rattle.format.specs.Message.{body}
use Rattle.format.specs.Sealing.{reclosed}

-- where a field that may be corrected stands, width 0 being none
abbrev pub standing : ℕ → ℕ → Spot
standing at width = cond (eqb width 0) none (found at width)

-- what the code finds of a field: its offset, and its width of at most 32 bits
abbrev pub StandsAt : Spot → ℕ → ℕ → Type 0
StandsAt x at width = (x ≡ standing at width) × (width ≤ 32)

-- entry n of a list whose numbers begin with `first`
abbrev pub entry_from : ℕ → List ℕ → ℕ → ℕ
entry_from first l n = cond (ltb n first) 0 (get_or l (n - first) 0)

-- the same where the entries below k are every message's, and those of one kind of message begin with `first`
abbrev pub entry_of : ℕ → List ℕ → ℕ → List ℕ → ℕ → ℕ
entry_of k common first own n = cond (ltb n k) (get_or common n 0) (entry_from first own n)

-- the message's own refusal, 10, then too wide
abbrev pub admitted : Verdict → ℕ → ℕ → ℕ → Verdict
admitted own at width v = cond (eqb own.code 0) (cond (eqb width 0) (bare 10) (cond (ltb v (2 ^ width)) (bare 0) (shown 4 at))) own

-- s with the field made v, where both fit
abbrev pub put_in : List ℕ → ℕ → ℕ → ℕ → List ℕ
put_in s at w v = cond (puttable s at w v) (put_at s at w v) s

-- what a call of `bits::put` leaves
pub put_in_lem : (s : List ℕ) (at w v : ℕ) {b : Bool} {t : List ℕ} → (b ≡ puttable s at w v) × (t ≡ cond b (put_at s at w v) s) → t ≡ put_in s at w v
put_in_lem s at w v p = p.1 ∙ ap (λ b. cond b (put_at s at w v) s) p.0

-- A correction to v is begun in s, whose reading told `own`, of the field that has w bits at p: its refusal, the field's offset and width and what it was, and t left of s.
pub record Begins (s : List ℕ) (own : Verdict) (p w v : ℕ) (refusal : Verdict) (at width old : ℕ) (t : List ℕ) : Type 0 where
  pub admits : refusal ≡ admitted own p w v
  pub offset : at ≡ p
  pub wide : width ≡ w
  pub was : old ≡ got s p w
  pub puts : t ≡ cond (eqb refusal.code 0) (put_in s p w v) s

-- It is finished in t, whose fields' reading told `again`: its last refusal, and x left of t, with its seal made anew where the layout has one. What is refused is as it was.
pub record Finishes (seal : Bool) (refusal : Verdict) (at width old : ℕ) (again : Verdict) (t : List ℕ) (last : Verdict) (x : List ℕ) : Type 0 where
  pub answers : last ≡ cond (eqb refusal.code 0) again refusal
  pub leaves : x ≡ cond (eqb refusal.code 0) (cond (eqb again.code 0) (reclosed seal t) (put_in t at width old)) t

-- The whole correction of a message that was read: refused before a bit is changed, or its fields are read anew, as `rereads` says of what
-- the layout lays out of it and `tells` of what that gave, and it is finished.
pub record InPlace {A : Type 0} (seal : Bool) (rereads : List ℕ → A → Type 0) (tells : A → Verdict) (s : List ℕ) (p w v : ℕ) (refusal : Verdict) (x : List ℕ) : Type 0 where
  pub stays : ((admitted (bare 0) p w v).code ≡ 0 → ⊥) → (refusal ≡ admitted (bare 0) p w v) × (x ≡ s)
  pub changes : (admitted (bare 0) p w v).code ≡ 0 → (d : A) × rereads (body seal (put_in s p w v)) d × Finishes seal (bare 0) p w (got s p w) (tells d) (put_in s p w v) refusal x
