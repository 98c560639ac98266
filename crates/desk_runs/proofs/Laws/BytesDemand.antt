-- Demand 2 of every run of calls over lent bytes from an empty desk: what asking answers is due for the packets that have come, and what a packet is answered is due for it, by the calls and the numbers of their refusals alone. It is desk_runs' theorem, since the run is one of places. Assumes nothing.
use Rattle.std.specs.Prelude.{◌≡◌, List, ◌∷◌, ℕ, ◌≤◌, length}
use Rattle.std.proofs.Common.{sym, ap, ◌∙◌}
use Rattle.format.specs.Refusals.{bare}
use Rattle.format.specs.Refusals.{Verdict}
use Rattle.places.specs.Desk.{refusal_of}
use Rattle.desk_runs.specs.Runs.{Desk, Call, comes, reply_to, Part, since, Complete, Given, asked, due}
use Rattle.desk_runs.specs.Taking.{due_for}
use Rattle.desk_runs.proofs.Laws.Demand.{asked_is_due, handed_out_exactly, whole}
use Rattle.desk_bytes.specs.Promises.{again_of, count_of, language_of, AcceptsIn, AsksIn}
use Rattle.desk_runs.specs.Lent.{Lent, desk_in, EmptyIn, Run, calls_of}
use Rattle.desk_runs.proofs.Laws.Follows.{follows}
use Rattle.desk_runs.proofs.Laws.Takes.{accepted_is_due}
use Rattle.desk_runs.specs.Laws.BytesDemand.{empty_in}

-- ---- a packet comes in

module _ (d : Lent) (empty : EmptyIn d) (h : List (Call × ℕ)) (e : Lent) (r : Run d h e) (m : List ℕ) where
  -- Demand 2: the refusal and the mark are what is due for the packet.
  pub accepted_over_bytes : (again : ℕ) (code : Verdict) (bs t : List ℕ) (again' : ℕ) → AcceptsIn e.places e.store m again code bs t again'
      → (code ≡ refusal_of (due_for h m)) × (again' ≡ again_of (due_for h m) again)
  accepted_over_bytes again code bs t again' (x, _, _, y) =
      let f = follows d empty.wide h e r in
      let is = ap (reply_to (comes m)) f.left ∙ accepted_is_due (desk_in d) (empty_in empty) (calls_of h) m ∙ ap (λ h. due_for h m) (sym f.logged) in
      (x ∙ ap refusal_of is, y ∙ ap (λ a. again_of a again) is)

-- ---- asking

module _ (d : Lent) (empty : EmptyIn d) (h : List (Call × ℕ)) (e : Lent) (r : Run d h e) (n : ℕ) (b w : List ℕ) where
  -- what is asked of the bytes that the run left
  is_due : asked n b w (desk_in e) ≡ due (since n h) b w
  is_due =
      let f = follows d empty.wide h e r in
      ap (asked n b w) f.left ∙ asked_is_due (desk_in d) (empty_in empty) (calls_of h) n b w ∙ ap (λ h. due (since n h) b w) (sym f.logged)

  module _ (count language : ℕ) (code : Verdict) (bs c v : List ℕ) (count' language' : ℕ) (answer : AsksIn e.places e.store n b w count language code bs c v count' language') where
    -- Demand 2: the refusal, the buffer, the row, the count and the language are what is due.
    pub asked_over_bytes : let g = due (since n h) b w in (code ≡ refusal_of g.reply) × (c ≡ g.notice) × (v ≡ g.missing) × (count' ≡ count_of g.reply count) × (language' ≡ language_of g.reply language)
    asked_over_bytes =
        let (x, _, y, z, s, t) = answer in (
          x ∙ ap (λ (g : Given). refusal_of g.reply) is_due,
          y ∙ ap (λ (g : Given). g.notice) is_due,
          z ∙ ap (λ (g : Given). g.missing) is_due,
          s ∙ ap (λ (g : Given). count_of g.reply count) is_due,
          t ∙ ap (λ (g : Given). language_of g.reply language) is_due,
        )

    -- With room enough, the notice is handed out exactly when all its packets have come.
    pub handed_out_over_bytes : (x : Part) (xs : List Part) → since n h ≡ x ∷ xs → length (whole x xs) ≤ length b → (code.code ≡ 0 → Complete (x ∷ xs)) × (Complete (x ∷ xs) → code ≡ bare 0)
    handed_out_over_bytes x xs have room =
        let f = follows d empty.wide h e r in
        let (there, back) = handed_out_exactly (desk_in d) (empty_in empty) (calls_of h) n x xs (ap (since n) (sym f.logged) ∙ have) b w room in
        let same : code ≡ refusal_of (asked n b w _).reply = answer.0 ∙ ap (λ (x : Desk). refusal_of (asked n b w x).reply) f.left in
        (λ z. there (ap (λ (r : Verdict). r.code) (sym same) ∙ z), λ k. same ∙ back k)
