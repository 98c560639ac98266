-- What the desk's calls promise where the places are lent bytes bs, and a reply's values go to lent numbers. Assumes nothing.
use Rattle.std.specs.Prelude.{◌≡◌, List, ℕ}
use Rattle.format.specs.Refusals.{Verdict}
use Rattle.places.specs.Desk.{refusal_of, accepting, asking, dropping}
use Rattle.places.specs.Replies.{Reply}
use Rattle.places.specs.Replies.{Done, Again, Joined, Missing, Refused}
use Rattle.desk_bytes.specs.Bytes.{row_in, changed_bytes}

-- ---- what a reply leaves of a lent number x

-- whether the packet came again
abbrev pub again_of : Reply → ℕ → ℕ
again_of Done x = 0
again_of Again x = 1
again_of (Joined n l) x = x
again_of (Missing n) x = x
again_of (Refused c) x = x

-- how many bytes are handed out, or how many numbers are missing
abbrev pub count_of : Reply → ℕ → ℕ
count_of Done x = x
count_of Again x = x
count_of (Joined n l) x = n
count_of (Missing n) x = n
count_of (Refused c) x = x

abbrev pub language_of : Reply → ℕ → ℕ
language_of Done x = x
language_of Again x = x
language_of (Joined n l) x = l
language_of (Missing n) x = x
language_of (Refused c) x = x

-- ---- the calls

abbrev pub AcceptsIn : List ℕ → List ℕ → List ℕ → ℕ → Verdict → List ℕ → List ℕ → ℕ → Type 0
AcceptsIn bs s m again refusal cs t again' = let o = accepting (row_in bs) s m in (refusal ≡ refusal_of o.reply) × (cs ≡ changed_bytes bs o.change) × (t ≡ o.store) × (again' ≡ again_of o.reply again)

abbrev pub AsksIn : List ℕ → List ℕ → ℕ → List ℕ → List ℕ → ℕ → ℕ → Verdict → List ℕ → List ℕ → List ℕ → ℕ → ℕ → Type 0
AsksIn bs s n b w count language refusal cs c v count' language' =
    let o = asking (row_in bs) s n b w in
    (refusal ≡ refusal_of o.reply) × (cs ≡ changed_bytes bs o.change) × (c ≡ o.notice) × (v ≡ o.missing) × (count' ≡ count_of o.reply count) × (language' ≡ language_of o.reply language)

abbrev pub DropsIn : List ℕ → List ℕ → ℕ → Verdict → List ℕ → Type 0
DropsIn bs s n refusal cs = let o = dropping (row_in bs) s n in (refusal ≡ refusal_of o.reply) × (cs ≡ changed_bytes bs o.change)
