-- Runs of calls at the desk (paper 01, demand 2) whose places are lent bytes: each call keeps its promise, and is lent what the one before left. Assumes nothing.
use Rattle.std.specs.Prelude.{◌≡◌, List, [], ◌∷◌, ℕ, ◌≤◌, ◌<◌, length, get_or}
use Rattle.format.specs.Refusals.{Verdict}
use Rattle.places.specs.Desk.{store_bytes}
use Rattle.places.specs.Places.{four_places}
use Rattle.desk_runs.specs.Runs.{Desk, Call, comes, asks, drops}
use Rattle.desk_bytes.specs.Bytes.{begins, row_in}
use Rattle.desk_bytes.specs.Promises.{AcceptsIn, AsksIn, DropsIn}

-- what every call is lent, and what it leaves
pub record Lent : Type 0 where
  pub places : List ℕ
  pub store : List ℕ

-- the desk that it says
abbrev pub desk_in : Lent → Desk
desk_in d = record { places = row_in d.places; store = d.store }

-- bytes enough, and the open mark of each place is 0, whatever else stands in them
pub record EmptyIn (d : Lent) : Type 0 where
  pub wide : begins four_places ≤ length d.places
  pub deep : store_bytes ≤ length d.store
  pub closed : (i : ℕ) → i < four_places → get_or d.places (begins i) 0 ≡ 0

-- Calls from d on, each with the number of its refusal, the last of them in front: what they leave is e. Whatever numbers are lent to a call besides.
pub data Run (d : Lent) : List (Call × ℕ) → Lent → Type 0 where
  none : Run d [] d
  accepts : (h : List (Call × ℕ)) (e : Lent) → Run d h e → (m : List ℕ) (again : ℕ) (code : Verdict) (bs t : List ℕ) (again' : ℕ) → AcceptsIn e.places e.store m again code bs t again'
      → Run d ((comes m, code.code) ∷ h) (record { places = bs; store = t })
  answers : (h : List (Call × ℕ)) (e : Lent) → Run d h e → (n : ℕ) (b w : List ℕ) (count language : ℕ) (code : Verdict) (bs c v : List ℕ) (count' language' : ℕ) → AsksIn e.places e.store n b w count language code bs c v count' language'
      → Run d ((asks n b w, code.code) ∷ h) (record { places = bs; store = e.store })
  gives_up : (h : List (Call × ℕ)) (e : Lent) → Run d h e → (n : ℕ) (code : Verdict) (bs : List ℕ) → DropsIn e.places e.store n code bs → Run d ((drops n, code.code) ∷ h) (record { places = bs; store = e.store })

-- the calls alone
unfoldable pub calls_of : List (Call × ℕ) → List Call
calls_of [] = []
calls_of (x ∷ h) = x.0 ∷ calls_of h
