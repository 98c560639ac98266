-- Demand 2 of every run of calls over lent bytes from an empty desk: what asking answers is due for the packets that have come, and what a packet is answered is due for it, by the calls and the numbers of their refusals alone. It is desk_runs' theorem, since the run is one of places. Assumes nothing.
use Rattle.std.specs.Prelude.{◌≡◌, false, not, List, ℕ, zero, suc, ◌+◌, ◌≤◌, ◌<◌, eqb, length, drop, get_or}
use Rattle.std.proofs.Common.{ap, ◌∙◌, subst, arith, lit≤, get_or-take, get_or-drop}
use Rattle.places.specs.Places.{four_places, place_at}
use Rattle.desk_runs.specs.Runs.{Empty}
use Rattle.desk_bytes.specs.Bytes.{place_bytes, begins, place_in}
use Rattle.desk_bytes.specs.Laws.Changes.{four_in, row_long}
use Rattle.desk_runs.specs.Lent.{Lent, desk_in, EmptyIn}

-- ---- an empty desk

mark_of : (bs : List ℕ) (i : ℕ) → get_or bs (begins i) 0 ≡ 0 → (place_in bs i).«open» ≡ false
mark_of bs i e =
    let at : begins i + 0 ≡ begins i = omega arith in
    ap (λ n. not (eqb n 0)) (get_or-take place_bytes (drop (begins i) bs) 0 0 (omega arith) ∙ get_or-drop (begins i) bs 0 0 ∙ ap (λ k. get_or bs k 0) at ∙ e)

closed_in : (bs : List ℕ) → ((i : ℕ) → i < four_places → get_or bs (begins i) 0 ≡ 0) → (i : ℕ) → i < four_places → (place_at (four_in bs) i).«open» ≡ false
closed_in bs marks zero low = mark_of bs 0 (marks 0 low)
closed_in bs marks (suc zero) low = mark_of bs 1 (marks 1 low)
closed_in bs marks (suc (suc zero)) low = mark_of bs 2 (marks 2 low)
closed_in bs marks (suc (suc (suc zero))) low = mark_of bs 3 (marks 3 low)
closed_in bs marks (suc (suc (suc (suc i)))) low = absurd (omega (arith, low))

pub empty_in : {d : Lent} → EmptyIn d → Empty (desk_in d)
empty_in {d} x =
    let bs = d.places in
    let row = row_long bs x.wide in
    record { wide = subst (λ ps. four_places ≤ length ps) row (lit≤ tt); deep = x.deep; closed = subst (λ ps. (i : ℕ) → i < four_places → (place_at ps i).«open» ≡ false) row (closed_in bs x.closed) }
