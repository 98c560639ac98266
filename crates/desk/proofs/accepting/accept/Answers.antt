-- `accept` meets its contract: the packet, the first tests, then the way to its notice.
use mathlib.Core.Path.{◌≡◌, refl, sym, ◌∙◌, subst}
use mathlib.Core.List.{List}
use Prim.Native.Nat.{ℕ, ◌-◌, ◌≤◌, ◌<◌}
use borrow.Author.Rules.{rules}
use native.Mathlib.Omega.{arith}
use lib.Dec.{lit<}
use lib.ListN.{length, take, drop}
use Rattle.format.specs.Fmt.{accepted}
use Rattle.format.specs.Promises.{read_record}
use Rattle.format.specs.Laws.Outcomes.{number_some}
use Rattle.packet.specs.Packet.{part_bytes_of, packets, record_of}
use Rattle.places.specs.Places.{place_at, open_at, held, four_places}
use Rattle.places.specs.Desk.{joins, turned_away}
use Rattle.places.specs.Replies.{turned}
use Rattle.places.specs.Promises.{Gives}
use Rattle.places.specs.Laws.Four.{settled, one_some, one_none}
use Rattle.packet.specs.Laws.Accepted.{Fit, read_good}
use Rattle.places.specs.Laws.Good.{open_sized, tests_passed}
use Rattle.desk.proofs.Ways.{refused_turn, handed_on, tests_turn, of_four, refused_packet, refused_tests, joins_open, opens_free}
use Rattle.desk.proofs.accepting.accept.Goals.{In-Some, In_ok-r}
use Rattle.desk.proofs.accepting.accept.Goals as goal

-- ---- what is known of a packet that was read well
abbrev bytes : In_ok-r → List ℕ
bytes m = m.args.packet.now

abbrev content : In_ok-r → List ℕ
content m = take (length (bytes m) - 4) (drop 4 (bytes m))

good : (m : In_ok-r) → let r = m.in_ok-r.r in (4 ≤ length (bytes m)) × (read_record packets record_of (bytes m) ≡ accepted (r, content m)) × Fit r (content m)
good m = read_good (bytes m) m.in_ok-r.r (λ i. (m.shared_slice_known-1.given i).fits) m.in_ok-r.ensures

-- ---- the needs
pub returns-in_err-r : goal.returns-in_err-r
returns-in_err-r c =
    let a = c.args in
    let again = refused_turn (place_at a.places.now 0) c.from_residual.result _ (handed_on c.from_residual.result _ c.from_residual.ensures.1) in
    of_four a.places.now a.store.now a.packet.now _ _ _ (refused_packet a.places.now a.store.now a.packet.now _ c.in_err-r.ensures)
    (settled (place_at a.places.now 0) (turned_away a.store.now _) (turned_away a.store.now _) _ _ refl again (lit< tt) refl)

pub returns-in_err-first_tests : goal.returns-in_err-first_tests
returns-in_err-first_tests c =
    let e = c.in_err-first_tests.ensures in
    let m = (goal.at.returns-in_err-first_tests c).In_ok-r in
    let a = c.args in
    let (long, is, fit) = good m in
    of_four a.places.now a.store.now a.packet.now _ _ _ (refused_tests a.places.now a.store.now a.packet.now c.in_ok-r.r (content m) is (λ z. number_some _ (e ∙ z)))
    (settled (place_at a.places.now 0) (turned_away a.store.now _) (turned_away a.store.now _) _ _ refl (tests_turn (place_at a.places.now 0) c.from_residual-in_err-first_tests.result _ _ c.from_residual-in_err-first_tests.ensures.1 e) (lit< tt) refl)

pub slice_bounds-content-count : goal.slice_bounds-content-count
slice_bounds-content-count c = omega (arith, (good (goal.at.slice_bounds-content-count c).In_ok-r).0)

pub slice_bounds-content-start : goal.slice_bounds-content-start
slice_bounds-content-start c = omega (arith, (good (goal.at.slice_bounds-content-start c).In_ok-r).0)

-- the open place of the packet's number
here : (k : In-Some) → let n = open_at k.args.places.now k.in_ok-r.r.number in (k.in-Some.i ≡ n) × (n < four_places)
here k = one_some k.in-Some.i (open_at k.args.places.now k.in_ok-r.r.number) (sym k.in-Some.is ∙ k.open_at.ensures)

pub join-requires : goal.join-requires
join-requires c =
    let a = c.args in
    let r = c.in_ok-r.r in
    let fit = (good (goal.at.join-requires c).In_ok-r).2 in
    let (deep, good) = tests_passed a.places.now a.store.now (sym c.in_ok-first_tests.ensures) in
    let (there, low) = here (goal.at.join-requires c).In-Some in
    let sized = open_sized a.places.now r.number good low in
    let own = fit.own in
    let total = fit.total in
    (omega (arith, there, low), deep, subst (λ i. held (place_at a.places.now i) r.own ≤ part_bytes_of) (sym there) (sized.small r.own (omega arith)), omega arith, fit.few)

pub returns-in-Some : goal.returns-in-Some
returns-in-Some c =
    let m = (goal.at.returns-in-Some c).In_ok-r in
    let a = c.args in
    let r = c.in_ok-r.r in
    let (long, reads, fit) = good m in
    let (there, low) = here (goal.at.returns-in-Some c).In-Some in
    of_four a.places.now a.store.now a.packet.now _ _ _ (joins_open a.places.now a.store.now a.packet.now r (content m) reads (search rules) (sym c.in_ok-first_tests.ensures) low)
    (subst (λ i. Gives (place_at a.places.now 0) (joins a.store.now i (place_at a.places.now i) r (content m)) (turned (place_at a.places.now 0) c.join.result) c.join.new.store) there c.join.ensures)

pub begin-requires : goal.begin-requires
begin-requires c =
    let m = (goal.at.begin-requires c).In_ok-r in
    let a = c.args in
    let fit = (good m).2 in
    let zero = sym c.in_ok-first_tests.ensures in
    let (deep, _) = tests_passed a.places.now a.store.now zero in
    let own = fit.own in
    let total = fit.total in
    (deep, omega arith, fit.few)

pub returns-in-None : goal.returns-in-None
returns-in-None c =
    let m = (goal.at.returns-in-None c).In_ok-r in
    let a = c.args in
    let r = c.in_ok-r.r in
    let (long, reads, fit) = good m in
    let zero = sym c.in_ok-first_tests.ensures in
    let none = one_none (open_at a.places.now r.number) (sym c.in-None.is ∙ c.open_at.ensures) in
    of_four a.places.now a.store.now a.packet.now _ _ _ (opens_free a.places.now a.store.now a.packet.now r (content m) reads (search rules) zero none) c.begin.ensures
