-- A run over lent bytes is, read as rows of places, the run of its calls (desk_runs), and its numbers are those of that run's log: by induction, since each call leaves the row that it says. Assumes nothing.
use Rattle.std.specs.Prelude.{◌≡◌, refl, List, ◌∷◌, ℕ, ◌≤◌, length}
use Rattle.std.proofs.Common.{ap, ◌∙◌, arith}
use Rattle.format.specs.Refusals.{Verdict}
use Rattle.places.specs.Desk.{refusal_of}
use Rattle.places.specs.Places.{four_places}
use Rattle.desk_runs.specs.Runs.{Call, comes, asks, drops, reply_to, after, run, log}
use Rattle.desk_bytes.specs.Bytes.{begins, row_in}
use Rattle.desk_bytes.specs.Laws.Rows.{accepts_leaves, asks_leaves, drops_leaves}
use Rattle.desk_runs.specs.Lent.{Lent, desk_in, Run, none, accepts, answers, gives_up, calls_of}
use Rattle.desk_runs.specs.Laws.Follows.{Follows}

-- one call more
step : {d : Lent} {h : List (Call × ℕ)} {e : Lent} → Follows d h e → (c : Call) (code : Verdict) (e' : Lent) → code ≡ refusal_of (reply_to c (desk_in e)) → desk_in e' ≡ after c (desk_in e) → length e'.places ≡ length e.places
    → Follows d ((c, code.code) ∷ h) e'
unfolding run log calls_of
step f c code e' is left long = record {
  wide = omega (arith, f.wide, long);
  left = left ∙ ap (after c) f.left;
  logged = let same = is ∙ ap (λ x. refusal_of (reply_to c x)) f.left in λ i. (c, (same i).code) ∷ f.logged i;
}

pub follows : (d : Lent) → begins four_places ≤ length d.places → (h : List (Call × ℕ)) (e : Lent) → Run d h e → Follows d h e
unfolding run log calls_of
follows d wide h e none = record { wide = wide; left = refl; logged = refl }
follows d wide h e (accepts g f r m again code bs t again' (x, y, z, _)) =
    let before = follows d wide g f r in
    let o = accepts_leaves f.places before.wide f.store m in
    let row = ap row_in y ∙ o.row in
    step before (comes m) code _ x (λ i. record { places = row i; store = z i }) (ap length y ∙ o.long)
follows d wide h e (answers g f r n b w count language code bs c v count' language' (x, y, _, _, _, _)) =
    let before = follows d wide g f r in
    let o = asks_leaves f.places before.wide f.store n b w in
    let row = ap row_in y ∙ o.row in
    step before (asks n b w) code _ x (λ i. record { places = row i; store = f.store }) (ap length y ∙ o.long)
follows d wide h e (gives_up g f r n code bs (x, y)) =
    let before = follows d wide g f r in
    let o = drops_leaves f.places before.wide f.store n in
    let row = ap row_in y ∙ o.row in
    step before (drops n) code _ x (λ i. record { places = row i; store = f.store }) (ap length y ∙ o.long)
