-- `all_good` tells what its tests of the walk found, and what `good_entries` did.
use Rattle.std.specs.Prelude.{ℕ, zero, suc, ◌≤◌, ◌<◌, ◌^◌, ◌≡◌, true, false, eqb, not, is_ok, is_some}
use Rattle.std.proofs.Common.{sym, ap, ◌∙◌, arith, ltb-true}
use Rattle.tide.specs.Laws.RowEntries.{quiet_seen}
use Rattle.tide.proofs.writing.entries.all_good.Goals.{After-good_entries, then-is_ok, else-is_ok, then-is_none, else-is_none, then-w-lt-FAR, else-w-lt-FAR}
use Rattle.tide.proofs.writing.entries.all_good.Goals as goal

not_none : (n : ℕ) → not (eqb n 0) ≡ true → 1 ≤ n
not_none zero e = absurd cc
not_none (suc n) e = omega arith

-- the tests before the last, from the last back: each was come to
some : (c : After-good_entries) → (1 ≤ c.args.n) × (c.if-is_none.value ≡ true)
some c = elim c.if-w-lt-FAR.branch [ then-w-lt-FAR w ↦ (not_none c.args.n (sym w.value-is ∙ c.if-n-ne0.true), w.if-w-lt-FAR.true) | else-w-lt-FAR w ↦ absurd cc ]

near : (c : After-good_entries) → (c.args.w.at < 2 ^ 32) × (c.if-is_ok.value ≡ true)
near c =
    let k = (some c).1 in
    elim c.if-is_none.branch [ then-is_none w ↦ (ltb-true _ _ (sym w.value-is ∙ k), w.if-is_none.true) | else-is_none w ↦ absurd cc ]

clean : (c : After-good_entries) → (is_ok c.args.w.verdict ≡ true) × (is_some c.args.w.sought ≡ false)
clean c =
    let k = (near c).1 in
    elim c.if-is_ok.branch [ then-is_ok w ↦ (sym c.is_ok.ensures.value ∙ w.if-is_ok.true, w.is_none.ensures ∙ ap not (sym w.value-is ∙ k)) | else-is_ok w ↦ absurd cc ]

pub returns-then-n-ne0 : goal.returns-then-n-ne0
returns-then-n-ne0 c e =
    let (ok, none) = clean c in
    record { is = quiet_seen c.args.w ok none; near = (near c).0; some = (some c).0; good = c.good_entries.ensures e }
