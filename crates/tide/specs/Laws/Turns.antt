-- Turns of the loops over a tide's records and entries. Assumes nothing.
use Rattle.std.specs.Prelude.{ℕ, suc, ◌≡◌, refl, Bool, true, false, cond, List, eqb}
use Rattle.std.proofs.Common.{sym, ap, ◌∙◌}
use Rattle.walk.specs.Groups.{repeat_walked}
use Rattle.walk.specs.Reading.{ranged}
use Rattle.walk.specs.Laws.Groups.{walk_turn}
use Rattle.walk.specs.Walk.{Walk}
use Rattle.tide.specs.Steps.{count_read, opened_at, entry_read, entry_step, entries_step, record_step, records_walked}

-- over one entry, and by `next` behind the last: a refused one ends it
pub entry_turn : (s : List ℕ) (next : Walk → Walk) (n : ℕ) {m : ℕ} (r : Walk) {p : Walk} → m ≡ suc n → p ≡ entry_read s r
    → repeat_walked m (entry_step s) next r ≡ cond (eqb p.code 0) (repeat_walked n (entry_step s) next p) p
entry_turn s next n r e d = walk_turn (entry_step s) next n r e ∙ ap (λ (p : Walk). cond (eqb p.code 0) (repeat_walked n (entry_step s) next p) p) (sym d)

-- over one record's head as the code opens it: a refused position type leaves no entries to walk
opened : (s : List ℕ) (next : Walk → Walk) (r : Walk) → let p = opened_at s r in record_step s next r ≡ entries_step s p.v next p
unfolding record_step
opened s next r = go (eqb kind.code 0) refl
  where
    kind : Walk
    kind = ranged s 1 false 0 1 4 r

    head : Walk
    head = count_read s kind

    go : (b : Bool) → eqb kind.code 0 ≡ b → cond b (entries_step s head.v next head) kind ≡ entries_step s (cond b head kind).v next (cond b head kind)
    go true e = refl
    go false e = rw e refl

-- and then its entries
pub record_turn : (s : List ℕ) (n : ℕ) {m : ℕ} (r : Walk) {p : Walk} → m ≡ suc n → p ≡ opened_at s r
    → records_walked s m r ≡ cond (eqb p.code 0) (repeat_walked p.v (entry_step s) (records_walked s n) p) p
record_turn s n r e d = walk_turn (record_step s) (λ w. w) n r e ∙ opened s (records_walked s n) r ∙ ap (λ (p : Walk). cond (eqb p.code 0) (repeat_walked p.v (entry_step s) (records_walked s n) p) p) (sym d)
