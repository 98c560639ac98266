-- Nothing of a packet that came before a notice was last opened is handed out: what asking gives hangs on the calls and the numbers of their replies since a moment at which no place had its number. Assumes nothing.
use Rattle.std.specs.Prelude.{◌≡◌, refl, List, [], ◌∷◌, ◌++◌, ℕ}
use Rattle.std.proofs.Common.{sym, ap, ◌∙◌}
use Rattle.desk_runs.specs.Runs.{Desk, Empty, Call, reply_to, number_of, after, run, log, grown, since, asked, due}
use Rattle.desk_runs.proofs.Laws.Demand.{asked_is_due}

-- ---- runs in two parts, the newer in front

run_split : (d : Desk) (new old : List Call) → run d (new ++ old) ≡ run (run d old) new
unfolding run
run_split d [] old = refl
run_split d (c ∷ new) old = ap (after c) (run_split d new old)

log_split : (d : Desk) (new old : List Call) → log d (new ++ old) ≡ log (run d old) new ++ log d old
unfolding log
log_split d [] old = refl
log_split d (c ∷ new) old = λ i. (c, number_of (reply_to c (run_split d new old i))) ∷ log_split d new old i

since_split : (n : ℕ) (new old : List (Call × ℕ)) → since n old ≡ [] → since n (new ++ old) ≡ since n new
unfolding since
since_split n [] old e = e
since_split n (c ∷ new) old e = ap (grown n c) (since_split n new old e)

-- ---- what is forgotten

-- Where none of n has come in the older calls, asking gives what is due for the packets that came in the newer ones alone.
pub older_forgotten : (d : Desk) → Empty d → (new old : List Call) (n : ℕ) (b w : List ℕ) → since n (log d old) ≡ [] → asked n b w (run d (new ++ old)) ≡ due (since n (log (run d old) new)) b w
older_forgotten d empty new old n b w e =
    asked_is_due d empty (new ++ old) n b w
    ∙ ap (λ xs. due xs b w) (ap (since n) (log_split d new old) ∙ since_split n (log (run d old) new) (log d old) e)

-- So two desks on which the same was called, with the same numbers, since then give the same, whatever was called before and whatever stood in places and store.
pub same_since_then : (d d' : Desk) → Empty d → Empty d' → (new old new' old' : List Call) (n : ℕ) (b w : List ℕ) → since n (log d old) ≡ [] → since n (log d' old') ≡ []
    → log (run d old) new ≡ log (run d' old') new' → asked n b w (run d (new ++ old)) ≡ asked n b w (run d' (new' ++ old'))
same_since_then d d' empty empty' new old new' old' n b w e e' same =
    older_forgotten d empty new old n b w e ∙ ap (λ h. due (since n h) b w) same ∙ sym (older_forgotten d' empty' new' old' n b w e')
