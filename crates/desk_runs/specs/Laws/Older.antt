-- Nothing of a packet that came before a notice was last opened is handed out: what asking gives hangs on the calls and the numbers of their replies since a moment at which no place had its number. Assumes nothing.
use Rattle.std.specs.Prelude.{◌≡◌, refl, true, List, [], ◌∷◌, ℕ}
use Rattle.desk_runs.specs.Runs.{Desk, Call, reply_to, number_of, run, log, frees, since}

-- ---- what is forgotten

-- A call that frees the place of n, handing it out or dropping it, leaves none of its packets.
pub freed_forgets : (d : Desk) (c : Call) (cs : List Call) (n : ℕ) → frees n c ≡ true → number_of (reply_to c (run d cs)) ≡ 0 → since n (log d (c ∷ cs)) ≡ []
unfolding since log
freed_forgets d c cs n e z = rw (z, e) refl
