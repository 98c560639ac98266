-- How a program lists a log: it reads, takes a turn and writes, from the first turn until it is done. Assumes nothing.
use Rattle.std.specs.Prelude.{◌≡◌, ℕ, ◌+◌, ◌<◌, ◌≤◌, true, false, List, [], ◌++◌, length, take}
use Rattle.daylog.specs.Turns.{Turns}
use Rattle.daylog.specs.Turns.{State}

-- A read puts the next bytes of the log, the chunk, behind those that wait. It brings none where the log has ended, and where
-- there is no room for any. Of what stands past them nothing is said.
pub record Reads (input : List ℕ) (waiting : ℕ) (chunk rest filled : List ℕ) : Type 0 where
  pub same : length filled ≡ length input
  pub within : waiting + length chunk ≤ length input
  pub holds : take (waiting + length chunk) filled ≡ take waiting input ++ chunk
  pub none : length chunk ≡ 0 → waiting < length input → rest ≡ []

-- A run from a state on: the input as it stands, the bytes of the log that are yet to be read, the text that is written, and
-- the code by which the run is done. The text's buffer has `room` bytes.
pub data Run (room : ℕ) : State → List ℕ → List ℕ → List ℕ → ℕ → Type 0 where
  stops : {t : State} {input rest : List ℕ} → t.done ≡ true → Run room t input rest [] t.code
  goes : {t r : State} {input filled kept text left rest out : List ℕ} {code : ℕ} (chunk : List ℕ) → t.done ≡ false
      → Reads input t.waiting chunk rest filled → length text ≡ room → Turns t filled (length chunk) text r kept left → Run room r kept rest out code
      → Run room t input (chunk ++ rest) (take r.made left ++ out) code
