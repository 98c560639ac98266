-- Whatever chunks a log is read in, and whatever the buffers' sizes, the turns of a run write its listing or are refused by 6. Assumes nothing.
use Rattle.std.specs.Prelude.{ℕ, ◌+◌, cond, List, [], ◌++◌, length, take}
use Rattle.daylog.specs.Log.{ending_of, listing_from}
use Rattle.daylog.specs.Turns.{State}

-- ---- the text

-- what a state has yet to write, by the bytes that wait and those that are yet to be read
abbrev pub due : State → List ℕ → List ℕ → List ℕ
due t input rest =
    cond t.done [] (cond t.broken (ending_of t.number (t.left + length rest)) (listing_from t.number (take t.waiting input ++ rest)))

-- the bytes that a state has read and not listed
abbrev pub held : State → ℕ
held t = cond t.broken t.left t.waiting
