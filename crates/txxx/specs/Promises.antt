-- What `read` and `content` promise of the bytes s that they are lent; writing and correcting promise what every layout's do (format/specs/Promises). Assumes nothing.
use Rattle.std.specs.Prelude.{◌≡◌, List, [], ℕ, Result}
use Rattle.format.specs.Fmt.{also}
use Rattle.format.specs.Promises.{answered, read_record, out_of, plain}
use Rattle.format.specs.declared.Refusal.{Refusal}
use Rattle.txxx.specs.Txxx.{txxxs, record_of}
use Rattle.txxx.specs.declared.reading.Txxx.{Txxx}

-- the record without its content, which is shown beside it
abbrev pub Reads : List ℕ → Result Txxx Refusal → Type 0
Reads s a = out_of a ≡ plain (also (λ r. r.0) (read_record txxxs record_of s))

-- the content bytes; none where the frame is refused
abbrev pub Shows : List ℕ → List ℕ → Type 0
Shows s c = c ≡ answered (λ r. r.1) (λ n. []) (read_record txxxs record_of s)
