-- A text in a lent buffer: at an offset of it, or at its front. Assumes nothing.
use Rattle.std.specs.Prelude.{◌≡◌, ℕ, ◌+◌, cond, List, [], length, nat_le}
use Rattle.std.proofs.lemmas.List.Edits.{sets}
use Rattle.format.specs.Message.{ahead}

-- the text t where it has room at offset `at` of `out`, and else none
abbrev pub placed : List ℕ → ℕ → List ℕ → List ℕ
placed out at t = cond (nat_le (at + length t) (length out)) t []

-- the text t stored at offset `at` of `out`, and the offset after it
pub record Stores (out : List ℕ) (at : ℕ) (t : List ℕ) (end : ℕ) (left : List ℕ) : Type 0 where
  pub ends : end ≡ at + length t
  pub leaves : left ≡ sets out at t

-- the call that writes t to the front of `out`: it answers how many bytes t has
pub record Made (out t : List ℕ) (made : ℕ) (left : List ℕ) : Type 0 where
  pub count : made ≡ length t
  pub leaves : left ≡ ahead t out
