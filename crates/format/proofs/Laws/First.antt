-- What the fields of an accepted message say of its first tests: for a layout's proof that it is sound. Assumes nothing.
use Rattle.std.specs.Prelude.{◌≡◌, Bool, List, [], ℕ, suc, length, take}
use Rattle.std.proofs.Common.{◌∙◌, subst, arith}
use Rattle.bits.specs.Bits.{value_of, bits_of, field_at}
use Rattle.bits.specs.Laws.Bytes.{length_bits}
use Rattle.format.specs.Fmt.{accepted, Fmt, field, read}
use Rattle.format.specs.Message.{Layout}
use Rattle.format.specs.Words.{◌‥◌, only}
use Rattle.format.specs.Laws.Extent.{Plain}
use Rattle.format.proofs.Laws.Extent.{span_laid}
use Rattle.format.specs.Laws.Legal.{Legal, exactly}
use Rattle.format.proofs.Laws.Legal.{legal}
use Rattle.format.proofs.Laws.Round.{read_write}
use Rattle.format.specs.Laws.First.{opened}

-- a code in front is there
pub opens : (w c n : ℕ) (m : List ℕ → Bool) (f : Fmt) (s vs : List ℕ) → read (field w (only w (suc c) (n ‥ n)) m f) [] 0 (bits_of s) ≡ accepted vs → field_at s 0 w ≡ n
unfolding read field_at
opens w c n m f s vs e =
    let o = opened w (only w (suc c) (n ‥ n)) [] 0 (bits_of s) _ vs e in
    let g = field w (only w (suc c) (n ‥ n)) m f in
    let h = subst (Legal g []) o.front (legal g [] 0 vs (bits_of s) (read_write g [] 0 vs (bits_of s) e)) in
    exactly w c n [] (value_of (take w (bits_of s))) h.0 h.1

-- an accepted message of a flat layout has its bytes
pub bytes_long : (l : Layout) {n : ℕ} (x : Plain l n) (s vs : List ℕ) → read l.fmt [] 0 (bits_of s) ≡ accepted vs → length s ≡ n
bytes_long l x s vs e =
    let k = span_laid l.fmt [] 0 vs (bits_of s) x.even (read_write l.fmt [] 0 vs (bits_of s) e) ∙ x.spans in
    omega (arith, k, length_bits s)
