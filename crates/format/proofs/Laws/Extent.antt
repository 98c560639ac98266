-- With what a layout opens, and how many bits it takes by the values that decide it. Assumes nothing.
use Rattle.std.specs.Prelude.{◌≡◌, Bool, true, List, [], ◌∷◌, ℕ, ◌+◌, length}
use Rattle.std.proofs.Common.{sym, ap, ◌∙◌, arith, length-append}
use Rattle.bits.specs.Bits.{digits}
use Rattle.bits.specs.Laws.Digits.{length_digits}
use Rattle.format.specs.Fmt.{Out, accepted, Judge, Fmt, end, field, choice, bytes, write_field, write, pad}
use Rattle.format.specs.Laws.Round.{clash, accepted_inj, written, sized_inv, unjudged, lay}
use Rattle.format.proofs.Laws.Round.{write_lay}
use Rattle.format.specs.Laws.Extent.{extent, flat, flat_extent, span}

extent_field : (w : ℕ) (j : Judge) (h : List ℕ) (at v n : ℕ) (o : Out (List Bool)) (b : List Bool) → ((l : List Bool) → o ≡ accepted l → length l ≡ n) → write_field w j h at v o ≡ accepted b → length b ≡ w + n
extent_field w j h at v n o b k e =
    let y = written w j h at v o b e in
    ap length (sym y.whole) ∙ length-append (digits w v) y.rest ∙ omega (arith, length_digits w v, k y.rest y.after)

-- as its values are laid out, with no judging,
pub extent_lay : (f : Fmt) (at : ℕ) (vs : List ℕ) (b : List Bool) → lay f at vs ≡ accepted b → length b ≡ extent f at vs
unfolding lay
extent_lay end at [] b e = ap length (sym (accepted_inj e)) ∙ length_digits (pad at) 0
extent_lay end at (v ∷ vs) b e = clash e
extent_lay (field w j m f) at [] b e = clash e
extent_lay (field w j m f) at (v ∷ vs) b e = extent_field w unjudged [] at v _ _ b (extent_lay f (at + w) vs) e
extent_lay (choice w j f) at [] b e = clash e
extent_lay (choice w j f) at (v ∷ vs) b e = extent_field w unjudged [] at v _ _ b (extent_lay (f v) (at + w) vs) e
extent_lay (bytes f) at [] b e = clash e
extent_lay (bytes f) at (n ∷ vs) b e = extent_lay (f n) at vs b (sized_inv n at (lay (f n) at vs) e).0

-- and so as writing accepts them
pub extent_laid : (f : Fmt) (h : List ℕ) (at : ℕ) (vs : List ℕ) (b : List Bool) → write f h at vs ≡ accepted b → length b ≡ extent f at vs
extent_laid f h at vs b e = extent_lay f at vs b (write_lay f h at vs b e)

-- ---- a flat layout

pub span_laid : (f : Fmt) (h : List ℕ) (at : ℕ) (vs : List ℕ) (b : List Bool) → flat f ≡ true → write f h at vs ≡ accepted b → length b ≡ span f at
unfolding span
span_laid f h at vs b z e = extent_laid f h at vs b e ∙ flat_extent f at vs [] z
