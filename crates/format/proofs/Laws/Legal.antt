-- What accepted values have, field by field. Assumes nothing.
use Rattle.std.specs.Prelude.{◌≡◌, Bool, List, [], ◌∷◌, ℕ, ◌+◌}
use Rattle.format.specs.Fmt.{accepted, Fmt, end, field, choice, bytes, write}
use Rattle.format.specs.Laws.Round.{clash, written, sized_inv}
use Rattle.format.specs.Laws.Legal.{Legal}

pub legal : (f : Fmt) (h : List ℕ) (at : ℕ) (vs : List ℕ) (b : List Bool) → write f h at vs ≡ accepted b → Legal f h vs
unfolding write
legal end h at [] b e = tt
legal end h at (v ∷ vs) b e = clash e
legal (field w j m f) h at [] b e = clash e
legal (field w j m f) h at (v ∷ vs) b e = let y = written w j h at v _ b e in (y.narrow, y.fine, legal f (v ∷ h) (at + w) vs y.rest y.after)
legal (choice w j f) h at [] b e = clash e
legal (choice w j f) h at (v ∷ vs) b e = let y = written w j h at v _ b e in (y.narrow, y.fine, legal (f v) (v ∷ h) (at + w) vs y.rest y.after)
legal (bytes f) h at [] b e = clash e
legal (bytes f) h at (n ∷ vs) b e = legal (f n) (n ∷ h) at vs b (sized_inv n at _ e).0
