-- A message that begins with codes is sound: what its fields accept has them where the first tests look. Assumes nothing.
use Rattle.std.proofs.Math.Path.{◌≡◌, refl, ap}
use Rattle.std.proofs.Common.{sym, ◌∙◌, subst, drop-drop}
use Rattle.std.specs.Prelude.{Bool, ◌&&◌, ℕ, ◌+◌, leb, length, take, drop, set}
use Rattle.std.proofs.Math.Bool.{true, false, cond}
use Rattle.std.proofs.lemmas.Bool.{false≢true}
use mathlib.Core.List.{List, [], ◌∷◌}
use Rattle.bits.specs.Bits.{value_of, bits_of, field_at}
use Rattle.format.specs.Fmt.{accepted, Fmt, found, read, spot}
use Rattle.format.specs.Message.{Sound, between}
use Rattle.format.specs.Words.{◌‥◌, only}
use Rattle.format.specs.Laws.First.{opened}
use Rattle.format.specs.Laws.Legal.{Legal, passed}
use Rattle.format.proofs.Laws.Legal.{legal}
use Rattle.format.proofs.Laws.Round.{read_write}
use Rattle.format.specs.Codes.{Code, coded, codes, there, headed}

pub codes_there : (cs : List Code) (f : Fmt) (h : List ℕ) (at : ℕ) (s vs : List ℕ) → read (codes cs f) h at (drop at (bits_of s)) ≡ accepted vs → there cs at s ≡ true
unfolding read codes there field_at
codes_there [] f h at s vs e = refl
codes_there (coded w lo hi ∷ cs) f h at s vs e =
    let b = drop at (bits_of s) in
    let v = value_of (take w b) in
    let g = codes (coded w lo hi ∷ cs) f in
    let o = opened w (only w 2 (lo ‥ hi)) h at b (λ v r. read (codes cs f) (v ∷ h) (at + w) r) vs e in
    let x = subst (Legal g h) o.front (legal g h at vs b (read_write g h at vs b e)) in
    let t : between lo hi v ≡ true = passed w 1 (lo ‥ hi) h v x.0 x.1 in
    let ih = codes_there cs f (v ∷ h) (at + w) s o.rest (ap (read (codes cs f) (v ∷ h) (at + w)) (sym (drop-drop w at (bits_of s))) ∙ o.after) in
    ap (λ b. b && there cs (at + w) s) t ∙ ih

-- where the kind is one that accepted values have, and no correction touches it
module _ (cs : List Code) (lo hi : ℕ) (kind : List ℕ → ℕ) (f : Fmt) where
  pub headed_sound : ((vs : List ℕ) → Legal (codes cs f) [] vs → kind vs ≡ 0) → ((vs : List ℕ) (i v p w : ℕ) → spot (codes cs f) [] vs i ≡ found p w → kind (set vs i v) ≡ kind vs) → Sound (headed cs lo hi kind f)
  unfolding headed
  headed_sound k t = record {
    sized = λ s vs e. ap (λ b. cond (leb lo (length s)) (cond b (cond (between lo hi (length s)) 0 1) 2) 1) (codes_there cs f [] 0 s vs e) ∙ go (leb lo (length s)) (leb (length s) hi);
    kinds = λ b vs e. k vs (legal (codes cs f) [] 0 vs b (read_write (codes cs f) [] 0 vs b e));
    stays = t;
    some = λ e. absurd (false≢true e);
  }
    where
      go : (x y : Bool) → ◌≡◌ {A = ℕ} (cond x (cond (x && y) 0 1) 1) (cond (x && y) 0 1)
      go true y = refl
      go false y = refl
