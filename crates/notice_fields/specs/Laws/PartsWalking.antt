-- An expiry, a time and an angle, read and judged: where the code stands behind it, its value and its offset. Each is a list of parts, and the laws on parts are theirs. Assumes nothing.
use Rattle.std.specs.Prelude.{◌≡◌, refl, Bool, List, [], ◌∷◌, ℕ, ◌+◌, ◌<◌, ◌^◌}
use Rattle.std.proofs.Common.{arith, lit<, lit≤}
use Rattle.format.specs.Fmt.{Out, Fmt}
use Rattle.format.specs.Words.{walk, wide, or_zero}
use Rattle.format.specs.Laws.Zero.{Numbered, Coded, walk_numbered, zero_numbered}
use Rattle.walk.specs.Pieces.{piecewise}
use Rattle.walk.specs.Laws.Judging.{Judging}
use Rattle.walk.specs.Laws.Parts.{step_group}
use Rattle.walk.specs.Laws.Pieces.{Matches, parts_match, zero_match, piecewise_v, piecewise_width, judge_group}
use Rattle.walk.specs.Laws.Step.{Reading}
use Rattle.walk.specs.Walk.{Walk}
use Rattle.notice_fields.specs.Parts.{moment, expiry, angle, latitude_bits, longitude_bits}
use Rattle.notice_fields.specs.Terms.{angle_coded}
use Rattle.notice_fields.specs.PartsSteps.{expiry_pieces, expiry_judged, expiry_read}

-- ---- their refusals are numbers of the paper

moment_coded : Coded moment
moment_coded = ((λ z. omega arith), ((λ z. omega arith), ((λ z. omega arith), ((λ z. omega arith), ((λ z. omega arith), tt)))))

pub time_numbered : Numbered (walk moment 0)
time_numbered = walk_numbered moment moment_coded

pub expiry_numbered : Numbered (or_zero 21 (walk moment 0))
expiry_numbered = zero_numbered 21 (walk moment 0) time_numbered

-- ---- their parts judged; they look at no value before them

pub moment_parts : (h : List ℕ) → Matches (walk moment 0 h) 21 (piecewise moment [])
unfolding wide piecewise
moment_parts h = parts_match moment h 21 moment_coded refl

expiry_parts : (h : List ℕ) → Matches (or_zero 21 (walk moment 0) h) 21 expiry_pieces
expiry_parts h = zero_match (walk moment 0) h (λ n v. (piecewise_v moment [] _, piecewise_width moment [] _)) (moment_parts h)

angle_parts : (n d most : ℕ) (h : List ℕ) → wide (angle d most) ≡ n → Matches (walk (angle d most) 0 h) n (piecewise (angle d most) [])
unfolding piecewise
angle_parts n d most h all = parts_match (angle d most) h n (angle_coded d most) all

pub latitude_parts : (h : List ℕ) → Matches (walk (angle 7 90) 0 h) latitude_bits (piecewise (angle 7 90) [])
unfolding wide
latitude_parts h = angle_parts latitude_bits 7 90 h refl

pub longitude_parts : (h : List ℕ) → Matches (walk (angle 8 180) 0 h) longitude_bits (piecewise (angle 8 180) [])
unfolding wide
longitude_parts h = angle_parts longitude_bits 8 180 h refl

module _ {o : Out (List Bool)} {f : Fmt} {h : List ℕ} {at v : ℕ} {vs : List ℕ} {r p : Walk} where
  pub expiry_judged_lem : at + 21 < 2 ^ 64 → Judging o (expiry f) h at (v ∷ vs) r → p ≡ expiry_judged v r → Judging o f (v ∷ h) (at + 21) vs p
  expiry_judged_lem reach e d = judge_group reach (expiry_parts h) e d

-- ---- read

module _ {o : Out (List ℕ)} {all : Fmt} {i : ℕ} {s : List ℕ} {h : List ℕ} {at : ℕ} {k : List ℕ → List ℕ} {r q : Walk} {f : Fmt} where
  pub expiry_read_lem : at + 21 < 2 ^ 64 → Reading o all i s (expiry f) h at k r → q ≡ expiry_read s r → Reading o all i s f (q.v ∷ h) (at + 21) (λ vs. k (q.v ∷ vs)) q
  expiry_read_lem reach e d = step_group 21 (lit< tt) (lit≤ tt) reach (expiry_parts h) e d
