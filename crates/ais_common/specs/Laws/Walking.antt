-- A time read and judged, and a number put: where the code stands behind it. Assumes nothing.
use Rattle.std.specs.Prelude.{◌≡◌, refl, Bool, cond, List, [], ◌∷◌, ℕ, ◌+◌, ◌*◌, ◌≤◌, ◌<◌, ◌^◌, length}
use Rattle.std.proofs.Common.{ap, ◌∙◌, arith, lit<, lit≤}
use Rattle.bits.specs.Answers.{puttable}
use Rattle.bits.specs.Bits.{put_at}
use Rattle.format.specs.Correcting.{put_in, put_in_lem}
use Rattle.format.specs.Fmt.{Out, Judge, Fmt}
use Rattle.format.specs.Words.{Part, part, ◌‥◌, walk, wide}
use Rattle.format.specs.Laws.Extent.{Opens}
use Rattle.format.specs.Laws.Putting.{Putting}
use Rattle.format.proofs.Laws.Putting.{put_number}
use Rattle.walk.specs.Pieces.{piecewise}
use Rattle.walk.specs.Laws.Judging.{Judging}
use Rattle.walk.specs.Laws.Parts.{step_there}
use Rattle.walk.specs.Laws.Pieces.{Matches, parts_match, judge_group}
use Rattle.walk.specs.Laws.Step.{Reading}
use Rattle.format.specs.Laws.Zero.{Judged, Numbered, Coded, walk_numbered}
use Rattle.walk.specs.Walk.{Walk}
use Rattle.ais_common.specs.Steps.{time_read, short_read, time_judged, short_judged}
use Rattle.ais_common.specs.Time.{date_parts, time_parts, time, short_time}

-- ---- its parts judged

date_coded : (ps : List Part) → Coded ps → Coded (date_parts ps)
date_coded ps z = ((λ z. omega arith), ((λ z. omega arith), ((λ z. omega arith), z)))

-- the tests of a time look at no value before it
time_parts_lem : (h : List ℕ) → Matches (walk time_parts 0 h) 20 (piecewise time_parts [])
unfolding wide piecewise
time_parts_lem h = parts_match time_parts h 20 (date_coded (part 6 4 (0 ‥ 59) ∷ []) ((λ z. omega arith), tt)) refl

short_parts : (h : List ℕ) → Matches (walk (date_parts []) 0 h) 14 (piecewise (date_parts []) [])
unfolding wide piecewise
short_parts h = parts_match (date_parts []) h 14 (date_coded [] tt) refl

module _ {o : Out (List Bool)} {f : Fmt} {h : List ℕ} {at v : ℕ} {vs : List ℕ} {r p : Walk} where
  pub time_judged_lem : at + 20 < 2 ^ 64 → Judging o (time f) h at (v ∷ vs) r → p ≡ time_judged v r → Judging o f (v ∷ h) (at + 20) vs p
  unfolding wide
  time_judged_lem reach e d = judge_group reach (time_parts_lem h) e d

  pub short_judged_lem : at + 14 < 2 ^ 64 → Judging o (short_time f) h at (v ∷ vs) r → p ≡ short_judged v r → Judging o f (v ∷ h) (at + 14) vs p
  unfolding wide
  short_judged_lem reach e d = judge_group reach (short_parts h) e d

-- ---- read, where it is there

module _ {o : Out (List ℕ)} {all : Fmt} {i : ℕ} {s : List ℕ} {h : List ℕ} {at : ℕ} {k : List ℕ → List ℕ} {r q : Walk} {f : Fmt} where
  pub time_read_lem : at + 20 < 2 ^ 64 → at + 20 ≤ length s * 8 → Reading o all i s (time f) h at k r → q ≡ time_read s r → Reading o all i s f (q.v ∷ h) (at + 20) (λ vs. k (q.v ∷ vs)) q
  unfolding wide
  time_read_lem reach there e d = step_there 20 (lit< tt) (lit≤ tt) reach there (time_parts_lem h) e d

  pub short_read_lem : at + 14 < 2 ^ 64 → at + 14 ≤ length s * 8 → Reading o all i s (short_time f) h at k r → q ≡ short_read s r → Reading o all i s f (q.v ∷ h) (at + 14) (λ vs. k (q.v ∷ vs)) q
  unfolding wide
  short_read_lem reach there e d = step_there 14 (lit< tt) (lit≤ tt) reach there (short_parts h) e d

-- ---- a number put, told by another that it is

pub put_told : {s t : List ℕ} {l : List Bool} {f g : Fmt} {at u v : ℕ} {vs : List ℕ} {j : Judge} {r : Bool} {p : List ℕ} (w : ℕ) → w ≤ 32 → Opens f at u vs w j g → v ≡ u
    → Putting s l f at (u ∷ vs) t → (r ≡ puttable t at w v) × (p ≡ cond r (put_at t at w v) t) → Putting s l g (at + w) vs p
put_told {t = t} {at = at} w small opens is e d = put_number w small opens e (put_in_lem t at w _ d ∙ ap (put_in t at w) is)

-- ---- their refusals are numbers of the paper

pub date_numbered : (ps : List Part) → Coded ps → Numbered (walk (date_parts ps) 0)
date_numbered ps z = walk_numbered (date_parts ps) (date_coded ps z)

pub time_numbered : (f : Fmt) → Judged f → Judged (time f)
time_numbered f j = (date_numbered (part 6 4 (0 ‥ 59) ∷ []) ((λ z. omega arith), tt), j)

pub short_numbered : (f : Fmt) → Judged f → Judged (short_time f)
short_numbered f j = (date_numbered [] tt, j)
