-- The head of a serial frame, read, judged and put: where the code stands behind it. Assumes nothing.
use Rattle.std.specs.Prelude.{◌≡◌, Bool, false, cond, ◌&&◌, List, [], ◌∷◌, ℕ, ◌≤◌, ◌<◌, ◌^◌, leb}
use Rattle.std.proofs.Math.Path.{refl}
use Rattle.std.proofs.Common.{arith, lit<, lit≤, le-leb}
use Rattle.bits.specs.Answers.{got}
use Rattle.bits.specs.Bits.{bits_of}
use Rattle.format.specs.Fmt.{Fmt, read, write}
use Rattle.walk.specs.Walk.{onward}
use Rattle.format.specs.Words.{◌‥◌}
use Rattle.format.specs.Laws.Extent.{opens_field}
use Rattle.walk.specs.Laws.Judging.{Judging, judge_start, judge_fixed, judge_tells, judge_num}
use Rattle.format.specs.Laws.Putting.{Putting}
use Rattle.format.proofs.Laws.Putting.{put_number}
use Rattle.walk.specs.Laws.Reading.{start, step_code, step_limits, step_num}
use Rattle.walk.specs.Laws.Step.{Reading}
use Rattle.format.specs.Laws.Tells.{only_tells}
use Rattle.format.specs.Laws.Zero.{Judged, only_numbered}
use Rattle.walk.specs.Walk.{Walk}
use Rattle.frame.specs.Frame.{frame}
use Rattle.frame.specs.Steps.{headed, head_judged, head_put}

module _ (letters lo hi : ℕ) (f : Fmt) where
  -- read
  pub head_read : (s : List ℕ) {q : Walk} → q ≡ headed s letters lo hi
      → Reading (read (frame letters lo hi f) [] 0 (bits_of s)) (frame letters lo hi f) 0 s f (q.v ∷ got s 40 16 ∷ letters ∷ 0x24 ∷ []) 80 (λ vs. 0x24 ∷ letters ∷ got s 40 16 ∷ q.v ∷ vs) q
  unfolding onward
  head_read s d =
      let r0 = start (frame letters lo hi f) 0 0 s refl in
      let r1 = step_code 8 (lit≤ tt) (lit< tt) 0x24 r0 refl in
      let r2 = step_code 32 (lit≤ tt) (lit< tt) letters r1 refl in
      let r3 = step_limits 16 (lit< tt) (lit≤ tt) (lit< tt) 0 lo hi (lo ‥ hi) (λ v. refl) r2 refl in
      step_num 24 (lit< tt) (lit≤ tt) (lit< tt) 0 2_097_151 r3 d

  -- judged
  pub head_judged_lem : (length address : ℕ) (vs : List ℕ) {q : Walk} → letters < 2 ^ 32 → lo ≤ length → length ≤ hi → hi < 2 ^ 16 → q ≡ head_judged letters length address
      → Judging (write (frame letters lo hi f) [] 0 (0x24 ∷ letters ∷ length ∷ address ∷ vs)) f (address ∷ length ∷ letters ∷ 0x24 ∷ []) 80 vs q
  head_judged_lem length address vs small above below most d =
      let good : ◌≡◌ {A = ℕ} 0 (cond (leb lo length && leb length hi) 0 1) = rw (le-leb lo length above, le-leb length hi below) refl in
      let r0 = judge_start (frame letters lo hi f) 0 0 (0x24 ∷ letters ∷ length ∷ address ∷ vs) refl in
      let r1 = judge_fixed 8 1 0x24 (lit< tt) (lit< tt) r0 refl in
      let r2 = judge_fixed 32 1 letters (lit< tt) small r1 refl in
      let r3 = judge_tells 16 false length 0 (lit< tt) (omega arith) (only_tells 16 0 (lo ‥ hi) (letters ∷ 0x24 ∷ [])) good opens_field r2 refl in
      judge_num 24 (lit< tt) 0 2_097_151 (lit< tt) r3 d

  -- put
  pub head_put_lem : {s t u : List ℕ} {b : List Bool} {length address : ℕ} {vs : List ℕ} → Putting s b (frame letters lo hi f) 0 (0x24 ∷ letters ∷ length ∷ address ∷ vs) t → u ≡ head_put letters length address t
      → Putting s b f 80 vs u
  head_put_lem e d =
      let p1 = put_number 8 (lit≤ tt) opens_field e refl in
      let p2 = put_number 32 (lit≤ tt) opens_field p1 refl in
      let p3 = put_number 16 (lit≤ tt) opens_field p2 refl in
      put_number 24 (lit≤ tt) opens_field p3 d

  -- its refusals are numbers of the paper
  pub head_numbered : Judged f → Judged (frame letters lo hi f)
  head_numbered j = (only_numbered 8 1 _, (only_numbered 32 1 _, (only_numbered 16 0 _, (only_numbered 24 3 _, j))))
