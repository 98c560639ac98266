-- `opening` walks the area's first fields as its layout stands: one step a field; where it stops, the refusal is the reading's.
use mathlib.Core.Path.{◌≡◌, refl, ap, ◌∙◌}
use mathlib.Core.List.{List, [], ◌∷◌, reverse_aux}
use Prim.Native.Nat.{ℕ}
use lib.Dec.{lit<, lit≤}
use Rattle.bits.specs.Bits.{bits_of}
use Rattle.std.specs.Prelude.{Result, Ok, Err, IsErrAnd}
use Rattle.format.specs.declared.Refusal.{Refusal}
use Rattle.format.specs.Fmt.{accepted, Fmt, choice, read}
use Rattle.format.specs.Promises.{refused_by}
use Rattle.format.specs.Refusals.{seen_refusal, shown}
use Rattle.format.specs.Laws.Outcomes.{number_some}
use Rattle.format.specs.Words.{only, ◌‥◌, num, code, fill}
use Rattle.walk.specs.Laws.Step.{Reading}
use Rattle.walk.specs.Laws.Stopped.{stopped}
use Rattle.walk.specs.Walk.{Walk, seen}
use Rattle.walk.specs.Laws.Reading.{start, step_code, step_num, step_decide, step_fill}
use Rattle.area.specs.Area.{tail, area, record_of}
use Rattle.area.specs.Shapes.{kind_of, shape}
use Rattle.area.specs.Steps.{OpeningRead}
use Rattle.area.specs.declared.reading.Opened.{Opened}
use Rattle.area.proofs.reading.opening.Goals.{After-code-w-2, After-fill, After-num-w, After-num-w-2, After-num-w-3, After-num-w-4, After-num-w-5}
use Rattle.area.proofs.reading.opening.Goals as goal

-- the steps up to the source
module _ (n2 : After-num-w-2) where
  abbrev n1 : After-num-w
  n1 = (goal.at.After-num-w-2 n2).After-num-w

  abbrev bytes : List ℕ
  bytes = n1.args.s.now

  abbrev first : List ℕ → List ℕ
  first vs = 6 ∷ n1.num-w.result.v ∷ n2.num-w-2.result.v ∷ vs

  -- where reading stands behind them
  at_source : Reading (read area [] 0 (bits_of bytes)) area 0 bytes
      (num 2 (0 ‥ 3) (num 30 (0 ‥ 999_999_999) (num 1 (0 ‥ 1) (fill 1 (code 10 412 (code 6 11 (num 4 (1 ‥ 14) (choice 2 (only 2 2 (1 ‥ 2)) (λ t. shape (kind_of t) tail)))))))))
      (reverse_aux (first []) []) 38 first (seen n2.num-w-2.result)
  unfolding area
  at_source =
      let r0 = start area 0 0 bytes n1.begin.ensures in
      let r1 = step_code 6 (lit≤ tt) (lit< tt) 6 r0 n1.code-w.ensures in
      let r2 = step_num 2 (lit< tt) (lit≤ tt) (lit< tt) 0 3 r1 n1.num-w.ensures.0 in
      step_num 30 (lit< tt) (lit≤ tt) (lit< tt) 0 999_999_999 r2 n2.num-w-2.ensures.0

-- the steps before the kind
module _ (c3 : After-code-w-2) where
  abbrev f1 : After-fill
  f1 = (goal.at.After-code-w-2 c3).After-fill

  abbrev n5 : After-num-w-5
  n5 = (goal.at.After-fill f1).After-num-w-5

  abbrev n4 : After-num-w-4
  n4 = (goal.at.After-num-w-5 n5).After-num-w-4

  abbrev n3 : After-num-w-3
  n3 = (goal.at.After-num-w-4 n4).After-num-w-3

  abbrev n2 : After-num-w-2
  n2 = (goal.at.After-num-w-3 n3).After-num-w-2

  abbrev middle : List ℕ → List ℕ
  middle vs = first n2 (n3.num-w-3.result.v ∷ n4.num-w-4.result.v ∷ n5.num-w-5.result.v ∷ 0 ∷ 412 ∷ 11 ∷ vs)

  at-kind : Reading (read area [] 0 (bits_of (bytes n2))) area 0 (bytes n2) (num 4 (1 ‥ 14) (choice 2 (only 2 2 (1 ‥ 2)) (λ t. shape (kind_of t) tail))) (reverse_aux (middle []) []) 88 middle (seen c3.code-w-2.result)
  at-kind =
      let r4 = step_num 2 (lit< tt) (lit≤ tt) (lit< tt) 0 3 (at_source n2) n3.num-w-3.ensures.0 in
      let r5 = step_num 30 (lit< tt) (lit≤ tt) (lit< tt) 0 999_999_999 r4 n4.num-w-4.ensures.0 in
      let r6 = step_num 1 (lit< tt) (lit≤ tt) (lit< tt) 0 1 r5 n5.num-w-5.ensures.0 in
      let r7 = step_fill 1 (lit≤ tt) (lit< tt) r6 f1.fill.ensures in
      let r8 = step_code 10 (lit≤ tt) (lit< tt) 412 r7 c3.code.ensures in
      step_code 6 (lit≤ tt) (lit< tt) 11 r8 c3.code-w-2.ensures

-- a refusal that is handed on is the reading's
left : (s : List ℕ) (x : Result Opened Refusal) (f : Refusal) → IsErrAnd x (λ g. g ≡ f) → {t : Fmt} {h : List ℕ} {at : ℕ} {k : List ℕ → List ℕ} {r : Walk} → Reading (read area [] 0 (bits_of s)) area 0 s t h at k r
    → seen_refusal f ≡ shown r.code r.offset → OpeningRead s x
left s (Ok g) f h e is = absurd h
left s (Err g) f h e is = ap (λ f. refused_by (seen_refusal f)) h ∙ stopped accepted refused_by record_of e (λ z. number_some f.reason (ap (λ v. v.code) is ∙ z)) is

pub returns-in_err-passed : goal.returns-in_err-passed
returns-in_err-passed c = let source = (goal.at.returns-in_err-passed c).After-num-w-2 in
    left (bytes source) c.from_residual.result _ c.from_residual.ensures.1 (at_source source) c.in_err-passed.ensures

pub returns-in_err-passed-2 : goal.returns-in_err-passed-2
returns-in_err-passed-2 c = let kind = (goal.at.returns-in_err-passed-2 c).After-code-w-2 in
    left (bytes (n2 kind)) c.from_residual-in_err-passed-2.result _ c.from_residual-in_err-passed-2.ensures.1 (at-kind kind) c.in_err-passed-2.ensures

pub returns-in_err-passed-3 : goal.returns-in_err-passed-3
returns-in_err-passed-3 c =
    let kind = (goal.at.returns-in_err-passed-3 c).After-code-w-2 in
    let r10 = step_num 4 (lit< tt) (lit≤ tt) (lit< tt) 1 14 (at-kind kind) c.num-w-6.ensures.0 in
    let r11 = step_decide 2 (lit< tt) (lit≤ tt) (lit< tt) 1 1 2 (1 ‥ 2) (λ v. refl) r10 c.number-walk.ensures.0 in
    left (bytes (n2 kind)) c.from_residual-in_err-passed-3.result _ c.from_residual-in_err-passed-3.ensures.1 r11 c.in_err-passed-3.ensures

pub returns : goal.returns
returns c =
    let r10 = step_num 4 (lit< tt) (lit≤ tt) (lit< tt) 1 14 (at-kind (goal.at.returns c).After-code-w-2) c.num-w-6.ensures.0 in
    step_decide 2 (lit< tt) (lit≤ tt) (lit< tt) 1 1 2 (1 ‥ 2) (λ v. refl) r10 c.number-walk.ensures.0
