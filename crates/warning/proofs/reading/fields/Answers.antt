-- `fields` walks the warning as its layout stands: one step a field and one law for the body, then the record is that of the values. Where it stops before the body, the refusal stuck.
use mathlib.Core.Path.{◌≡◌, refl, sym, ap, ◌∙◌}
use lib.Dec.{lit<, lit≤}
use lib.ListN.{length}
use Rattle.warning.specs.Bodies.{kind_of, body_values}
use Rattle.format.specs.Fmt.{Out, accepted, also, read}
use Rattle.format.specs.Promises.{plain, refused_by}
use Rattle.format.specs.Laws.Outcomes.{number_some, out_exit, walk_exit, walk_passed}
use Rattle.format.specs.Message.{fields_of}
use Rattle.bits.specs.Bits.{bits_of}
use Rattle.walk.specs.Laws.Step.{Reading}
use Rattle.walk.specs.Laws.Stopped.{stopped}
use mathlib.Core.List.{List, [], ◌∷◌, reverse_aux}
use Prim.Native.Nat.{ℕ}
use Rattle.format.specs.Words.{◌‥◌}
use native.Mathlib.Omega.{arith}
use Rattle.format.specs.Laws.Lead.{exact_fields, other_size}
use Rattle.walk.specs.Laws.Reading.{start, step_code, step_fill, step_num, step_decide}
use Rattle.walk.specs.Laws.Walked.{Walked, finish}
use Rattle.walk.specs.Walk.{seen}
use Rattle.ais_common.specs.Laws.Walking.{time_read_lem}
use Rattle.warning.specs.Warning.{rest, warning, record_of}
use Rattle.warning.specs.Laws.Told.{recorded}
use Rattle.warning.proofs.reading.fields.Goals.{After-end-w, After-fill, After-num-w, After-num-w-2, After-number-w, Else-s-ne-LEAST}
use Rattle.warning.proofs.reading.fields.Goals as goal

pub returns-then-s-ne-LEAST : goal.returns-then-s-ne-LEAST
returns-then-s-ne-LEAST c = ap refused_by c.into.ensures ∙ sym (ap (λ o. plain (also record_of o)) (other_size warning 23 23 c.args.s.now (λ l u. c.if-s-ne-LEAST.true (omega (arith, l, u)))))

-- the steps up to the warning type
module _ (type : After-number-w) where
  abbrev spare : After-fill
  spare = (goal.at.After-number-w type).After-fill

  abbrev n2 : After-num-w-2
  n2 = (goal.at.After-fill spare).After-num-w-2

  abbrev n1 : After-num-w
  n1 = (goal.at.After-num-w-2 n2).After-num-w

  abbrev sized : Else-s-ne-LEAST
  sized = (goal.at.After-num-w n1).Else-s-ne-LEAST

  abbrev bytes : List ℕ
  bytes = sized.args.s.now

  abbrev all : Out (List ℕ)
  all = read warning [] 0 (bits_of bytes)

  abbrev first : List ℕ → List ℕ
  first vs = 8 ∷ n1.num-w.result.v ∷ n2.num-w-2.result.v ∷ 0 ∷ 412 ∷ 3 ∷ type.number-w.result.v ∷ vs

  -- where reading stands behind them
  at-type : Reading all warning 0 bytes (rest (kind_of type.number-w.result.v)) (reverse_aux (first []) []) 60 first (seen type.number-w.result)
  unfolding warning
  at-type =
      let r0 = start warning 0 0 bytes n1.begin.ensures in
      let r1 = step_code 6 (lit≤ tt) (lit< tt) 8 r0 n1.code-w.ensures in
      let r2 = step_num 2 (lit< tt) (lit≤ tt) (lit< tt) 0 3 r1 n1.num-w.ensures.0 in
      let r3 = step_num 30 (lit< tt) (lit≤ tt) (lit< tt) 0 999_999_999 r2 n2.num-w-2.ensures.0 in
      let r4 = step_fill 2 (lit≤ tt) (lit< tt) r3 spare.fill.ensures in
      let r5 = step_code 10 (lit≤ tt) (lit< tt) 412 r4 type.code.ensures in
      let r6 = step_code 6 (lit≤ tt) (lit< tt) 3 r5 type.code-w-2.ensures in
      step_decide 4 (lit< tt) (lit≤ tt) (lit< tt) 1 1 5 (1 ‥ 5) (λ v. refl) r6 type.number-w.ensures.0

  -- their reading is the one of the bytes, which have the warning's size
  whole : plain (also record_of all) ≡ plain (also record_of (fields_of warning 23 23 bytes))
  whole = sym (ap (λ o. plain (also record_of o)) (exact_fields warning 23 bytes sized.if-s-ne-LEAST.false))

-- the whole walk, with the warning's values
module _ (c : After-end-w) where
  abbrev typed : After-number-w
  typed = (goal.at.After-end-w c).After-number-w

  abbrev values : List ℕ
  values = first typed (c.num-w-3.result.v ∷ c.num-w-4.result.v ∷ body_values c.read-body.result.1 (c.read-w.result.v ∷ c.num-w-5.result.v ∷ 0 ∷ []))

  all_walked : Walked (all typed) warning 0 values (seen c.end-w.result)
  all_walked =
      let long : length (bytes typed) ≡ 23 = (sized typed).if-s-ne-LEAST.false in
      let r8 = step_num 23 (lit< tt) (lit≤ tt) (lit< tt) 0 7_200_000 (at-type typed) c.num-w-3.ensures.0 in
      let r9 = step_num 23 (lit< tt) (lit≤ tt) (lit< tt) 0 7_200_000 r8 c.num-w-4.ensures.0 in
      let r10 = c.read-body.ensures.on r9 in
      let r11 = time_read_lem {at = 156} (lit< tt) (omega (arith, long)) r10 c.read-w.ensures.0 in
      let r12 = step_num 6 (lit< tt) (lit≤ tt) (lit< tt) 0 48 r11 c.num-w-5.ensures.0 in
      let r13 = step_fill 2 (lit≤ tt) (lit< tt) r12 c.fill-2.ensures in
      finish (lit< tt) r13 c.end-w.ensures

pub returns-in_err-passed : goal.returns-in_err-passed
returns-in_err-passed c =
    let type = (goal.at.returns-in_err-passed c).After-number-w in
    let f = c.in_err-passed.field-0.0 in
    out_exit c.from_residual.result f c.from_residual.ensures.1
    ∙ stopped accepted refused_by record_of (at-type type) (λ z. number_some f.reason (ap (λ v. v.code) c.in_err-passed.ensures ∙ z)) c.in_err-passed.ensures ∙ whole type

pub returns-in_err-passed-2 : goal.returns-in_err-passed-2
returns-in_err-passed-2 c =
    let end = (goal.at.returns-in_err-passed-2 c).After-end-w in
    walk_exit record_of _ _ _ _ c.from_residual-in_err-passed-2.result _ c.from_residual-in_err-passed-2.ensures.1 c.in_err-passed-2.ensures (all_walked end).so ∙ whole (typed end)

pub returns : goal.returns
returns c =
    let end = (goal.at.returns c).After-end-w in
    let made = recorded c.num-w.result.v c.num-w-2.result.v c.number-w.result.v c.num-w-3.result.v c.num-w-4.result.v c.read-w.result.v c.num-w-5.result.v c.read-body.result.1 (kind_of c.number-w.result.v) (sym c.read-body.ensures.kind) in
    (λ i. accepted (record { repeat = c.num-w.result.v; source = c.num-w-2.result.v; longitude = c.num-w-3.result.v; latitude = c.num-w-4.result.v; body = c.read-body.result.1; time = c.of-time.ensures i; hours = c.num-w-5.result.v }))
    ∙ ap accepted (sym made) ∙ walk_passed record_of _ _ _ _ c.in_ok-passed-2.ensures (all_walked end).so ∙ whole (typed end)
