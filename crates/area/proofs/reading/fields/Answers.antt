-- `fields` walks the area as its layout stands: one law each for what comes before the shape, the shape and the times, one step a field behind them; then the record is that of the values. Where it stops before the shape, the refusal stuck.
use mathlib.Core.Path.{◌≡◌, sym, ap, ◌∙◌}
use lib.Dec.{lit<, lit≤}
use lib.ListN.{length}
use mathlib.Core.List.{List, []}
use Prim.Native.Nat.{ℕ}
use native.Mathlib.Omega.{arith}
use Rattle.bits.specs.Bits.{bits_of}
use Rattle.format.specs.Fmt.{accepted, also, read}
use Rattle.format.specs.Message.{fields_of}
use Rattle.format.specs.Promises.{plain, refused_by}
use Rattle.format.specs.Laws.Lead.{exact_fields, other_size}
use Rattle.format.specs.Laws.Outcomes.{out_exit, walk_exit, walk_passed}
use Rattle.walk.specs.Walk.{seen}
use Rattle.walk.specs.Laws.Reading.{step_num, step_fill}
use Rattle.walk.specs.Laws.Walked.{Walked, finish}
use Rattle.ais_common.specs.Laws.Walking.{time_read_lem, short_read_lem}
use Rattle.area.specs.Area.{area, record_of}
use Rattle.area.specs.Laws.Told.{laid, recorded}
use Rattle.area.proofs.reading.fields.Goals.{After-end-w, Else-s-ne-LEAST}
use Rattle.area.proofs.reading.fields.Goals as goal

pub returns-then-s-ne-LEAST : goal.returns-then-s-ne-LEAST
returns-then-s-ne-LEAST c = ap refused_by c.into.ensures ∙ sym (ap (λ o. plain (also record_of o)) (other_size area 31 31 c.args.s.now (λ l u. c.if-s-ne-LEAST.true (omega (arith, l, u)))))

-- the bytes have the area's size: what is walked is their reading
whole : (c : Else-s-ne-LEAST) → let s = c.args.s.now in plain (also record_of (read area [] 0 (bits_of s))) ≡ plain (also record_of (fields_of area 31 31 s))
whole c = sym (ap (λ o. plain (also record_of o)) (exact_fields area 31 c.args.s.now c.if-s-ne-LEAST.false))

-- the whole walk, with the area's values
module _ (c : After-end-w) where
  abbrev values : List ℕ
  values = let g = c.in_ok-begun.begun in laid g.repeat g.source g.sequence g.destination g.resent g.kind g.walk.v c.read-w.result.v c.read_short-w.result.v c.num-w.result.v c.read-shape.result.1

  all_walked : Walked (read area [] 0 (bits_of c.args.s.now)) area 0 values (seen c.end-w.result)
  all_walked =
      let long : length c.args.s.now ≡ 31 = c.if-s-ne-LEAST.false in
      let r12 = c.read-shape.ensures.on c.in_ok-begun.ensures in
      let r13 = time_read_lem {at = 204} (lit< tt) (omega (arith, long)) r12 c.read-w.ensures.0 in
      let r14 = short_read_lem {at = 224} (lit< tt) (omega (arith, long)) r13 c.read_short-w.ensures.0 in
      let r15 = step_num 4 (lit< tt) (lit≤ tt) (lit< tt) 1 6 r14 c.num-w.ensures.0 in
      let r16 = step_fill 6 (lit≤ tt) (lit< tt) r15 c.fill.ensures in
      finish (lit< tt) r16 c.end-w.ensures

pub returns-in_err-begun : goal.returns-in_err-begun
returns-in_err-begun c = out_exit c.from_residual.result _ c.from_residual.ensures.1 ∙ c.in_err-begun.ensures ∙ whole (goal.at.returns-in_err-begun c).Else-s-ne-LEAST

pub returns-in_err-passed : goal.returns-in_err-passed
returns-in_err-passed c =
    let end = (goal.at.returns-in_err-passed c).After-end-w in
    walk_exit record_of _ _ _ _ c.from_residual-in_err-passed.result _ c.from_residual-in_err-passed.ensures.1 c.in_err-passed.ensures (all_walked end).so ∙ whole (goal.at.returns-in_err-passed c).Else-s-ne-LEAST

pub returns : goal.returns
returns c =
    let g = c.in_ok-begun.begun in
    let end = (goal.at.returns c).After-end-w in
    let b = c.read-shape.result.1 in
    let back = recorded g.repeat g.source g.sequence g.destination g.resent g.kind g.walk.v c.read-w.result.v c.read_short-w.result.v c.num-w.result.v b (sym c.read-shape.ensures.kind) c.read-shape.ensures.narrow in
    (λ i. accepted (record {
      repeat = g.repeat;
      source = g.source;
      sequence = g.sequence;
      destination = g.destination;
      resent = g.resent;
      kind = g.kind;
      shape = b;
      time = c.of-time.ensures i;
      second_time = c.of-second_time.ensures i;
      advice = c.num-w.result.v;
    }))
    ∙ ap accepted (sym back)
    ∙ walk_passed record_of _ _ _ _ c.in_ok-passed.ensures (all_walked end).so
    ∙ whole (goal.at.returns c).Else-s-ne-LEAST
