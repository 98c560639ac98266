-- `bits::gather` meets its contract: `all` is the number that the bytes passed spell.
use Rattle.std.proofs.Common.{◌≡◌, ℕ, ◌+◌, ◌-◌, ◌≤◌, ◌<◌, List, length, take, drop, get_or, arith, sym, length-take, length-drop, get_or-take, get_or-drop}
use Rattle.bits.specs.Laws.Loops.{value_take_lt, value_none, value_next}
use Rattle.bits.proofs.gather.Goals as goal
use Rattle.bits.proofs.gather.Goals.{After-from}

length_part : (s : List ℕ) (from count : ℕ) → from + count ≤ length s → length (take (from + count - from) (drop from s)) ≡ count
length_part s from count h = simp (length-take, length-drop) (omega arith)

-- the byte at hand
part_at : (s : List ℕ) (from count k : ℕ) → k < count → get_or (take (from + count - from) (drop from s)) k 0 ≡ get_or s (from + k) 0
part_at s from count k h =
    let below : k < from + count - from = omega arith in
    rw (get_or-take, get_or-drop)

pub loop-x-init : goal.loop-x-init
loop-x-init c = sym value_none

pub overflow_mul-all : goal.overflow_mul-all
overflow_mul-all c =
    let a = c.args in
    let count = length_part a.s.now a.from a.count (omega arith) in
    omega (arith, value_take_lt c.loop-x.x-index 4 (drop a.from a.s.now) (omega arith))

pub overflow_add-all : goal.overflow_add-all
overflow_add-all c =
    let a = c.args in
    let k = c.loop-x.x-index in
    let count = length_part a.s.now a.from a.count (omega arith) in
    let x = part_at a.s.now a.from a.count k (omega arith) in
    omega (arith, value_take_lt k 4 (drop a.from a.s.now) (omega arith), c.type_inv.s (a.from + k))

pub loop-x-preserved : goal.loop-x-preserved
loop-x-preserved c =
    let a = c.args in
    let k = c.loop-x.x-index in
    let count = length_part a.s.now a.from a.count (omega arith) in
    let x = part_at a.s.now a.from a.count k (omega arith) in
    omega (arith, value_next a.s.now a.from k (omega arith) (c.type_inv.s (a.from + k)).fits)

pub returns : goal.returns
returns c =
    let a = c.args in
    let count = length_part a.s.now a.from a.count (omega arith) in
    let e : c.loop-x.x-index ≡ a.count = omega arith in
    cc
