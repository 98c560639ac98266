-- `fill_place` meets its contract: by the position type.
use mathlib.Core.Path.{◌≡◌, refl, ap}
use native.Mathlib.Omega.{arith}
use native.Mathlib.Numerals.{add-one}
use borrow.Author.Tests.{eq-eqb, ne_eqb}
use lib.ListN.{set, length-set}
use Rattle.walk.specs.Laws.Reading.{got_lt}
use Rattle.notice_fields.specs.Parts.{latitude_bits, longitude_bits}
use Rattle.tide.specs.Row.{placed_long}
use Rattle.tide.proofs.row.fill_place.Goals as goal

pub overflow_cast-row : goal.overflow_cast-row
overflow_cast-row c =
    let a = c.args in
    omega (arith, got_lt a.s.now _ 6 c.get.ensures)

pub bounds-row-k : goal.bounds-row-k
bounds-row-k c =
    let e : placed_long c.args.kind ≡ 1 = rw (eq-eqb c.args.kind 0 c.if-kind-eq-PORT.true) refl in
    omega (arith, e, c.requires.1)

pub returns-then-kind-eq-PORT : goal.returns-then-kind-eq-PORT
returns-then-kind-eq-PORT c =
    let a = c.args in
    rw (eq-eqb a.kind 0 c.if-kind-eq-PORT.true) (ap (set a.row.now a.k) c.get.ensures)

pub overflow_cast-row-2 : goal.overflow_cast-row-2
overflow_cast-row-2 c =
    let a = c.args in
    omega (arith, got_lt a.s.now _ latitude_bits c.get-2.ensures)

pub bounds-row-k-2 : goal.bounds-row-k-2
bounds-row-k-2 c =
    let e : placed_long c.args.kind ≡ 2 = rw (ne_eqb c.args.kind 0 c.if-kind-eq-PORT.false) refl in
    omega (arith, e, c.requires.1)

pub overflow_cast-row-3 : goal.overflow_cast-row-3
overflow_cast-row-3 c =
    let a = c.args in
    omega (arith, got_lt a.s.now _ longitude_bits c.get-3.ensures)

pub bounds-row-k-3 : goal.bounds-row-k-3
bounds-row-k-3 c =
    let e : placed_long c.args.kind ≡ 2 = rw (ne_eqb c.args.kind 0 c.if-kind-eq-PORT.false) refl in
    simp length-set (omega (arith, e, c.requires.1))

pub returns : goal.returns
returns c =
    let a = c.args in
    rw (ne_eqb a.kind 0 c.if-kind-eq-PORT.false) (λ t. set (set a.row.now a.k (c.get-2.ensures t)) (add-one a.k t) (c.get-3.ensures t))
