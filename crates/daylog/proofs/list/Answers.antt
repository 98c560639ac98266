-- `list` lists record by record: what the loop has yet to list, listed from where it stands, gives the whole.
use Rattle.std.proofs.Common.{◌≡◌, drop, sym, ap, ◌∙◌, refl, arith, length-drop, ne_eqb}
use Rattle.daylog.specs.Records.{front}
use Rattle.daylog.proofs.Listing.{start, turn, stop_dry, stop_full, stop_refused, dry, rest_of, seen, fits, body_of}
use Rattle.daylog.proofs.list.Goals as goal

pub loop-kind-init : goal.loop-kind-init
loop-kind-init c = let a = c.args in start a.s.now a.number a.out.now

pub returns-in_default : goal.returns-in_default
returns-in_default c =
    let s = c.args.s.now in
    let d = drop c.loop-kind.used s in
    let r = c.first.result in
    let e : r ≡ front d = c.first.ensures ∙ ap front (rest_of s c.loop-kind.used) in
    stop_dry c.loop-kind.invariant (dry d r e c.in_default.not-Record)

pub overflow_add-end : goal.overflow_add-end
overflow_add-end c =
    let s = c.args.s.now in
    let size = fits s c.loop-kind.used c.first.ensures c.in-Record.is in
    omega (arith, length-drop c.loop-kind.used s)

pub slice_bounds-entry-end : goal.slice_bounds-entry-end
slice_bounds-entry-end c =
    let s = c.args.s.now in
    let size = fits s c.loop-kind.used c.first.ensures c.in-Record.is in
    omega (arith, length-drop c.loop-kind.used s)

pub returns-then-at-made : goal.returns-then-at-made
returns-then-at-made c =
    let s = c.args.s.now in
    let e = seen s c.loop-kind.used c.first.ensures c.in-Record.is in
    let body = body_of s c.loop-kind.used c.in-Record.size in
    let p = rw body at c.entry-at.ensures in
    stop_full c.loop-kind.invariant c.in-Record.kind c.in-Record.size e (omega arith) p.0 p.1 (rw (ne_eqb c.loop-kind.used 0 c.if-used-eq0.false) refl)

pub returns-then-used-eq0 : goal.returns-then-used-eq0
returns-then-used-eq0 c =
    let s = c.args.s.now in
    let e = seen s c.loop-kind.used c.first.ensures c.in-Record.is in
    let body = body_of s c.loop-kind.used c.in-Record.size in
    let p = rw body at c.entry-at.ensures in
    stop_refused c.loop-kind.invariant c.in-Record.kind c.in-Record.size e (omega arith) p.0 p.1 (omega arith)

pub overflow_add-used : goal.overflow_add-used
overflow_add-used c =
    let s = c.args.s.now in
    let size = fits s c.loop-kind.used c.first.ensures c.in-Record.is in
    omega (arith, length-drop c.loop-kind.used s)

pub loop-kind-smaller : goal.loop-kind-smaller
loop-kind-smaller c =
    let s = c.args.s.now in
    let size = fits s c.loop-kind.used c.first.ensures c.in-Record.is in
    omega (arith, length-drop c.loop-kind.used s)

pub loop-kind-preserved : goal.loop-kind-preserved
loop-kind-preserved c =
    let s = c.args.s.now in
    let e = seen s c.loop-kind.used c.first.ensures c.in-Record.is in
    let body = body_of s c.loop-kind.used c.in-Record.size in
    (turn c.loop-kind.invariant c.in-Record.kind c.in-Record.size e (λ z. omega arith) (rw (sym body) c.entry-at.ensures.0))
