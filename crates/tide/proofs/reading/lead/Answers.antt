-- `lead` gives the first tests' answer: each way out decides the tests before it.
use Rattle.std.proofs.Common.{◌≡◌, ◌≤◌, length, refl, sym, ◌∙◌, arith, lit≤}
use borrow.Author.Tests.{le-leb, lt-leb}
use Rattle.bits.specs.Bits.{field_at}
use Rattle.bits.specs.Laws.Answers.{got_fits}
use Rattle.format.specs.Codes.{headed, there}
use Rattle.format.specs.Laws.Codes.{just_so, just_not}
use Rattle.tide.specs.Tide.{tides}
use Rattle.tide.proofs.reading.lead.Goals.{After-get, After-get-2, After-get-3}
use Rattle.tide.proofs.reading.lead.Goals as goal

-- the message is long enough for the three codes, and these are read in their bits
long : (c : After-get) → 9 ≤ length c.args.s.now
long c = omega arith

kind : (c : After-get) → c.get.result ≡ field_at c.args.s.now 0 8
kind c = c.get.ensures ∙ got_fits c.args.s.now 0 8 (lit≤ tt) (omega (arith, long c))

version : (c : After-get-2) → c.get-2.result ≡ field_at c.args.s.now 8 3
version c = c.get-2.ensures ∙ got_fits c.args.s.now 8 3 (lit≤ tt) (omega arith)

class : (c : After-get-3) → c.get-3.result ≡ field_at c.args.s.now 11 1
class c = c.get-3.ensures ∙ got_fits c.args.s.now 11 1 (lit≤ tt) (omega arith)

pub returns-then-size-lt-LEAST : goal.returns-then-size-lt-LEAST
unfolding tides headed
returns-then-size-lt-LEAST c = rw (lt-leb 9 (length c.args.s.now) c.if-size-lt-LEAST.true) refl

pub returns-then-get-ne-CODE : goal.returns-then-get-ne-CODE
unfolding tides headed there
returns-then-get-ne-CODE c =
    let g = (goal.at.returns-then-get-ne-CODE c).After-get in
    rw (le-leb 9 (length c.args.s.now) (long g), just_not 0xE4 (λ z. c.if-get-ne-CODE.true (kind g ∙ z))) refl

pub returns-then-get-ne-VERSION : goal.returns-then-get-ne-VERSION
unfolding tides headed there
returns-then-get-ne-VERSION c =
    let p = goal.at.returns-then-get-ne-VERSION c in
    rw (le-leb 9 (length c.args.s.now) (long p.After-get), just_so 0xE4 (sym (kind p.After-get) ∙ c.if-get-ne-CODE.false), just_not 1 (λ z. c.if-get-ne-VERSION.true (version p.After-get-2 ∙ z))) refl

pub returns-then-get-ne-CLASS : goal.returns-then-get-ne-CLASS
unfolding tides headed there
returns-then-get-ne-CLASS c =
    let p = goal.at.returns-then-get-ne-CLASS c in
    rw (le-leb 9 (length c.args.s.now) (long p.After-get), just_so 0xE4 (sym (kind p.After-get) ∙ c.if-get-ne-CODE.false), just_so 1 (sym (version p.After-get-2) ∙ c.if-get-ne-VERSION.false), just_not 0 (λ z. c.if-get-ne-CLASS.true (class p.After-get-3 ∙ z))) refl

pub returns-then-size-gt-GREATEST : goal.returns-then-size-gt-GREATEST
unfolding tides headed there
returns-then-size-gt-GREATEST c =
    let p = goal.at.returns-then-size-gt-GREATEST c in
    let s = c.args.s.now in
    rw (le-leb 9 (length s) (long p.After-get), just_so 0xE4 (sym (kind p.After-get) ∙ c.if-get-ne-CODE.false), just_so 1 (sym (version p.After-get-2) ∙ c.if-get-ne-VERSION.false), just_so 0 (sym (class p.After-get-3) ∙ c.if-get-ne-CLASS.false), lt-leb (length s) 210 (omega arith)) refl

pub returns : goal.returns
unfolding tides headed there
returns c =
    let p = goal.at.returns c in
    let s = c.args.s.now in
    rw (le-leb 9 (length s) (long p.After-get), just_so 0xE4 (sym (kind p.After-get) ∙ c.if-get-ne-CODE.false), just_so 1 (sym (version p.After-get-2) ∙ c.if-get-ne-VERSION.false), just_so 0 (sym (class p.After-get-3) ∙ c.if-get-ne-CLASS.false), le-leb (length s) 210 (omega arith)) refl
