-- `turn` takes the way that `turned` takes.
use Rattle.std.proofs.Common.{is_some, ◌≡◌, ℕ, ◌+◌, cond, length, take, sym, refl, ap, ◌∙◌, arith, leb-false, leb-true}
use Rattle.daylog.specs.Turns.{seen, ended_by, stopped, listing_of, refusing}
use Rattle.daylog.specs.Laws.Turns.{turned_done, turned_broken, turned_listing}
use Rattle.daylog.proofs.turns.turn.Goals as goal

pub returns-in-Some : goal.returns-in-Some
returns-in-Some c =
    let a = c.args in
    let d = ap is_some c.in-Some.is in
    record {
      is = (λ i. record { turn = (c.stop.ensures ∙ ap (λ x. stopped (seen a.t) (ended_by x) 0) (sym c.in-Some.is)) i; input = a.input.now; text = a.text.now })
          ∙ sym (turned_done (seen a.t) a.input.now a.got a.text.now d);
      enough = λ e h w k. let q = sym d ∙ e in let z : ◌≡◌ {A = ℕ} 0 1 = cc q in absurd (omega arith);
    }

pub returns-in-Some-broken : goal.returns-in-Some-broken
returns-in-Some-broken c =
    let a = c.args in
    let p = c.count.ensures in
    record {
      is = p.by_index a.input.now refl ∙ sym (turned_broken (seen a.t) a.input.now a.got a.text.now (ap is_some c.in_default.is) (ap is_some c.in-Some-broken.is));
      enough = λ d h w k. p.code_value h w;
    }

pub returns-then-not-has_room : goal.returns-then-not-has_room
returns-then-not-has_room c =
    let a = c.args in
    let r = c.has_room in
    let f = sym r.ensures ∙ c.if-not-has_room.true in
    let l = leb-false (a.t.waiting + a.got) (length a.input.now) f in
    record {
      is = (λ i. record { turn = c.stop-then-not-has_room.ensures i; input = a.input.now; text = a.text.now })
          ∙ ap (λ b. cond b (listing_of (seen a.t) (take (a.t.waiting + a.got) a.input.now) a.input.now a.got a.text.now) (refusing (seen a.t) a.input.now a.text.now 6)) (sym f)
          ∙ sym (turned_listing (seen a.t) a.input.now a.got a.text.now (ap is_some c.in_default.is) (ap is_some c.in_default-broken.is));
      enough = λ d h w k. absurd (omega arith);
    }

pub window-requires : goal.window-requires
window-requires c =
    let a = c.args in
    let r = c.has_room in
    leb-true (a.t.waiting + a.got) (length a.input.now) (sym r.ensures ∙ c.if-not-has_room.false)

pub returns : goal.returns
returns c =
    let a = c.args in
    let r = c.has_room in
    let f = sym r.ensures ∙ c.if-not-has_room.false in
    let p = c.window.ensures in
    record {
      is = p.gives
          ∙ ap (λ b. cond b (listing_of (seen a.t) (take (a.t.waiting + a.got) a.input.now) a.input.now a.got a.text.now) (refusing (seen a.t) a.input.now a.text.now 6)) (sym f)
          ∙ sym (turned_listing (seen a.t) a.input.now a.got a.text.now (ap is_some c.in_default.is) (ap is_some c.in_default-broken.is));
      enough = λ d h w k. p.code_value h w;
    }
