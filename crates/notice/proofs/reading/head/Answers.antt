-- `head` walks up to the areas: one step a field, the subtype by its limits.
use mathlib.Core.Path.{ap, ap₂, ◌∙◌}
use mathlib.Core.Bool.{true, false}
use Rattle.walk.specs.Reading.{ranged}
use Rattle.walk.specs.Walk.{Walk, seen}
use Rattle.notice_fields.specs.PartsSteps.{least_subtype, most_subtype, expiry_read}
use Rattle.notice.specs.Steps.{opening_of}
use Rattle.notice.proofs.reading.head.Goals as goal

pub returns : goal.returns
unfolding opening_of
returns c =
    let s = c.args.s.now in
    let source = c.num-w.ensures.0 ∙ ap (λ (r : Walk). ranged s 5 true 1 21 4 r) c.begin.ensures in
    let station = c.num-w-2.ensures.0 ∙ ap (λ (r : Walk). ranged s 4 true 1 3 4 r) source in
    let serial = c.num-w-3.ensures.0 ∙ ap (λ (r : Walk). ranged s 14 true 1 9_999 4 r) station in
    let year = c.num-w-4.ensures.0 ∙ ap (λ (r : Walk). ranged s 7 true 0 99 4 r) serial in
    let kind = c.num-w-5.ensures.0 ∙ ap (λ (r : Walk). ranged s 4 true 1 8 4 r) year in
    let subtype = c.num-w-6.ensures.0 ∙ ap₂ (λ lo hi. ranged s 4 true lo hi 4 (seen c.num-w-5.result)) c.least_subtype.ensures c.most_subtype.ensures
    ∙ ap (λ (r : Walk). ranged s 4 true (least_subtype r.v) (most_subtype r.v) 4 r) kind in
    let expiry = c.expiry-w.ensures.0 ∙ ap (λ (r : Walk). expiry_read s r) subtype in
    let count = c.decide-walk.ensures.0 ∙ ap (λ (r : Walk). ranged s 4 false 0 15 4 r) expiry in
    λ i. record {
      walk = count i;
      notice = record { source = (source i).v; station = (station i).v; serial = (serial i).v; year = (year i).v; kind = (kind i).v; subtype = (subtype i).v; expiry = (expiry i).v; count = (count i).v };
    }
