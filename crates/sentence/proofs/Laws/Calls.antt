-- What the calls' steps say of the definitions: reading takes the accepted sentence apart, writing tests address, report and room. Assumes nothing.
use Rattle.std.specs.Prelude.{List, ◌≡◌, ℕ}
use Rattle.std.proofs.Common.{◌∙◌, arith}
use Rattle.std.proofs.Math.Path.{refl, ap}
use Rattle.format.specs.Fmt.{Out, accepted, refused}
use Rattle.sentence.specs.Pattern.{hex_part, around_so, around_of}
use Rattle.sentence.specs.Spelling.{unhexed}
use Rattle.sentence.specs.Laws.Tests.{led, passed, pattern_both}
use Rattle.sentence.specs.Laws.Calls.{Taken}

-- ---- reading

pub taken : (s : List ℕ) (a : ℕ) → accepted a ≡ around_of (around_so s) → Taken s a
taken s a e = go (around_so s) refl e
  where
    go : (o : Out (ℕ × List ℕ)) → around_so s ≡ o → accepted a ≡ around_of o → Taken s a
    go (refused d p) g e = let z : ◌≡◌ {A = ℕ} 0 1 = cc in absurd (omega arith)
    go (accepted y) g e =
        let p = passed s y g in
        let z : y.0 ≡ a = cc in
        let w : y.1 ≡ unhexed (hex_part s) = ap (λ q. q.1) p.inside in
        record { least = (led s p.first).least; figures = (pattern_both s p.like).1; inside = g ∙ λ i. accepted (z i, w i) }
