-- A walk's first refusal, by whether its verdict is an error. Assumes nothing.
use Rattle.std.specs.Prelude.{◌≡◌, refl, true, false, eqb, Result, Ok, Err, is_err}
use Rattle.std.proofs.Common.{ne_eqb}
use Rattle.format.specs.declared.Refusal.{Refusal}
use Rattle.format.specs.Refusals.{number, told_of}
use Rattle.format.specs.Laws.Outcomes.{number_some}
use Rattle.walk.specs.declared.walk.Walk.{Walk}
use Rattle.walk.specs.Walk.{seen}

pub refused : (w : Walk) → is_err w.verdict ≡ true → eqb (seen w).code 0 ≡ false
refused w e = go w.verdict e
  where
    go : (x : Result Unit Refusal) → is_err x ≡ true → eqb (told_of x).code 0 ≡ false
    go (Ok a) e = absurd cc
    go (Err f) e = ne_eqb (number f.reason) 0 (number_some f.reason)

pub passed : (w : Walk) → is_err w.verdict ≡ false → eqb (seen w).code 0 ≡ true
passed w e = go w.verdict e
  where
    go : (x : Result Unit Refusal) → is_err x ≡ false → eqb (told_of x).code 0 ≡ true
    go (Ok a) e = refl
    go (Err f) e = absurd cc
