-- `lies_within` compares whole bytes: the bytes that hold the bits end within the message just where the bits do.
use Rattle.std.proofs.Common.{◌≡◌, ℕ, ◌+◌, ◌*◌, ◌/◌, ◌%◌, Bool, true, false, leb, refl, arith, le-leb, leb-false, leb-true}
use borrow.Author.Tests.{lt-leb}
use Rattle.walk.proofs.faults.lies_within.Goals as goal

pub returns : goal.returns
returns c =
    let a = c.args in
    go a.at a.w a.len (leb (a.at + a.w) (a.len * 8)) refl
  where
    go : (at w len : ℕ) (x : Bool) → leb (at + w) (len * 8) ≡ x → leb (at / 8 + (at % 8 + w + 7) / 8) len ≡ x
    go at w len true e = let l = leb-true (at + w) (len * 8) e in le-leb (at / 8 + (at % 8 + w + 7) / 8) len (omega arith)
    go at w len false e = let l = leb-false (at + w) (len * 8) e in lt-leb (at / 8 + (at % 8 + w + 7) / 8) len (omega arith)
