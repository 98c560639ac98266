-- Two's complement with `full` values. Assumes nothing.
use Rattle.std.specs.Prelude.{ℕ, ◌-◌, ◌/◌, cond, ◌&&◌, ℤ, pos, neg_ℤ, nat_le, nat_lt}
use Rattle.std.specs.Int.Signed.{mag, non_neg}

unfoldable pub int_of : ℕ → ℕ → ℤ
int_of full v = cond (nat_le full 2_147_483_648 && nat_lt v full) (cond (nat_lt v (full / 2)) (pos v) (neg_ℤ (pos (full - v)))) (pos 0)

unfoldable pub spell_of : ℕ → ℤ → ℕ
spell_of full x = cond (nat_lt (mag x) (full / 2)) (cond (non_neg x) (mag x) (full - mag x - 1)) full
