-- The number of decimal digits, for Lamé's bound. The two laws say all of `digits`; the counter by which it is seen to end stands
-- in Counted/Digits.
use Rattle.std.specs.Prelude.{◌≡◌, refl, ℕ, ◌+◌, ◌/◌, ◌<◌}
use Rattle.residue.specs.Counted.Digits.{digits_within, within_step}

unfoldable pub digits : ℕ → ℕ
digits n = digits_within n n

-- "0 counts as no digits"
pub digits-zero : digits 0 ≡ 0
unfolding digits
digits-zero = refl

-- one digit more than without the last one
pub digits_step : (n : ℕ) → 0 < n → digits n ≡ digits (n / 10) + 1
unfolding digits
digits_step = within_step
