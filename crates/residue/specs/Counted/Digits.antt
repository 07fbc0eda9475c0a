-- The recursion along n, n / 10, .. with a counter of digits. n units are enough for n: `within_step` says it without the counter.
use Rattle.std.specs.Prelude.{◌≡◌, refl, ℕ, zero, suc, ◌+◌, ◌/◌, ◌≤◌, ◌<◌}
use Rattle.std.proofs.Common.{ap, le_refl, arith}

abbrev pub digits_within : ℕ → ℕ → ℕ
digits_within zero n = 0
digits_within (suc f) zero = 0
digits_within (suc f) (suc n) = digits_within f (suc n / 10) + 1

-- n units are enough, and more change nothing
enough : (f f' n : ℕ) → n ≤ f → n ≤ f' → digits_within f n ≡ digits_within f' n
enough zero zero n h g = refl
enough zero (suc f') zero h g = refl
enough zero (suc f') (suc n) h g = absurd (omega arith)
enough (suc f) zero zero h g = refl
enough (suc f) zero (suc n) h g = absurd (omega arith)
enough (suc f) (suc f') zero h g = refl
enough (suc f) (suc f') (suc n) h g = ap (λ (d : ℕ). d + 1) (enough f f' (suc n / 10) (omega arith) (omega arith))

pub within_step : (n : ℕ) → 0 < n → digits_within n n ≡ digits_within (n / 10) (n / 10) + 1
within_step zero h = absurd (omega arith)
within_step (suc n) h = ap (λ (d : ℕ). d + 1) (enough n (suc n / 10) (suc n / 10) (omega arith) (le_refl _))
