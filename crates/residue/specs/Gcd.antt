-- Euclid's chain of document 01: the greatest common divisor, and the number of divisions made, each with the paper's
-- recurrence as its laws.
use Rattle.std.specs.Prelude.{◌≡◌, ℕ, ◌+◌, ◌%◌, ◌<◌}
use Rattle.residue.specs.Euclid.{euclid, euclid-zero, euclid-step}

-- the divisor; gcd(0,0) = 0
unfoldable pub gcd : ℕ → ℕ → ℕ
gcd = euclid (λ a. a) (λ a b g. g)

-- "With the divisor comes the number of divisions made"
unfoldable pub divisions : ℕ → ℕ → ℕ
divisions = euclid (λ a. 0) (λ a b k. k + 1)

-- "gcd(a,0) = a"
pub gcd-zero : (a : ℕ) → gcd a 0 ≡ a
unfolding gcd
gcd-zero a = euclid-zero (λ a. a) (λ a b g. g) a

-- "and gcd(a,b) = gcd(b, a mod b) for b > 0"
pub gcd-step : (a b : ℕ) → 0 < b → gcd a b ≡ gcd b (a % b)
unfolding gcd
gcd-step a b h = euclid-step (λ a. a) (λ a b g. g) a b h

-- "0 for b = 0"
pub divisions-zero : (a : ℕ) → divisions a 0 ≡ 0
unfolding divisions
divisions-zero a = euclid-zero (λ a. 0) (λ a b k. k + 1) a

-- "else one more than for the pair (b, a mod b)"
pub divisions-step : (a b : ℕ) → 0 < b → divisions a b ≡ divisions b (a % b) + 1
unfolding divisions
divisions-step a b h = euclid-step (λ a. 0) (λ a b k. k + 1) a b h
