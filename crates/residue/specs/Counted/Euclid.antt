-- The recursion along Euclid's chain with a counter of pairs. b units are enough for the pair (a, b), since a remainder is smaller
-- than what was divided by: `within_step` says it without the counter.
use Rattle.std.specs.Prelude.{◌≡◌, refl, ℕ, zero, suc, ◌%◌, ◌≤◌, ◌<◌}
use Rattle.std.proofs.Common.{ap, mod-lt, zero-lt-suc, le_refl, le_of_suc-le-suc, arith}

pub remainder_le : (a b : ℕ) → a % suc b ≤ b
remainder_le a b = le_of_suc-le-suc (mod-lt a (zero-lt-suc b))

module _ {A : Type 0} (last : ℕ → A) (next : ℕ → ℕ → A → A) where
  abbrev pub euclid_within : ℕ → ℕ → ℕ → A
  euclid_within zero a b = last a
  euclid_within (suc f) a zero = last a
  euclid_within (suc f) a (suc b) = next a (suc b) (euclid_within f (suc b) (a % suc b))

  -- b units are enough, and more change nothing
  enough : (f f' a b : ℕ) → b ≤ f → b ≤ f' → euclid_within f a b ≡ euclid_within f' a b
  enough zero zero a b h g = refl
  enough zero (suc f') a zero h g = refl
  enough zero (suc f') a (suc b) h g = absurd (omega arith)
  enough (suc f) zero a zero h g = refl
  enough (suc f) zero a (suc b) h g = absurd (omega arith)
  enough (suc f) (suc f') a zero h g = refl
  enough (suc f) (suc f') a (suc b) h g =
      ap (next a (suc b))
      (enough f f' (suc b) (a % suc b) (omega (arith, remainder_le a b)) (omega (arith, remainder_le a b)))

  pub within_step : (a b : ℕ) → 0 < b → euclid_within b a b ≡ next a b (euclid_within (a % b) b (a % b))
  within_step a zero h = absurd (omega arith)
  within_step a (suc b) h =
      ap (next a (suc b)) (enough b (a % suc b) (suc b) (a % suc b) (remainder_le a b) (le_refl _))
