-- Recursion along Euclid's chain (a, b), (b, a mod b), .. down to a pair with 0, once for every value that is computed
-- along it. The two laws say all of `euclid`; the counter by which it is seen to end stands in Counted/Euclid.
use Rattle.std.specs.Prelude.{◌≡◌, ℕ, ◌%◌, ◌<◌}
use Rattle.std.proofs.Math.Path.{refl}
use Rattle.residue.specs.Counted.Euclid.{euclid_within, within_step}

module _ {A : Type 0} (last : ℕ → A) (next : ℕ → ℕ → A → A) where
  unfoldable pub euclid : ℕ → ℕ → A
  euclid a b = euclid_within last next b a b

  -- `last a` for the pair (a, 0)
  pub euclid-zero : (a : ℕ) → euclid a 0 ≡ last a
  unfolding euclid
  euclid-zero a = refl

  -- and else `next a b` of the value for (b, a mod b)
  pub euclid-step : (a b : ℕ) → 0 < b → euclid a b ≡ next a b (euclid b (a % b))
  unfolding euclid
  euclid-step = within_step last next
