-- The first number that a test accepts: `first_is` says which one that is, without a search.
use mathlib.Core.Bool.{Bool, true, false}
use mathlib.Core.Path.{◌≡◌}
use Prim.Native.Nat.{ℕ, zero, suc, ◌+◌, ◌≤◌, ◌<◌}
use native.Mathlib.Decide.{dec_lt}
use native.Mathlib.Omega.{arith}
use Rattle.residue.specs.Congruence.{first_from}

module _ (accepts : ℕ → Bool) (t : ℕ) (accepted : accepts t ≡ true) (before : (u : ℕ) → u < t → accepts u ≡ false) where
  pub first_is : (k s : ℕ) → s ≤ t → t < s + k → first_from accepts s k ≡ t
  first_is zero s h g = absurd (omega arith)
  first_is (suc k) s h g = go (dec_lt s t) (λ l. first_is k (suc s) l (omega arith))
    where
      go : Dec (s < t) → (s < t → first_from accepts (suc s) k ≡ t) → first_from accepts s (suc k) ≡ t
      go (yes l) later = rw (before s l) (later l)
      go (no n) later = let e : s ≡ t = omega arith in rw (e, accepted)
