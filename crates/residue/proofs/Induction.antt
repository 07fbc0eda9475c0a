-- Induction along Euclid's chain: what holds of (a, 0), and of (a, b) where it holds
-- of (b, a mod b), holds of all pairs.
use Prim.Native.Nat.{ℕ, zero, suc, ◌%◌, ◌≤◌}
use native.Mathlib.Nat.{le_refl}
use native.Mathlib.Omega.{arith}
use Rattle.residue.specs.Counted.Euclid.{remainder_le}

pub euclid_induction : (P : ℕ → ℕ → Type 0) → ((a : ℕ) → P a 0) → ((a b : ℕ) → P (suc b) (a % suc b) → P a (suc b))
    → (a b : ℕ) → P a b
euclid_induction P last next a b = go b a b (le_refl b)
  where
    go : (f a b : ℕ) → b ≤ f → P a b
    go zero a zero h = last a
    go zero a (suc b) h = absurd (omega arith)
    go (suc f) a zero h = last a
    go (suc f) a (suc b) h = next a b (go f (suc b) (a % suc b) (omega (arith, remainder_le a b)))
