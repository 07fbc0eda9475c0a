-- Zeros and unit vectors.
--   take_zeros    the first of zeros
--   length-unit   n entries
--   dot-unit      they pick an entry
--   unit_store    zeros with a 1 stored
use mathlib.Core.Path.{◌≡◌, refl, ap}
use mathlib.Core.List.{List, [], ◌∷◌}
use Prim.Native.Nat.{ℕ, zero, suc, ◌<◌, ◌≤◌}
use native.Mathlib.Omega.{arith}
use lib.ListN.{length, take, get_or, set, replicate, length-replicate}
use Rattle.equations.specs.Vectors.{unit}
use Rattle.equations.specs.Equation.{dot}
use Rattle.equations.proofs.Dot.{dot_zeros}

pub take_zeros : (j c : ℕ) → j ≤ c → take j (replicate {A = ℕ} c 0) ≡ replicate j 0
take_zeros zero c h = refl
take_zeros (suc j) zero h = absurd (omega arith)
take_zeros (suc j) (suc c) h = ap {B = List ℕ} (λ z. 0 ∷ z) (take_zeros j c (omega arith))

pub length-unit : (n j : ℕ) → length (unit n j) ≡ n
length-unit zero j = refl
length-unit (suc n) zero = ap suc (length-replicate n 0)
length-unit (suc n) (suc j) = ap suc (length-unit n j)

pub dot-unit : (n j : ℕ) (v : List ℕ) → j < n → dot (unit n j) v ≡ get_or v j 0
dot-unit zero j v h = absurd (omega arith)
dot-unit (suc n) zero [] h = refl
dot-unit (suc n) zero (x ∷ v) h = omega (arith, dot_zeros n v)
dot-unit (suc n) (suc j) [] h = refl
dot-unit (suc n) (suc j) (x ∷ v) h = omega (arith, dot-unit n j v (omega arith))

pub unit_store : (n j : ℕ) → set (replicate n 0) j 1 ≡ unit n j
unit_store zero j = refl
unit_store (suc n) zero = refl
unit_store (suc n) (suc j) = ap (λ (z : List ℕ). 0 ∷ z) (unit_store n j)
