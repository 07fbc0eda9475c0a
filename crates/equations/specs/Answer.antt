-- Document 01's answer to a list of equations in n unknowns mod m: the starting vector, the steps, and the ranges
-- of their coefficients. In the field's words: a particular solution, the first in lexicographic order, and generators of the
-- solutions of the homogeneous equations. Definitions only.
use Rattle.std.specs.Prelude.{List, [], ◌∷◌, map, Bool, false, ◌&&◌, not, ℕ, zero, suc, ◌*◌, ◌/◌, eqb}
use Rattle.std.proofs.Math.Option.{Option, none, some}
use Rattle.equations.specs.Lists.{first}
use Rattle.equations.specs.Vectors.{vectors}
use Rattle.equations.specs.Equation.{Equation, solves, homogeneous}

-- "Starting vector: the first solution in dictionary order."
unfoldable pub start_of : ℕ → ℕ → List Equation → Option (List ℕ)
start_of m n es = first (solves m es) (vectors m n)

-- the "first non-zero entry is at j"
abbrev pub leads_at : ℕ → List ℕ → Bool
leads_at j [] = false
leads_at zero (x ∷ v) = not (eqb x 0)
leads_at (suc j) (x ∷ v) = eqb x 0 && leads_at j v

abbrev pub is_step : ℕ → List Equation → ℕ → List ℕ → Bool
is_step m es j v = solves m (homogeneous es) v && leads_at j v

-- "Step at place j: among the vectors that solve all the equations with right sides put to 0, and whose first non-zero
-- entry is at j, the first in dictionary order. A place without such a vector has no step."
unfoldable pub step_at : ℕ → ℕ → List Equation → ℕ → Option (List ℕ)
step_at m n es j = first (is_step m es j) (vectors m n)

abbrev pub and_then : Option (List ℕ) → List (List ℕ) → List (List ℕ)
and_then none ss = ss
and_then (some s) ss = s ∷ ss

-- the steps at the k places from j on
abbrev pub steps_from : ℕ → ℕ → List Equation → ℕ → ℕ → List (List ℕ)
steps_from m n es j zero = []
steps_from m n es j (suc k) = and_then (step_at m n es j) (steps_from m n es (suc j) k)

-- "Steps stand by rising place."
unfoldable pub steps_of : ℕ → ℕ → List Equation → List (List ℕ)
steps_of m n es = steps_from m n es 0 n

-- a step's "entry at its place": its first entry that is not 0
abbrev pub leading : List ℕ → ℕ
leading [] = 0
leading (zero ∷ v) = leading v
leading (suc x ∷ v) = suc x

-- "its coefficient runs over 0..m/d-1": the number of values of the coefficient
abbrev pub range_of : ℕ → List ℕ → ℕ
range_of m s = m / leading s

abbrev pub product : List ℕ → ℕ
product [] = 1
product (x ∷ xs) = x * product xs

-- "their number is the product of the m/d"
abbrev pub range_product : ℕ → List (List ℕ) → ℕ
range_product m ss = product (map (range_of m) ss)
