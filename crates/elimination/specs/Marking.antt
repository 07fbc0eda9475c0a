-- How a claim is marked. Two bases are built, the tableau of the equations and one of the claimed steps; the steps
-- lead to all solutions exactly where the two pivots of each place multiply to m. Nothing is compared entry by entry,
-- and no step is reduced. Definitions only.
use Rattle.std.specs.Prelude.{List, Bool, true, ◌&&◌, ℕ, zero, suc, ◌-◌, ◌*◌, eqb}
use Rattle.equations.specs.Lists.{every}
use Rattle.equations.specs.Equation.{Equation, solves, homogeneous}
use Rattle.elimination.specs.Basis.{basis, pivot}
use Rattle.elimination.specs.Tableau.{tableau}

-- at each of the first j places the pivots multiply to m. The place of an unknown is its column in C, the basis of the
-- steps; in B, the tableau in n unknowns, they stand in reverse order.
abbrev pub agree_for : ℕ → ℕ → List (List ℕ) → List (List ℕ) → ℕ → Bool
agree_for m n B C zero = true
agree_for m n B C (suc j) = eqb (pivot j C * pivot (n - suc j) B) m && agree_for m n B C j

unfoldable pub agree : ℕ → ℕ → List (List ℕ) → List (List ℕ) → Bool
agree m n B C = agree_for m n B C n

-- the claim of a starting vector and its steps is right: the start solves es, the steps solve them
-- with right sides 0, and no step is missing
unfoldable pub claim_right : ℕ → ℕ → ℕ → List Equation → List ℕ → List (List ℕ) → Bool
claim_right m n k es start steps =
    solves m es start && every (solves m (homogeneous es)) steps && agree m n (tableau m n k es) (basis m n 0 steps)
