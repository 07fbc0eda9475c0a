-- The solution that is shown where a claim's start and steps are right and it does not describe all solutions: the start plus the
-- answer's step at a place where the two pivots do not multiply to m. "Which solution or multipliers are shown, is free", so the
-- name is shut: its body is no promise. What must hold of it is its one law, `missed_law` of proofs/Missed.antt. Step is for the code
-- that computes it. Definitions only.
use Rattle.std.specs.Prelude.{List, [], cond, ℕ, zero, suc, ◌-◌, ◌*◌, ◌/◌, eqb}
use Rattle.equations.specs.Vectors.{combine}
use Rattle.equations.specs.Equation.{Equation}
use Rattle.equations.specs.Claim.{Claim, no_solution, from}
use Rattle.elimination.specs.Basis.{basis, pivot}
use Rattle.elimination.specs.Tableau.{tableau, tableau_step}
pub mod Step

-- the last of the first j places at which the pivots do not multiply to m, counted from 1; 0 where they do at each. The
-- places are looked at in the order of `agree_for`.
abbrev pub apart_for : ℕ → ℕ → List (List ℕ) → List (List ℕ) → ℕ → ℕ
apart_for m n B C zero = 0
apart_for m n B C (suc j) = cond (eqb (pivot j C * pivot (n - suc j) B) m) (apart_for m n B C j) (suc j)

unfoldable pub apart : ℕ → ℕ → List (List ℕ) → List (List ℕ) → ℕ
apart m n B C = apart_for m n B C n

-- c plus the tableau's step at the place that has the number p, from 1
abbrev pub shifted_at : ℕ → ℕ → List (List ℕ) → List ℕ → ℕ → List ℕ
shifted_at m n B c zero = c
shifted_at m n B c (suc j) = combine m 1 1 c (tableau_step m (n - suc j) j B (m / pivot (n - suc j) B))

pub missed_of : ℕ → ℕ → List Equation → Claim → List ℕ
missed_of m n es no_solution = []
missed_of m n es (from c ss) = let B = tableau m n 0 es in shifted_at m n B c (apart m n B (basis m n 0 ss))
