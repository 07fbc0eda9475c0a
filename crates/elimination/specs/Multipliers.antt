-- The multipliers that are shown where nothing solves the equations: the carried columns of the constant's row. Which
-- ones they are "is left free", so the name is shut: its body is no promise. What must hold of them is its one law,
-- `multipliers_refute` of proofs/Multipliers.antt. Row is for the code that computes them.
use Rattle.std.specs.Prelude.{List, [], ℕ, length, drop, get_or}
use Rattle.equations.specs.Equation.{Equation}
use Rattle.elimination.specs.Tableau.{tableau}
pub mod Row

pub multipliers_of : ℕ → ℕ → List Equation → List ℕ
multipliers_of m n es = drop 1 (get_or (tableau m n (length es) es) n [])
