-- Where the multipliers lie: for the proof of the code that computes them, and for nobody else.
use Rattle.std.specs.Prelude.{◌≡◌, refl, List, [], ℕ, length, drop, get_or}
use Rattle.equations.specs.Equation.{Equation}
use Rattle.elimination.specs.Tableau.{tableau}
use Rattle.elimination.specs.Multipliers.{multipliers_of}

pub multipliers-row : (m n : ℕ) (es : List Equation)
    → multipliers_of m n es ≡ drop 1 (get_or (tableau m n (length es) es) n [])
unfolding multipliers_of
multipliers-row m n es = refl
