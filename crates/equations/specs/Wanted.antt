-- What must hold of equations that are made for a claim: "Teachers pick the solution set first." "Which equations, is free." Definitions
-- only.
use Rattle.std.specs.Prelude.{◌≡◌, ◌↔◌, List, [], ◌∷◌, ℕ, ◌≤◌, length, T}
use Rattle.equations.specs.Vectors.{Vector, Below}
use Rattle.equations.specs.Equation.{Equation, solves, Shaped}
use Rattle.equations.specs.Lines.{as_rows}
use Rattle.equations.specs.Claim.{Claim, no_solution, describes}
use Rattle.equations.specs.Promises.{constant}

pub record Wants (m n : ℕ) (claim : Claim) (es : List Equation) : Type 0 where
  -- "From m, n and a claim make at most n equations"
  pub few : length es ≤ n
  pub shaped : Shaped n es
  -- "each mod m": coefficients and right sides are residues
  pub residues : Below m (as_rows es)
  -- "whose solutions are the vectors that the claim describes"
  pub exactly : (v : List ℕ) → Vector m n v → T (solves m es v) ↔ T (describes m claim v)
  -- "and 0 = 1 as the single line where none is claimed"
  pub none : claim ≡ no_solution → es ≡ constant n 1 ∷ []
