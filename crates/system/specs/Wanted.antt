-- The equations that are made for a claim, and what is promised of them. "Which equations, is free", so the name is shut: its body is no promise.
-- All that must hold of them is `Wants`; proofs/Wanted.antt keeps the promise. Body is for the code that makes them. Definitions only.
use Rattle.std.specs.Prelude.{List, [], ◌∷◌, ℕ, ◌<◌}
use Rattle.equations.specs.Equation.{Equation}
use Rattle.equations.specs.Claim.{Claim, no_solution, from}
use Rattle.equations.specs.Promises.{constant}
use Rattle.equations.specs.Reasons.{Formed}
use Rattle.equations.specs.Wanted.{Wants}
use Rattle.elimination.specs.Through.{lines_through, annihilators}
pub mod Body

pub wanted_of : ℕ → ℕ → Claim → List Equation
wanted_of m n no_solution = constant n 1 ∷ []
wanted_of m n (from start steps) = lines_through m start (annihilators m n steps)

-- "Every well-formed claim has such a sheet."
abbrev pub EveryClaimHasSheet : Type 0
EveryClaimHasSheet =
    (m n : ℕ) (claim : Claim) → 1 < m → 0 < n → Formed m n claim → Wants m n claim (wanted_of m n claim)
