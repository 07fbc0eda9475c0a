-- What the equations for a claim are: for the proof of the code that makes them, and for nobody else.
use Rattle.std.specs.Prelude.{◌≡◌, refl, List, [], ◌∷◌, ℕ}
use Rattle.equations.specs.Claim.{no_solution, from}
use Rattle.equations.specs.Promises.{constant}
use Rattle.elimination.specs.Through.{lines_through, annihilators}
use Rattle.system.specs.Wanted.{wanted_of}

pub wanted-none : (m n : ℕ) → wanted_of m n no_solution ≡ constant n 1 ∷ []
unfolding wanted_of
wanted-none m n = refl

pub wanted-from : (m n : ℕ) (start : List ℕ) (steps : List (List ℕ))
    → wanted_of m n (from start steps) ≡ lines_through m start (annihilators m n steps)
unfolding wanted_of
wanted-from m n start steps = refl
