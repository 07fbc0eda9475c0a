-- How the missed solution is made: for the proof of the code that computes it, and for nobody else.
use Rattle.std.specs.Prelude.{◌≡◌, refl, List, ℕ}
use Rattle.equations.specs.Equation.{Equation}
use Rattle.equations.specs.Claim.{from}
use Rattle.elimination.specs.Basis.{basis}
use Rattle.elimination.specs.Tableau.{tableau}
use Rattle.elimination.specs.Missed.{apart, shifted_at, missed_of}

pub missed_step : (m n : ℕ) (es : List Equation) (c : List ℕ) (ss : List (List ℕ))
    → missed_of m n es (from c ss) ≡ shifted_at m n (tableau m n 0 es) c (apart m n (tableau m n 0 es) (basis m n 0 ss))
unfolding missed_of
missed_step m n es c ss = refl
