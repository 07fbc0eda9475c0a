-- How lines lie in a sheet: a modulus q for each, and the equation with both sides times m/q, which is the one that multipliers "apply to".
-- So what lies there is answered as it stands, and a line is multiplied once, when it is added. Definitions only.
use Rattle.std.specs.Prelude.{Bool, true, ◌&&◌, List, [], ◌∷◌, ◌++◌, map, ℕ, ◌/◌, ◌%◌, eqb}
use Rattle.questions.specs.Questions.{allowed_own}
use Rattle.equations.specs.Lists.{every}
use Rattle.equations.specs.Equation.{Equation}
use Rattle.equations.specs.Line.{Line}

-- the numbers of an equation, one behind the other: its coefficients, then its right side
abbrev pub in_row : Equation → List ℕ
in_row e = e.coefficients ++ (e.right ∷ [])

-- whether all of them are multiples of k
abbrev pub multiples : ℕ → List ℕ → Bool
multiples k xs = every (λ x. eqb (x % k) 0) xs

-- whether e can be a line mod q with both sides times m/q
abbrev pub fits : ℕ → ℕ → Equation → Bool
fits m q e = allowed_own m q && multiples (m / q) (in_row e)

-- whether the equations can be lines with these moduli
abbrev pub all_fit : ℕ → List ℕ → List Equation → Bool
all_fit m [] es = true
all_fit m (q ∷ qs) [] = true
all_fit m (q ∷ qs) (e ∷ es) = fits m q e && all_fit m qs es

-- the line mod q that lies there as e: its numbers are divided by m/q
abbrev pub stored_one : ℕ → ℕ → Equation → Line
stored_one m q e = record {
  modulus = q;
  equation = record { coefficients = map (λ (x : ℕ). x / (m / q)) e.coefficients; right = e.right / (m / q) };
}

-- the lines with these moduli that lie there as these equations
abbrev pub stored : ℕ → List ℕ → List Equation → List Line
stored m [] es = []
stored m (q ∷ qs) [] = []
stored m (q ∷ qs) (e ∷ es) = stored_one m q e ∷ stored m qs es
