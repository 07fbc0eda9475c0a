-- The basis of a list of equations, and what is read off it. In a line the unknowns stand in reverse
-- order, so that the first one is eliminated last; behind them the constant, minus the right side; then k
-- carried columns with a 1 at the equation's own. The point of a vector is its reverse with 1 behind it,
-- or 0 for right sides put to 0. Definitions only.
use mathlib.Core.List.{List, [], ◌∷◌, reverse_aux}
use Rattle.std.specs.Prelude.{ℕ, zero, suc, ◌+◌, ◌%◌, replicate}
use Rattle.residue.specs.Negative.{negative}
use Rattle.equations.specs.Vectors.{unit}
use Rattle.equations.specs.Equation.{Equation}
use Rattle.elimination.specs.Basis.{basis}
use Rattle.elimination.specs.Substitution.{extend}

abbrev pub line : ℕ → Equation → List ℕ → List ℕ
line m e carried = reverse_aux e.coefficients (negative m e.right % m ∷ carried)

-- the lines of es, the first of them with the number i
abbrev pub lines : ℕ → ℕ → ℕ → List Equation → List (List ℕ)
lines m k i [] = []
lines m k i (e ∷ es) = line m e (unit k i) ∷ lines m k (suc i) es

unfoldable pub tableau : ℕ → ℕ → ℕ → List Equation → List (List ℕ)
tableau m n k es = basis m (n + 1) k (lines m k 0 es)

-- the first n entries of Y in reverse order, in front of acc
abbrev pub turned : ℕ → List ℕ → List ℕ → List ℕ
turned zero Y acc = acc
turned (suc n) [] acc = acc
turned (suc n) (y ∷ Y) acc = turned n Y (y ∷ acc)

unfoldable pub tableau_start : ℕ → ℕ → ℕ → List Equation → List ℕ
tableau_start m n k es = turned n (extend m n (tableau m n k es) (1 ∷ [])) []

-- the step at place j with the entry e there, for i columns before it: i + j + 1 is the number of unknowns
unfoldable pub tableau_step : ℕ → ℕ → ℕ → List (List ℕ) → ℕ → List ℕ
tableau_step m i j B e = turned (i + suc j) (extend m i B (e ∷ replicate (suc j) 0)) []
