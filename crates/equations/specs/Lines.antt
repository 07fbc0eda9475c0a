-- Equations that lie in one list of numbers: n coefficients and a right side each. Definitions only.
use Rattle.std.specs.Prelude.{List, [], ◌∷◌, ◌++◌, ℕ, zero, suc, ◌/◌, length, take, drop, get_or}
use Rattle.equations.specs.Equation.{Equation}

-- the first of them
abbrev pub equation_at : ℕ → List ℕ → Equation
equation_at n s = record { coefficients = take n s; right = get_or s n 0 }

-- the first c of them
abbrev pub equations_within : ℕ → ℕ → List ℕ → List Equation
equations_within zero n s = []
equations_within (suc c) n s = equation_at n s ∷ equations_within c n (drop (suc n) s)

-- all of them; numbers behind the last whole line do not count
unfoldable pub equations_of : ℕ → List ℕ → List Equation
equations_of n s = equations_within (length s / suc n) n s

-- the numbers of an equation, one behind the other: its coefficients, then its right side
abbrev pub as_row : Equation → List ℕ
as_row e = e.coefficients ++ (e.right ∷ [])

-- and those of several equations
abbrev pub as_rows : List Equation → List ℕ
as_rows [] = []
as_rows (e ∷ es) = as_row e ++ as_rows es
