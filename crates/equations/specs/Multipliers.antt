-- What must hold of multipliers that refute a list of equations: in the field's words, of a certificate that they have no
-- solution. Which ones are shown "is left free". Definitions only.
use Rattle.std.specs.Prelude.{List, [], ◌∷◌, map, Bool, true, ◌&&◌, not, ℕ, zero, suc, ◌%◌, length, get_or, eqb, ltb}
use Rattle.equations.specs.Equation.{Equation, dot}

-- the coefficients at place j, one of each equation
abbrev pub column : ℕ → List Equation → List ℕ
column j es = map (λ e. get_or e.coefficients j 0) es

abbrev pub rights : List Equation → List ℕ
rights es = map (λ e. e.right) es

abbrev pub all_below : ℕ → List ℕ → Bool
all_below m [] = true
all_below m (x ∷ xs) = ltb x m && all_below m xs

-- "zero coefficients", at the first n places
abbrev pub zero_columns : ℕ → ℕ → List Equation → List ℕ → Bool
zero_columns m zero es ks = true
zero_columns m (suc n) es ks = eqb (dot ks (column n es) % m) 0 && zero_columns m n es ks

-- "multipliers, one residue for each equation, such that the equations so multiplied add up mod m to
-- zero coefficients and a non-zero right side"
unfoldable pub refutes : ℕ → ℕ → List Equation → List ℕ → Bool
refutes m n es ks =
    eqb (length ks) (length es) && all_below m ks && zero_columns m n es ks && not (eqb (dot ks (rights es) % m) 0)
