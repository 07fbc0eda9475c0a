-- Which typed equations are linear, and the equation that is made of one. Definitions only.
use Rattle.std.specs.Prelude.{Bool, true, false, not, ◌&&◌, ◌||◌, List, ℕ, ◌+◌, ◌-◌, ◌*◌, ◌%◌, replicate, ltb}
use Rattle.equations.specs.Vectors.{unit, combine}
use Rattle.equations.specs.Equation.{Equation}
use Rattle.grammar.specs.Tree.{Tree, number, unknown, minus, sum, difference, product, Sides}

-- ---- what the text shows

-- whether an unknown stands in it
abbrev pub has_unknown : Tree → Bool
has_unknown (number k) = false
has_unknown (unknown j) = true
has_unknown (minus t) = has_unknown t
has_unknown (sum a b) = has_unknown a || has_unknown b
has_unknown (difference a b) = has_unknown a || has_unknown b
has_unknown (product a b) = has_unknown a || has_unknown b

-- whether all its unknowns are among the n of the sheet: no "unknown beyond n", wherever it stands
abbrev pub within : ℕ → Tree → Bool
within n (number k) = true
within n (unknown j) = ltb j n
within n (minus t) = within n t
within n (sum a b) = within n a && within n b
within n (difference a b) = within n a && within n b
within n (product a b) = within n a && within n b

-- "A product with an unknown on both sides isn't linear, even if a coefficient becomes 0."
abbrev pub linear : Tree → Bool
linear (number k) = true
linear (unknown j) = true
linear (minus t) = linear t
linear (sum a b) = linear a && linear b
linear (difference a b) = linear a && linear b
linear (product a b) = (linear a && linear b) && not (has_unknown a && has_unknown b)

abbrev pub sides_within : ℕ → Sides → Bool
sides_within n e = within n e.left && within n e.right

abbrev pub sides_linear : Sides → Bool
sides_linear e = linear e.left && linear e.right

-- ---- the equation that is made of it

-- m - 1 stands for -1
abbrev pub minus_one : ℕ → ℕ
minus_one m = m - 1

-- the plain number in it, mod m
abbrev pub constant : ℕ → Tree → ℕ
constant m (number k) = k % m
constant m (unknown j) = 0
constant m (minus t) = minus_one m * constant m t % m
constant m (sum a b) = (constant m a + constant m b) % m
constant m (difference a b) = (constant m a + minus_one m * constant m b) % m
constant m (product a b) = constant m a * constant m b % m

-- the coefficients of its n unknowns, mod m. Of a linear product one side has no unknown and coefficients 0, and the other's
-- are multiplied by that side's number.
abbrev pub coefficients : ℕ → ℕ → Tree → List ℕ
coefficients m n (number k) = replicate n 0
coefficients m n (unknown j) = unit n j
coefficients m n (minus t) = combine m (minus_one m) 0 (coefficients m n t) (coefficients m n t)
coefficients m n (sum a b) = combine m 1 1 (coefficients m n a) (coefficients m n b)
coefficients m n (difference a b) = combine m 1 (minus_one m) (coefficients m n a) (coefficients m n b)
coefficients m n (product a b) = combine m (constant m a) (constant m b) (coefficients m n b) (coefficients m n a)

-- "The unknowns' coefficients, brought to the left, and the plain numbers, brought to the right, all mod m, make the equation
-- added."
unfoldable pub equation_of : ℕ → ℕ → Sides → Equation
equation_of m n e = record {
  coefficients = combine m 1 (minus_one m) (coefficients m n e.left) (coefficients m n e.right);
  right = (constant m e.right + minus_one m * constant m e.left) % m;
}
