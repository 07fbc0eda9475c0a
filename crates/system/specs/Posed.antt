-- What may be asked: a list of equations in n unknowns mod m, that lie in one list of numbers. Definitions only.
use Rattle.std.specs.Prelude.{◌≡◌, List, ℕ, ◌+◌, ◌*◌, ◌%◌, ◌<◌, ◌≤◌, length}
use Rattle.equations.specs.Vectors.{Below}

-- "Unknowns n: 1..16. Equations: 0..16." A line has n coefficients and a right side.
pub record Posed (m n : ℕ) (lines : List ℕ) : Type 0 where
  pub modulus : 1 < m
  pub has_unknowns : 0 < n
  pub unknowns : n ≤ 16
  pub whole : length lines % (n + 1) ≡ 0
  pub equations : length lines ≤ 16 * (n + 1)
  pub residues : Below m lines
