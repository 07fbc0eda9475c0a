-- Divisibility: d divides n if n is a multiple of d. Definitions only.
use Rattle.std.specs.Prelude.{◌≡◌, ℕ, ◌*◌}

-- d | n, with the number of times that d goes into n
pub record Divides (d n : ℕ) : Type 0 where
  pub quotient : ℕ
  pub eq : n ≡ d * quotient
