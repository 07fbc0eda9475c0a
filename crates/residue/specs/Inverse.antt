-- What is kept of a modulus that is used many times, so that reciprocals need no division. Definitions only.
use Rattle.std.specs.Prelude.{ℕ, ◌/◌}

-- (2^64 - 1) / m
abbrev pub inverse_of : ℕ → ℕ
inverse_of m = 18446744073709551615 / m
