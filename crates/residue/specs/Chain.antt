-- What the function `euclid::gcd` gives back. Definitions only.
use Rattle.std.specs.Prelude.{ℕ}
use Rattle.residue.specs.Gcd.{gcd, divisions}
use Rattle.residue.specs.declared.euclid.Chain.{Chain}

-- "With the divisor comes the number of divisions made"
unfoldable pub chain_of : ℕ → ℕ → Chain
chain_of a b = record { divisor = gcd a b; divisions = divisions a b }
