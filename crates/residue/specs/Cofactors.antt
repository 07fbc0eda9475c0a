-- What the function `extended::cofactors` gives back. Definitions only.
use Rattle.std.specs.Prelude.{ℕ, ◌/◌}
use Rattle.residue.specs.Gcd.{gcd}
use Rattle.residue.specs.Bezout.{cofactors}
use Rattle.residue.specs.declared.extended.Bezout.{Bezout}

unfoldable pub bezout_of : ℕ → ℕ → ℕ → Bezout
bezout_of m a b = record {
  divisor = gcd a b;
  s = (cofactors m a b).s;
  t = (cofactors m a b).t;
  q = a / gcd a b;
  p = b / gcd a b;
}
