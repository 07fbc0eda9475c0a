-- `gcd` meets its contract. The invariant: the divisor of (x, y) is that of (a, b), and the divisions still to come fill
-- the count up to that of (a, b). The measure is y.
use mathlib.Core.Path.{◌≡◌}
use Prim.Native.Nat.{◌+◌}
use Rattle.residue.specs.Gcd.{gcd, divisions}
use Rattle.residue.proofs.euclid.gcd.Given as goal

abbrev pub invariant-loop-y : goal.invariant-loop-y
invariant-loop-y l = (gcd l.x l.y ≡ gcd l.a l.b) × (l.count + divisions l.x l.y ≡ divisions l.a l.b)

abbrev pub decreases-loop-y : goal.decreases-loop-y
decreases-loop-y l = l.y
