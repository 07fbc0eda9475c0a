-- `products::narrow_sum` meets its contract. The invariant: it is the sum of the products so far, and each of these is below 2^48.
use mathlib.Core.Path.{◌≡◌}
use Prim.Native.Nat.{◌*◌, ◌≤◌}
use lib.ListN.{take}
use Rattle.equations.specs.Equation.{dot}
use Rattle.tableau.proofs.products.narrow_sum.Given as goal

abbrev pub invariant-loop-i : goal.invariant-loop-i
invariant-loop-i l = (l.all ≤ l.i * 281474943156225) × (l.all ≡ dot (take l.i l.a) (take l.i l.b))
