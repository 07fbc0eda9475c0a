-- `products::wide_sum` meets its contract. The invariant: the two sums make the sum of the products so far, and each is at most
-- i · (2^32 - 1).
use Prim.Native.Nat.{◌*◌, ◌≤◌}
use lib.ListN.{take}
use Rattle.equations.specs.Equation.{dot}
use Rattle.tableau.proofs.Sums.{Halves}
use Rattle.tableau.proofs.products.wide_sum.Given as goal

abbrev pub invariant-loop-i : goal.invariant-loop-i
invariant-loop-i l =
    (l.low ≤ l.i * 4294967295) × (l.high ≤ l.i * 4294967295) × Halves l.low l.high (dot (take l.i l.a) (take l.i l.b))
