-- `Basis::apart` meets its contract. The invariant: the last place apart is the last one of the first j. The measure
-- is j.
use mathlib.Core.Path.{◌≡◌}
use Prim.Native.Nat.{◌+◌, ◌≤◌}
use Rattle.elimination.specs.Missed.{apart, apart_for}
use Rattle.tableau.specs.Packed.{rows}
use Rattle.system.proofs.basis.Basis.apart.Given as goal

abbrev pub invariant-loop-j : goal.invariant-loop-j
invariant-loop-j l =
    let B = rows (l.n + 1) (l.n + 1) l.self.numbers.now in
    let C = rows l.n l.n l.steps in
    (l.j ≤ l.n) × (apart l.m l.n B C ≡ apart_for l.m l.n B C l.j)

abbrev pub decreases-loop-j : goal.decreases-loop-j
decreases-loop-j l = l.j
