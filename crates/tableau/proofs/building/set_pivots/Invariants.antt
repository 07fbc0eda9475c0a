-- `building::set_pivots` meets its contract. The invariant: the rows in front have their pivot, and those that are left are zeros.
-- The measure is their number.
use Rattle.tableau.proofs.Cleared.{Cleared}
use Rattle.tableau.proofs.building.set_pivots.Given as goal

abbrev pub invariant-loop-left : goal.invariant-loop-left
invariant-loop-left l = Cleared l.m l.k l.w l.basis l.at l.left
