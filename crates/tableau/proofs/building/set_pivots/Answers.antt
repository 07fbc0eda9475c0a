-- `building::set_pivots` meets its contract. The invariant: the rows in front have their pivot, and those that are left are zeros.
-- The measure is their number.
use native.Mathlib.Omega.{arith}
use Rattle.tableau.proofs.Cleared.{cleared_next, cleared_end}
use Rattle.tableau.proofs.building.set_pivots.Goals as goal

pub loop-left-preserved : goal.loop-left-preserved
loop-left-preserved c =
    let a = c.args in
    let l = c.loop-left in
    cleared_next a.m a.k a.w l.basis l.at l.left (omega arith) l.invariant

pub returns : goal.returns
returns c =
    let a = c.args in
    let l = c.loop-left in
    cleared_end a.m a.k a.w l.basis l.at l.left (omega arith) l.invariant
