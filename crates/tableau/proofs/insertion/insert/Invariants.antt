-- `insertion::insert` meets its contract. The invariant: what the rest of the walk makes of the rows that are left makes the
-- whole.
use Prim.Native.Nat.{◌-◌}
use lib.ListN.{length}
use Rattle.tableau.proofs.Walked.{Walked}
use Rattle.tableau.proofs.insertion.insert.Given as goal

abbrev pub invariant-loop-j : goal.invariant-loop-j
invariant-loop-j l =
    Walked l.modulus.m l.w (length l.initial.line) l.initial.basis l.initial.line l.basis l.line l.at l.j (l.w - l.j) (length l.initial.line - l.j)
