-- `substitution::extend` meets its contract. The invariant: the entries from i on are those of the substitution, and the rows in
-- front of `at` are still to be looked at.
use Prim.Native.Nat.{◌+◌}
use lib.ListN.{length}
use Rattle.tableau.proofs.Extension.{Extended}
use Rattle.tableau.proofs.substitution.extend.Given as goal

abbrev pub invariant-loop-i : goal.invariant-loop-i
invariant-loop-i l = Extended l.m l.j (length l.initial.x + l.k) l.basis l.initial.x l.x l.at l.i
