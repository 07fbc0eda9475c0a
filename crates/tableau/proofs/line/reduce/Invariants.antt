-- `line::reduce` meets its contract. The invariant: the entries so far are combined, the others as they were.
use Prim.Native.Nat.{◌%◌}
use Rattle.residue.specs.Negative.{negative}
use Rattle.tableau.proofs.Combined.{Combined}
use Rattle.tableau.proofs.line.reduce.Given as goal

abbrev pub invariant-loop-i : goal.invariant-loop-i
invariant-loop-i l = Combined l.fn.modulus.m l.p (negative l.fn.modulus.m 1 % l.fn.modulus.m) l.row l.initial.line l.initial.line l.i l.line
