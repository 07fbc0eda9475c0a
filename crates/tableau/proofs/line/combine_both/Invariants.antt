-- `line::combine_both` meets its contract. The invariant: the entries so far of both are combined, the others as they were.
use Prim.Native.Nat.{◌%◌}
use Rattle.residue.specs.Negative.{negative}
use Rattle.tableau.proofs.Combined.{Both}
use Rattle.tableau.proofs.line.combine_both.Given as goal

abbrev pub invariant-loop-i : goal.invariant-loop-i
invariant-loop-i l = Both l.fn.modulus.m l.fn.c.s l.fn.c.t l.fn.c.p (negative l.fn.modulus.m l.fn.c.q % l.fn.modulus.m) l.initial.row l.initial.line l.i l.row l.line
