-- `line::multiple` meets its contract. The invariant: the entries so far are multiples, the others as they were.
use Rattle.tableau.proofs.Combined.{Combined}
use Rattle.tableau.proofs.line.multiple.Given as goal

abbrev pub invariant-loop-i : goal.invariant-loop-i
invariant-loop-i l = Combined l.fn.modulus.m 0 l.t l.line l.line l.initial.row l.i l.row
