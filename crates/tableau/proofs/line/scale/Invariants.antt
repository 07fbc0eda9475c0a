-- `line::scale` meets its contract. The invariant: the entries so far are multiples, the others as they were.
use Rattle.tableau.proofs.Combined.{Combined}
use Rattle.tableau.proofs.line.scale.Given as goal

abbrev pub invariant-loop-x : goal.invariant-loop-x
invariant-loop-x l = Combined l.fn.modulus.m 0 l.n l.initial.line l.initial.line l.initial.line l.x-index l.line
