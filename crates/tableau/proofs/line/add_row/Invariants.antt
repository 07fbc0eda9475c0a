-- `line::add_row` meets its contract. The invariant: the entries so far are sums, the others as they were.
use Rattle.tableau.proofs.Combined.{Combined}
use Rattle.tableau.proofs.line.add_row.Given as goal

abbrev pub invariant-loop-i : goal.invariant-loop-i
invariant-loop-i l = Combined l.m 1 1 l.row l.initial.line l.initial.line l.i l.line
