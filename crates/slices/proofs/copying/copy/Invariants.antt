-- `copying::copy` meets its contract. The invariant: the first i elements are written, those behind them as they were.
use Rattle.slices.proofs.Copied.{Copied}
use Rattle.slices.proofs.copying.copy.Given as goal

abbrev pub invariant-loop-i : goal.invariant-loop-i
invariant-loop-i g l = Copied l.i l.from l.initial.to l.to
