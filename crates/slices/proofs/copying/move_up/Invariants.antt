-- `copying::move_up` meets its contract. The invariant: the first k numbers are moved, those behind them as they were.
use lib.ListN.{take, drop}
use Rattle.slices.proofs.Copied.{Copied}
use Rattle.slices.proofs.copying.move_up.Given as goal

abbrev pub invariant-loop-k : goal.invariant-loop-k
invariant-loop-k l = Copied l.k (take l.count (drop l.by l.initial.numbers)) l.initial.numbers l.numbers
