-- `filling::turn` meets its contract. The invariant: the first i entries of the reversed list are written, and behind them `out` is as it was.
use mathlib.Core.List.{reverse}
use lib.ListN.{length, take}
use Rattle.slices.proofs.Copied.{Copied}
use Rattle.tableau.proofs.filling.turn.Given as goal

abbrev pub invariant-loop-i : goal.invariant-loop-i
invariant-loop-i l = Copied l.i (reverse (take (length l.initial.out) l.x)) l.initial.out l.out
