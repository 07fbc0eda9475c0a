-- `lines::lines_into` meets its contract. The invariant: the lines of the first i locks are written, and what is behind them is as it was.
use mathlib.Core.List.{◌++◌}
use mathlib.Core.Path.{◌≡◌}
use Prim.Native.Nat.{◌+◌, ◌*◌}
use lib.ListN.{length, take, drop}
use Rattle.safe.specs.Model.Lines.{lines_from}
use Rattle.safe.proofs.lines.lines_into.Given as goal

abbrev pub invariant-loop-i : goal.invariant-loop-i
invariant-loop-i l =
    (length l.lines ≡ length l.initial.lines)
    × (l.lines ≡ take (l.i * (l.n + 1)) (lines_from l.m l.columns l.n 0 l.values) ++ drop (l.i * (l.n + 1)) l.initial.lines)
