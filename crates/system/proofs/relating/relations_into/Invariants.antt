-- `relating::relations_into` meets its contract. The invariant: the lines of the first p places are written, and behind them stand zeros. The
-- measure is the number of places left.
use mathlib.Core.Path.{◌≡◌}
use Prim.Native.Nat.{◌≤◌}
use lib.ListN.{length}
use Rattle.system.proofs.Relations.{Related}
use Rattle.system.proofs.relating.relations_into.Given as goal

abbrev pub invariant-loop-p : goal.invariant-loop-p
invariant-loop-p l =
    (l.p ≤ l.n) × (length l.lines ≡ length l.initial.lines) × Related l.n l.k l.steps l.initial.lines l.p l.lines
