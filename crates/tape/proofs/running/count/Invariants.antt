-- `running::count` meets its contract. The invariant: the bytes counted and those of the lines that remain are those of all lines.
-- The measure is the length of the rest.
use Rattle.std.proofs.Common.{◌≡◌, ◌+◌, ◌*◌, ◌≤◌, length}
use Rattle.tape.specs.Output.{lines}
use Rattle.tape.specs.Run.{to_print}
use Rattle.tape.proofs.running.count.Given as goal

abbrev pub invariant-loop-told : goal.invariant-loop-told
invariant-loop-told l =
    (l.written + length (to_print l.run) ≡ length (lines l.tape))
    × (l.written + 4096 * length l.run.rest.now ≤ 4096 * length l.tape)

abbrev pub decreases-loop-told : goal.decreases-loop-told
decreases-loop-told l = length l.run.rest.now
