-- `running::write` meets its contract. The invariant: the lines of the calls so far are at the front of out, in `at` bytes. The
-- measure is the length of the rest.
use Rattle.std.proofs.Common.{◌≡◌, ◌++◌, ℕ, List, length}
use Rattle.slices.specs.Over.{over}
use Rattle.tape.specs.Output.{lines}
use Rattle.tape.specs.Run.{to_print}
use Rattle.tape.proofs.running.write.Given as goal

abbrev pub invariant-loop-told : goal.invariant-loop-told
invariant-loop-told l =
    (length l.out ≡ length l.initial.out)
    × ((done : List ℕ)
    × (lines l.tape ≡ done ++ to_print l.run)
    × (l.at ≡ length done)
    × (l.out ≡ over done l.initial.out))

abbrev pub decreases-loop-told : goal.decreases-loop-told
decreases-loop-told l = length l.run.rest.now
