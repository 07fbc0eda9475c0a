-- `answering::step_lines` meets its contract. The invariant: the lines of the first i steps are written, in `at` bytes.
use mathlib.Core.Path.{◌≡◌}
use Prim.Native.Nat.{◌*◌, ◌≤◌}
use lib.ListN.{length}
use Rattle.slices.specs.Over.{over}
use Rattle.system.specs.Claims.{vectors_within}
use Rattle.tape.specs.Output.{step_lines}
use Rattle.tape.specs.Model.Handed.{line_room}
use Rattle.tape.proofs.answering.step_lines.Given as goal

abbrev pub invariant-loop-i : goal.invariant-loop-i
invariant-loop-i l =
    (length l.out ≡ length l.initial.out) × (l.at ≡ length (step_lines (vectors_within l.i l.n l.vectors))) × (l.at ≤ line_room * l.i)
    × (l.out ≡ over (step_lines (vectors_within l.i l.n l.vectors)) l.initial.out)
