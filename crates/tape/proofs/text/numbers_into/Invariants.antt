-- `text::numbers_into` meets its contract. The invariant: the numbers so far are written, each behind a space, in `at` bytes.
use mathlib.Core.Path.{◌≡◌}
use Prim.Native.Nat.{◌*◌, ◌≤◌}
use lib.ListN.{length, take}
use Rattle.slices.specs.Over.{over}
use Rattle.tape.specs.Text.{spaced}
use Rattle.tape.proofs.text.numbers_into.Given as goal

abbrev pub invariant-loop-x : goal.invariant-loop-x
invariant-loop-x l =
    (length l.out ≡ length l.initial.out) × (l.at ≡ length (spaced (take l.x-index l.numbers))) × (l.at ≤ 11 * l.x-index)
    × (l.out ≡ over (spaced (take l.x-index l.numbers)) l.initial.out)
