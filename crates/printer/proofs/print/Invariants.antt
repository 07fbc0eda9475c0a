-- The lines that are written, and those that remain, are those of the whole tape. The measure is the length of the rest.
use Rattle.std.proofs.Common.{◌≡◌, ◌≤◌, List, ℕ, ◌++◌, length}
use Rattle.std.specs.Io.KnownBytes.{Appends}
use Rattle.tape.specs.Output.{lines, most_bytes}
use Rattle.tape.specs.Run.{to_print}
use Rattle.printer.proofs.print.Given as goal

abbrev pub invariant-loop-told : goal.invariant-loop-told
invariant-loop-told g l =
    (done : List ℕ)
    × (length l.tape ≤ most_bytes → lines l.tape ≡ done ++ to_print l.run)
    × Appends (g.W.Write.contents l.initial.to) (g.W.Write.contents l.to) done

abbrev pub decreases-loop-told : goal.decreases-loop-told
decreases-loop-told g l = length l.run.rest.now
