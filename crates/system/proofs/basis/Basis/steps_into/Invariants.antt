-- `Basis::steps_into` meets its contract. The invariant: what is written and the steps of the first i columns are all
-- steps, and behind what is written the slice is as it was. The measure is i.
use mathlib.Core.Path.{◌≡◌}
use lib.ListN.{length}
use Rattle.system.specs.Model.Reading.{rows_in}
use Rattle.system.proofs.Laid.{Left}
use Rattle.system.proofs.basis.Basis.steps_into.Given as goal

abbrev pub invariant-loop-i : goal.invariant-loop-i
invariant-loop-i l =
    (length l.out ≡ length l.initial.out) × Left l.self.m l.n (rows_in l.n l.self.numbers.now) l.initial.out l.out l.count l.i

abbrev pub decreases-loop-i : goal.decreases-loop-i
decreases-loop-i l = l.i
