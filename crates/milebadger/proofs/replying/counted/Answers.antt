-- `replying::counted` meets its contract, case by case.
use mathlib.Core.Path.{◌∙◌}
use native.Mathlib.Omega.{arith}
use mir.Syntax.{w64}
use mir.ValLaws.{to_z_pos}
use Rattle.milebadger.specs.Calls.{counted_result}
use Rattle.milebadger.proofs.Signed.{handed_on}
use Rattle.milebadger.proofs.replying.counted.Goals as goal

pub returns-in-Ok : goal.returns-in-Ok
unfolding counted_result
returns-in-Ok c =
    let few = rw c.in-Ok.is at c.requires in
    to_z_pos w64 c.in-Ok.count (omega arith) ∙ rw c.in-Ok.is

pub returns-in-Err : goal.returns-in-Err
unfolding counted_result
returns-in-Err c = handed_on c.refuse.type_inv c.refuse.ensures ∙ rw c.in-Err.is
