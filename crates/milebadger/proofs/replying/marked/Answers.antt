-- `replying::marked` meets its contract, case by case.
use mathlib.Core.Path.{ap, ◌∙◌}
use lib.IntN.{pos}
use Rattle.milebadger.specs.Calls.{marked_result}
use Rattle.milebadger.proofs.Signed.{handed_on}
use Rattle.milebadger.proofs.replying.marked.Goals as goal

pub returns-in-Ok : goal.returns-in-Ok
unfolding marked_result
returns-in-Ok c =
    handed_on c.from-in-Ok.type_inv (c.from-in-Ok.ensures ∙ ap pos c.from.ensures) ∙ rw c.in-Ok.is

pub returns-in-Err : goal.returns-in-Err
unfolding marked_result
returns-in-Err c = handed_on c.refuse.type_inv c.refuse.ensures ∙ rw c.in-Err.is
