-- `milebadger_safe` meets its contract: a return for each case of what the safe's `solve` gives.
use mathlib.Core.Path.{sym, ◌∙◌}
use native.Mathlib.Omega.{arith}
use mir.Syntax.{w64}
use mir.ValLaws.{to_z_pos}
use Rattle.safe.proofs.Calls.{words_few}
use Rattle.milebadger.specs.Calls.{turned_result}
use Rattle.milebadger.proofs.Signed.{handed_on}
use Rattle.milebadger.proofs.milebadger_safe.Goals as goal

pub overflow_cast-result : goal.overflow_cast-result
overflow_cast-result c =
    let p = c.args in
    let value = rw c.in-Ok-Some.field-0-is at c.in-Ok-Some.ensures.value in
    let few = words_few p.m p.rows p.columns p.values.now p.out.now c.in-Ok-Some.words (sym value) in
    record { sfits = omega arith }

-- the turns
pub returns-in-Ok-Some : goal.returns-in-Ok-Some
unfolding turned_result
returns-in-Ok-Some c =
    let p = c.args in
    let k = c.in-Ok-Some.words in
    let solved = c.in-Ok-Some.ensures in
    let value = rw c.in-Ok-Some.field-0-is at solved.value in
    let few = words_few p.m p.rows p.columns p.values.now p.out.now k (sym value) in
    record { value = to_z_pos w64 k (omega arith) ∙ rw (← value); out_after = solved.out_after }

-- none
pub returns-in-Ok-None : goal.returns-in-Ok-None
unfolding turned_result
returns-in-Ok-None c =
    let solved = c.in-Ok-None.ensures in
    let value = rw c.in-Ok-None.field-0-is at solved.value in
    record { value = rw (← value); out_after = solved.out_after }

-- the refusal
pub returns-in-Err : goal.returns-in-Err
unfolding turned_result
returns-in-Err c =
    let solved = c.in-Err.ensures in
    record { value = handed_on c.refuse.type_inv c.refuse.ensures ∙ rw (← solved.value); out_after = solved.out_after }
