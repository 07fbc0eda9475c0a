-- `reasoning::places_missing` meets its contract: a claim that is not turned away is marked, and then 8 is asked.
use mathlib.Core.Path.{sym, ◌∙◌}
use borrow.Author.Tests.{ne_eqb}
use Rattle.sheet.specs.Record.{ledger_of}
use Rattle.sheet.proofs.Marks.{mark-accepted, mark_refused}
use Rattle.milebadger.specs.Calls.{reasoned_result}
use Rattle.milebadger.proofs.Signed.{handed_on}
use Rattle.milebadger.proofs.reasoning.places_missing.Goals as goal

pub returns-in-Ok : goal.returns-in-Ok
unfolding reasoned_result
returns-in-Ok c =
    let a = c.args in
    handed_on c.refuse.type_inv c.refuse.ensures ∙ rw (mark-accepted (ledger_of a.sheet.now) a.words.now (sym c.in-Ok.ensures))

pub returns-in-Err : goal.returns-in-Err
unfolding reasoned_result
returns-in-Err c =
    let a = c.args in
    let refused = mark_refused (ledger_of a.sheet.now) a.words.now (sym c.in-Err.ensures) in
    handed_on c.refuse-in-Err.type_inv c.refuse-in-Err.ensures ∙ rw (refused.0, ne_eqb _ 0 refused.1)
