-- `Sheet::open` meets its contract: a refused opening keeps the sheet, and an accepted one has the two numbers that were seen.
use mathlib.Core.Path.{refl, ap, ◌∙◌}
use lib.ListN.{replicate}
use Rattle.questions.specs.Refusals.{by_number}
use Rattle.questions.proofs.Ladder.{number_not, handed_on}
use Rattle.ledger.specs.Calls.{opens}
use Rattle.asking.specs.Sees.{opening_room}
use Rattle.sheet.proofs.Entering.{entry_refused, open_is, open_accepted}
use Rattle.sheet.proofs.Sheet.open.Goals as goal

pub returns-in_err-open_refusal : goal.returns-in_err-open_refusal
returns-in_err-open_refusal c =
    let a = c.args in
    let out = c.from_residual in
    let refusal = c.in_err-open_refusal.field-0.0 in
    let both = entry_refused a.sheet.now (opens a.words.now) _
    (open_is a.words.now _ c.in_err-open_refusal.ensures.value a.sheet.now) (number_not refusal) in
    record { value = ap by_number (handed_on out.result refusal out.ensures.1) ∙ both.0; sheet_after = both.1 }

pub returns : goal.returns
returns c =
    let a = c.args in
    let asked = c.in_ok-open_refusal.ensures in
    let both = open_accepted a.words.now 0 asked.value refl (replicate opening_room 0) asked.numbers_after a.sheet.now refl in record { value = both.0; sheet_after = both.1 }
