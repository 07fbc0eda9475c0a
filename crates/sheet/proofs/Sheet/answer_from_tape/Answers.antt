-- `Sheet::answer_from_tape` meets its contract: an accepted answer has the block of the equations, a refused one the refusal.
use mathlib.Core.Path.{sym, ap, ◌∙◌}
use Rattle.questions.specs.Refusals.{by_number}
use Rattle.questions.proofs.Ladder.{number_not, handed_on}
use Rattle.ledger.specs.Calls.{answers_from_tape, queries}
use Rattle.ledger.proofs.Questions.{accepted-yes}
use Rattle.sheet.specs.Record.{ledger_of}
use Rattle.sheet.proofs.Answers.{shown_wrote, shown_refused}
use Rattle.sheet.proofs.Sheet.answer_from_tape.Goals as goal

pub returns-in_err-answer_word_refusal : goal.returns-in_err-answer_word_refusal
returns-in_err-answer_word_refusal c =
    let a = c.args in
    let l = ledger_of a.sheet.now in
    let out = c.from_residual in
    let refusal = c.in_err-answer_word_refusal.field-0.0 in
    let is = c.in_err-answer_word_refusal.ensures l c.seen-seen.ensures.sees in
    ap by_number (handed_on out.result refusal out.ensures.1) ∙ shown_refused l a.number is (number_not refusal)

pub block-requires : goal.block-requires
block-requires c =
    let a = c.args in
    let l = ledger_of a.sheet.now in
    let is = c.in_ok-answer_word_refusal.ensures l c.seen-seen.ensures.sees in
    (accepted-yes l (queries (answers_from_tape a.number)) (sym is)).0

pub returns : goal.returns
returns c =
    let a = c.args in
    let l = ledger_of a.sheet.now in
    let is = c.in_ok-answer_word_refusal.ensures l c.seen-seen.ensures.sees in
    shown_wrote l a.number (sym is) _ c.block.ensures
