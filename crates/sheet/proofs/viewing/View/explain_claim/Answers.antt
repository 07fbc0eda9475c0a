-- `View::explain_claim` meets its contract: the entries of an accepted claim are explained.
use mathlib.Core.Path.{sym, ap, ◌∙◌}
use Rattle.questions.specs.Refusals.{by_number}
use Rattle.questions.proofs.Ladder.{number_not, handed_on}
use Rattle.sheet.specs.Record.{ledger_of}
use Rattle.sheet.proofs.Reading.{reads-allowed}
use Rattle.sheet.proofs.Opened.{viewed_posed, viewed_lines}
use Rattle.asking.proofs.ClaimGiven.{mark-opened}
use Rattle.sheet.proofs.MarkGiven.{entries_claimed, explained_as}
use Rattle.sheet.proofs.Reasoned.{explained_refused}
use Rattle.sheet.proofs.viewing.View.explain_claim.Goals as goal

pub returns-in_err-entries : goal.returns-in_err-entries
returns-in_err-entries c =
    let l = ledger_of c.args.self.now.sheet.now in
    let out = c.from_residual in
    let refusal = c.in_err-entries.field-0.0 in
    let is = c.in_err-entries.ensures.refusal_value in
    let both = explained_refused l c.args.words.now _ (sym is) (number_not refusal) c.args.shown.now in
    record { value = ap by_number (handed_on out.result refusal out.ensures.1) ∙ both.0; shown_after = both.1 }

pub explain-finding-requires : goal.explain-finding-requires
explain-finding-requires c =
    let v = c.args.self.now in
    let l = ledger_of v.sheet.now in
    let asked = c.in_ok-entries.ensures in
    let accepted = sym asked.refusal_value in (
      viewed_posed v (mark-opened l c.args.words.now accepted) c.lines.ensures,
      entries_claimed l c.args.words.now accepted v.sees asked.entries_value,
      c.requires,
    )

pub returns : goal.returns
returns c =
    let v = c.args.self.now in
    let l = ledger_of v.sheet.now in
    let ws = c.args.words.now in
    let asked = c.in_ok-entries.ensures in
    let accepted = sym asked.refusal_value in
    let opened = mark-opened l ws accepted in
    let found = c.explain-finding in
    let both = explained_as l ws accepted v.sees asked.entries_value (reads-allowed v.sheet.now opened) _ (viewed_lines v opened c.lines.ensures) found.result c.args.shown.now found.ensures.value found.ensures.shown_after in
    record { value = both.0; shown_after = both.1 }
