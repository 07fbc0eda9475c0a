-- `View::mark_claim` meets its contract: the entries of an accepted claim are marked.
use mathlib.Core.Path.{sym, ap, ◌∙◌}
use Rattle.questions.specs.Refusals.{by_number}
use Rattle.questions.proofs.Ladder.{number_not, handed_on}
use Rattle.sheet.specs.Record.{ledger_of}
use Rattle.sheet.proofs.Reading.{reads-allowed}
use Rattle.sheet.proofs.Opened.{viewed_posed, viewed_lines}
use Rattle.asking.proofs.ClaimGiven.{mark-opened}
use Rattle.sheet.proofs.MarkGiven.{marked_refused, entries_claimed, marked_as}
use Rattle.sheet.proofs.viewing.View.mark_claim.Goals as goal

pub returns-in_err-entries : goal.returns-in_err-entries
returns-in_err-entries c =
    let l = ledger_of c.args.self.now.sheet.now in
    let out = c.from_residual in
    let refusal = c.in_err-entries.field-0.0 in
    record {
      value = ap by_number (handed_on out.result refusal out.ensures.1)
          ∙ marked_refused l c.args.words.now _ (sym c.in_err-entries.ensures.refusal_value) (number_not refusal);
      ready = c.requires;
    }

pub mark-mark-requires : goal.mark-mark-requires
mark-mark-requires c =
    let v = c.args.self.now in
    let l = ledger_of v.sheet.now in
    let asked = c.in_ok-entries.ensures in
    let accepted = sym asked.refusal_value in (
      viewed_posed v (mark-opened l c.args.words.now accepted) c.lines.ensures,
      rw c.lines.ensures c.requires,
      entries_claimed l c.args.words.now accepted v.sees asked.entries_value,
    )

pub returns : goal.returns
returns c =
    let v = c.args.self.now in
    let l = ledger_of v.sheet.now in
    let ws = c.args.words.now in
    let asked = c.in_ok-entries.ensures in
    let accepted = sym asked.refusal_value in
    let opened = mark-opened l ws accepted in
    let mark = c.mark-mark in record {
      value = marked_as l ws accepted v.sees asked.entries_value (reads-allowed v.sheet.now opened) _ (viewed_lines v opened c.lines.ensures) mark.result mark.ensures.value;
      ready = rw (sym c.lines.ensures) mark.ensures.ready;
    }
