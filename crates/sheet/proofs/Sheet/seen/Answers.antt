-- `Sheet::seen` meets its contract: an opened sheet shows its numbers, any other nothing.
use mathlib.Core.Path.{sym, ◌∙◌}
use borrow.Author.Tests.{not-false}
use Rattle.sheet.proofs.Opened.{sees-read}
use Rattle.sheet.proofs.Sheet.seen.Goals as goal

pub returns : goal.returns
returns c =
    let both = sees-read c.args.sheet.now (sym c.is_opened.ensures ∙ not-false _ c.if-not-is_opened.false-raw) c.wide.ensures
    c.wide-2.ensures in record { sees = both.0; unknowns_le_most_unknowns = both.1 }
