-- `printing::mark` meets its contract: what the sheet's call says is told in one line.
use mathlib.Core.Path.{refl}
use Rattle.ledger.specs.Calls.{marks, queries}
use Rattle.tape.proofs.Told.{told, marked_told}
use Rattle.tape.proofs.printing.mark.Goals as goal

pub returns : goal.returns
returns c =
    let a = c.args in
    let s = a.sheet.now in
    let line = c.marked_line in
    told s (queries (marks a.words.now)) a.out.now refl (marked_told s a.words.now c.mark-marked.ensures) line.ensures.value
    line.ensures.out_after
