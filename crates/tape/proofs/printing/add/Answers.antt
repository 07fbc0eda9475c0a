-- `printing::add` meets its contract: what the sheet's call says is told in one line.
use mathlib.Core.Path.{refl}
use borrow.Author.Rules.{rules}
use Rattle.ledger.specs.Calls.{adds, enters}
use Rattle.sheet.proofs.Few.{held-few}
use Rattle.tape.specs.Ascii.{bytes_of}
use Rattle.tape.proofs.Told.{told, entered_told}
use Rattle.tape.proofs.printing.add.Goals as goal

pub entered_line-requires : goal.entered_line-requires
entered_line-requires c =
    let a = c.args in
    (search rules, held-few a.sheet.now (adds a.words.now) c.add-entered.ensures.value, search rules)

pub returns : goal.returns
returns c =
    let a = c.args in
    let s = a.sheet.now in
    let call = adds a.words.now in
    let said = c.add-entered.ensures in
    let line = c.entered_line in
    told s (enters call) a.out.now said.sheet_after (entered_told s call said.value (bytes_of "added") refl) line.ensures.value line.ensures.out_after
