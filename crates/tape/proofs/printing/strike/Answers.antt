-- `printing::strike` meets its contract: what the sheet's call says is told in one line.
use mathlib.Core.Path.{refl}
use Rattle.ledger.specs.Calls.{strikes, enters}
use Rattle.sheet.proofs.Few.{held-few}
use Rattle.tape.specs.Ascii.{bytes_of}
use Rattle.tape.proofs.Told.{told, entered_told}
use borrow.Author.Rules.{rules}
use Rattle.tape.proofs.printing.strike.Goals as goal

pub entered_line-requires : goal.entered_line-requires
entered_line-requires c =
    let a = c.args in
    (search rules, held-few a.sheet.now (strikes a.place) c.strike-entered.ensures.value, search rules)

pub returns : goal.returns
returns c =
    let a = c.args in
    let s = a.sheet.now in
    let call = strikes a.place in
    let said = c.strike-entered.ensures in
    let line = c.entered_line in
    told s (enters call) a.out.now said.sheet_after (entered_told s call said.value (bytes_of "struck") refl) line.ensures.value line.ensures.out_after
