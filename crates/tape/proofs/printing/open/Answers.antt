-- `printing::open` meets its contract: an accepted opening prints what is then seen of the sheet, a refused one its refusal.
use Rattle.ledger.specs.Calls.{opens, enters}
use Rattle.tape.proofs.Told.{told, said_holds, said_refused, opened_told}
use Rattle.tape.proofs.printing.open.Goals as goal

pub returns-in-Ok : goal.returns-in-Ok
returns-in-Ok c =
    let a = c.args in
    let s = a.sheet.now in
    let call = opens a.words.now in
    let said = c.in-Ok.ensures in
    let accepted = said_holds s call said.value in
    let line = c.line in
    told s (enters call) a.out.now said.sheet_after (opened_told s a.words.now accepted said.sheet_after c.seen-seen.ensures.sees)
    line.ensures.value.0 line.ensures.out_after

pub returns-in-Err : goal.returns-in-Err
returns-in-Err c =
    let a = c.args in
    let s = a.sheet.now in
    let call = opens a.words.now in
    let said = c.in-Err.ensures in
    let line = c.refused in
    told s (enters call) a.out.now said.sheet_after (said_refused s call said.value) line.ensures.value
    line.ensures.out_after
