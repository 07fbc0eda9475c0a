-- `milebadger_reason` meets its contract: `at` is too short, or there is a return for each case of what the sheet's call gives.
use mathlib.Core.Path.{sym, ◌∙◌}
use native.Mathlib.Omega.{arith}
use Rattle.sheet.specs.Record.{ledger_of}
use Rattle.sheet.proofs.Reasoned.{words_few}
use Rattle.milebadger.proofs.Signed.{handed_on}
use Rattle.milebadger.proofs.Reasoned.{reason_places, reason_told, reason-turned}
use Rattle.milebadger.proofs.sheets.milebadger_reason.Goals as goal

pub returns-then-at-lt-PLACES : goal.returns-then-at-lt-PLACES
returns-then-at-lt-PLACES c =
    let a = c.args in
    let missing = c.places_missing in
    let both = reason_places (ledger_of a.sheet.now) a.words.now a.at.now a.out.now c.if-at-lt-PLACES.true
    (handed_on missing.type_inv missing.ensures) in record { value = both.0; at_after = both.1.0; out_after = both.1.1 }

pub give_reason-requires : goal.give_reason-requires
give_reason-requires c =
    let a = c.args in
    (omega (arith, c.if-at-lt-PLACES.false), words_few a.sheet.now a.words.now a.out.now (sym c.in-Ok.ensures.value))

pub returns-in-Ok : goal.returns-in-Ok
returns-in-Ok c =
    let a = c.args in
    let said = c.in-Ok.ensures in
    let give = c.give_reason in
    let told = reason_told (ledger_of a.sheet.now) a.words.now a.at.now a.out.now (omega (arith, c.if-at-lt-PLACES.false)) (sym said.value) in
    record { value = handed_on give.type_inv give.ensures.value ∙ told.0; at_after = give.ensures.at_after ∙ told.1.0; out_after = said.buffer_after ∙ told.1.1 }

pub returns-in-Err : goal.returns-in-Err
returns-in-Err c =
    let a = c.args in
    let said = c.in-Err.ensures in
    let turned = reason-turned (ledger_of a.sheet.now) a.words.now a.at.now a.out.now (omega (arith, c.if-at-lt-PLACES.false)) (sym said.value) in
    record { value = handed_on c.refuse.type_inv c.refuse.ensures ∙ turned.0; at_after = turned.1.0; out_after = said.buffer_after ∙ turned.1.1 }
