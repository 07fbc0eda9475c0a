-- `Sheet::strike` meets its contract: a refused strike keeps the sheet, and an accepted one has a line to strike, at its place.
use mathlib.Core.Path.{refl, ap, ◌∙◌}
use Rattle.questions.specs.Refusals.{by_number}
use Rattle.questions.proofs.Ladder.{number_not, handed_on}
use Rattle.ledger.specs.Calls.{strikes}
use Rattle.sheet.specs.Record.{ledger_of}
use Rattle.sheet.proofs.Entering.{entry_refused, strike_opened, strike_some, strike_within, strike_accepted}
use Rattle.sheet.proofs.Sheet.strike.Goals as goal

pub returns-in_err-strike_refusal : goal.returns-in_err-strike_refusal
returns-in_err-strike_refusal c =
    let a = c.args in
    let s = a.sheet.now in
    let out = c.from_residual in
    let refusal = c.in_err-strike_refusal.field-0.0 in
    let is = c.in_err-strike_refusal.ensures (ledger_of s) c.seen-seen.ensures.sees in
    let both = entry_refused s (strikes a.place) _ is (number_not refusal) in
    record { value = ap by_number (handed_on out.result refusal out.ensures.1) ∙ both.0; sheet_after = both.1 }

pub overflow_sub-fewer : goal.overflow_sub-fewer
overflow_sub-fewer c =
    let a = c.args in
    let s = a.sheet.now in
    let seen = c.seen-seen in
    let is = c.in_ok-strike_refusal.ensures (ledger_of s) seen.ensures.sees in
    strike_some s a.place seen.ensures.sees 0 is refl

pub struck_at-requires : goal.struck_at-requires
struck_at-requires c = (let a = c.args in
    let s = a.sheet.now in
    let seen = c.seen-seen in
    let is = c.in_ok-strike_refusal.ensures (ledger_of s) seen.ensures.sees in
    strike_some s a.place seen.ensures.sees 0 is refl)

pub without_line-requires : goal.without_line-requires
without_line-requires c =
    let a = c.args in
    let s = a.sheet.now in
    let seen = c.seen-seen in
    let is = c.in_ok-strike_refusal.ensures (ledger_of s) seen.ensures.sees in (
      strike_opened s a.place seen.ensures.sees 0 is refl,
      strike_within s a.place seen.ensures.sees 0 is refl c.struck_at.ensures,
    )

pub returns : goal.returns
returns c =
    let a = c.args in
    let s = a.sheet.now in
    let seen = c.seen-seen in
    let is = c.in_ok-strike_refusal.ensures (ledger_of s) seen.ensures.sees in
    let both = strike_accepted s a.place seen.ensures.sees 0 is refl
    c.struck_at.ensures c.without_line.ensures in record { value = both.0; sheet_after = both.1 }
