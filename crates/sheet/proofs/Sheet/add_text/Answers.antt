-- `Sheet::add_text` meets its contract: a refused text keeps the sheet, and the line of an accepted one is what the reader gives.
use mathlib.Core.Path.{◌≡◌, refl, ap, ◌∙◌}
use Prim.Native.Nat.{ℕ, ◌+◌, ◌≤◌}
use mathlib.Core.List.{List}
use native.Mathlib.Omega.{arith}
use borrow.Author.Rules.{rules}
use lib.ListN.{length, take}
use lib.Seq.{length-take-le}
use Rattle.grammar.specs.Texts.{typed_of}
use Rattle.questions.specs.Refusals.{by_number}
use Rattle.questions.proofs.Ladder.{number_not, handed_on}
use Rattle.ledger.specs.Calls.{types}
use Rattle.sheet.specs.Record.{ledger_of}
use Rattle.sheet.proofs.Entering.{entry_refused, modulus_some, gain_fits, gain_accepted, typed_lies}
use Rattle.sheet.proofs.Sheet.add_text.Goals as goal

pub typing_of-requires : goal.typing_of-requires
typing_of-requires c =
    let s = c.args.sheet.now in
    let seen = c.seen-seen in
    (seen.ensures.unknowns_le_most_unknowns.0, λ opened. omega (arith, modulus_some s seen.ensures.sees opened))

pub returns-in_err-line : goal.returns-in_err-line
returns-in_err-line c =
    let a = c.args in
    let s = a.sheet.now in
    let out = c.from_residual in
    let refusal = c.in_err-line.field-0.0 in
    let is = c.in_err-line.ensures.refusal_value (ledger_of s) c.seen-seen.ensures.sees in
    let both = entry_refused s (types a.text.now) _ is (number_not refusal) in
    record { value = ap by_number (handed_on out.result refusal out.ensures.1) ∙ both.0; sheet_after = both.1 }

-- the front of a line that is handed on: a sheet has at most 16 unknowns, and a line 17 numbers
front : (k : ℕ) (line : List ℕ) → length line ≡ 17 → k ≤ 16 → length (take (k + 1) line) ≡ k + 1
front k line long few = length-take-le (k + 1) line (omega arith)

pub with_line-requires : goal.with_line-requires
with_line-requires c =
    let a = c.args in
    let s = a.sheet.now in
    let text = a.text.now in
    let sees = c.seen-seen.ensures.sees in
    let asked = c.in_ok-line in
    let is = asked.ensures.refusal_value (ledger_of s) sees in
    let both = gain_fits s (types text) _ refl sees 0 is refl _ sees.modulus _ (front c.seen-seen.result.unknowns c.in_ok-line.line (search rules) c.seen-seen.ensures.unknowns_le_most_unknowns.0)
    (typed_lies s (typed_of text) sees asked.line asked.ensures.line_value) in record { room = both.0; residues = both.1 }

pub returns : goal.returns
returns c =
    let a = c.args in
    let s = a.sheet.now in
    let text = a.text.now in
    let sees = c.seen-seen.ensures.sees in
    let accepted = c.in_ok-line.ensures in
    let is = accepted.refusal_value (ledger_of s) sees in
    let both = gain_accepted s (types text) _ refl sees 0 is refl _ sees.modulus _
    (front c.seen-seen.result.unknowns c.in_ok-line.line (search rules) c.seen-seen.ensures.unknowns_le_most_unknowns.0)
    (typed_lies s (typed_of text) sees c.in_ok-line.line accepted.line_value)
    c.with_line.ensures in record { value = both.0; sheet_after = both.1 }
