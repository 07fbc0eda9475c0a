-- `Sheet::add` meets its contract: a refused equation keeps the sheet, and the line of an accepted one has the residues of its words, mod its
-- own modulus.
use mathlib.Core.Path.{refl, ap, ◌∙◌}
use Prim.Native.Nat.{ℕ}
use borrow.Author.Rules.{rules}
use lib.ListN.{replicate}
use Rattle.questions.specs.Refusals.{by_number}
use Rattle.questions.proofs.Ladder.{number_not, handed_on}
use Rattle.ledger.specs.Calls.{adds}
use Rattle.asking.specs.Sees.{equation_room}
use Rattle.sheet.specs.Record.{ledger_of}
use Rattle.sheet.proofs.Entering.{entry_refused, modulus_some, add-opened, gain_fits, gain_accepted, line-long, line_own, line_lies, used_line}
use Rattle.sheet.proofs.Sheet.add.Goals as goal

pub adding_of-requires : goal.adding_of-requires
adding_of-requires c =
    let some = modulus_some c.args.sheet.now c.seen-seen.ensures.sees in search rules

pub returns-in_err-modulus : goal.returns-in_err-modulus
returns-in_err-modulus c =
    let a = c.args in
    let s = a.sheet.now in
    let out = c.from_residual in
    let refusal = c.in_err-modulus.field-0.0 in
    let is = c.in_err-modulus.ensures.refusal_value (ledger_of s) c.seen-seen.ensures.sees in
    let both = entry_refused s (adds a.words.now) _ is (number_not refusal) in
    record { value = ap by_number (handed_on out.result refusal out.ensures.1) ∙ both.0; sheet_after = both.1 }

pub with_line-requires : goal.with_line-requires
with_line-requires c =
    let a = c.args in
    let s = a.sheet.now in
    let ws = a.words.now in
    let sees = c.seen-seen.ensures.sees in
    let asked = c.in_ok-modulus in
    let is = asked.ensures.refusal_value (ledger_of s) sees in
    let own = asked.ensures.modulus_value in
    let q = asked.modulus in
    let zeros = replicate {A = ℕ} equation_room 0 in
    let front = used_line s ws sees is own zeros (asked.ensures.line_after (add-opened s ws sees 0 is refl)) in
    let both = gain_fits s (adds ws) _ refl sees 0 is refl q (line_own s ws sees 0 q is refl own zeros front)
    _ (line-long s ws sees 0 q is refl own zeros front)
    (line_lies s ws sees 0 q is refl own zeros front) in record { room = both.0; residues = both.1 }

pub returns : goal.returns
returns c =
    let a = c.args in
    let s = a.sheet.now in
    let ws = a.words.now in
    let sees = c.seen-seen.ensures.sees in
    let accepted = c.in_ok-modulus.ensures in
    let is = accepted.refusal_value (ledger_of s) sees in
    let own = accepted.modulus_value in
    let q = c.in_ok-modulus.modulus in
    let zeros = replicate {A = ℕ} equation_room 0 in
    let front = used_line s ws sees is own zeros (accepted.line_after (add-opened s ws sees 0 is refl)) in
    let both = gain_accepted s (adds ws) _ refl sees 0 is refl q (line_own s ws sees 0 q is refl own zeros front)
    _ (line-long s ws sees 0 q is refl own zeros front)
    (line_lies s ws sees 0 q is refl own zeros front) c.with_line.ensures in record { value = both.0; sheet_after = both.1 }
