-- `Sheet::reason` meets its contract: a claim is turned away, or what was found of it is written.
use mathlib.Core.Path.{◌≡◌, sym, ap, ◌∙◌}
use mathlib.Core.List.{List}
use Prim.Native.Nat.{ℕ, ◌≤◌}
use native.Mathlib.Omega.{arith}
use borrow.Author.Rules.{rules}
use lib.ListN.{length, take, replicate}
use lib.Seq.{length-take-le}
use Rattle.std.specs.Prelude.{Ok}
use Rattle.questions.specs.Refusals.{by_number}
use Rattle.questions.proofs.Ladder.{handed_on}
use Rattle.slices.specs.Over.{over}
use Rattle.slices.proofs.Over.{over-front}
use Rattle.equations.specs.Vectors.{Below}
use Rattle.ledger.specs.Ledger.{modulus_of, unknowns_of, lines_in}
use Rattle.ledger.specs.Allowed.{Allowed}
use Rattle.ledger.specs.Marking.{claim_reason, reason_numbers}
use Rattle.ledger.specs.Calls.{marks, queries}
use Rattle.ledger.specs.Questions.{refusal_of}
use Rattle.system.specs.declared.explaining.Finding.{Finding}
use Rattle.sheet.specs.Record.{Sheet, ledger_of}
use Rattle.sheet.specs.View.{explained_of, explained_numbers}
use Rattle.sheet.proofs.Reading.{reads-allowed}
use Rattle.asking.proofs.ClaimGiven.{mark-opened}
use Rattle.sheet.proofs.Reasoned.{said_gives, said_refused, numbers_are, numbers_below, numbers_few, reason_refused, reason-shown}
use Rattle.sheet.proofs.Sheet.reason.Goals as goal

-- an accepted claim, of which this was found
module _ (s : Sheet) (ws : List ℕ) {finding : Finding} (found : Ok finding ≡ explained_of (ledger_of s) ws) where
  told : (refusal_of (ledger_of s) (queries (marks ws)) ≡ 0)
      × (finding ≡ record { reason = claim_reason (ledger_of s) ws; len = length (reason_numbers (ledger_of s) ws) })
  told = said_gives (ledger_of s) ws (sym found)

  allowed : Allowed (modulus_of (ledger_of s)) (unknowns_of (ledger_of s)) (lines_in (ledger_of s))
  allowed = reads-allowed s (mark-opened (ledger_of s) ws told.0)

  count : finding.len ≡ length (reason_numbers (ledger_of s) ws)
  count = ap (λ (f : Finding). f.len) told.1

  few : finding.len ≤ 16
  few = omega (arith, count, numbers_few (ledger_of s) ws told.0 allowed)

  module _ {shown : List ℕ} (written : shown ≡ over (explained_numbers (ledger_of s) ws) (replicate 16 0)) where
    front : take finding.len shown ≡ reason_numbers (ledger_of s) ws
    front =
        over-front finding.len (reason_numbers (ledger_of s) ws) (replicate 16 0)
        (written ∙ ap (λ (xs : List ℕ). over xs (replicate 16 0)) (numbers_are (ledger_of s) ws told.0)) (sym count)

    below : {m : ℕ} → m ≡ modulus_of (ledger_of s) → Below m (take finding.len shown)
    below same = rw (same, front) (numbers_below (ledger_of s) ws told.0 allowed)

pub slice_bounds-shown-end : goal.slice_bounds-shown-end
slice_bounds-shown-end c = omega (arith, few c.args.sheet.now c.args.words.now c.in_ok-finding.ensures.value)

pub slice_bounds-show-end : goal.slice_bounds-show-end
slice_bounds-show-end c =
    let after = c.explain_claim.new.shown in
    let room : length after ≡ 16 = search rules in
    sym (length-take-le _ after (omega (arith, room, few c.args.sheet.now c.args.words.now c.in_ok-finding.ensures.value)))

pub show-requires : goal.show-requires
show-requires c =
    let found = c.in_ok-finding.ensures in
    below c.args.sheet.now c.args.words.now found.value found.shown_after c.seen-seen.ensures.sees.modulus

pub returns-in_err-finding : goal.returns-in_err-finding
returns-in_err-finding c =
    let a = c.args in
    let l = ledger_of a.sheet.now in
    let ws = a.words.now in
    let out = c.from_residual in
    let refusal = c.in_err-finding.field-0.0 in
    let refused = said_refused l ws (sym c.in_err-finding.ensures.value) in
    let both = reason_refused l ws a.buffer.now _ refused.0 refused.1 in
    record { value = ap by_number (handed_on out.result refusal out.ensures.1) ∙ both.0; buffer_after = both.1 }

pub returns : goal.returns
returns c =
    let a = c.args in
    let s = a.sheet.now in
    let ws = a.words.now in
    let found = c.in_ok-finding.ensures in
    let said = told s ws found.value in
    let show = c.show in
    let modulus = c.seen-seen.ensures.sees.modulus in
    let shown = reason-shown (ledger_of s) ws a.buffer.now said.0 _ _ _ modulus (ap (λ (f : Finding). f.reason) said.1)
    (front s ws found.value found.shown_after) in
    record { value = show.ensures.value ∙ shown.0; buffer_after = show.ensures.buffer_after ∙ shown.1 }
