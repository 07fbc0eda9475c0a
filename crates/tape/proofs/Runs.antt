-- A run over a tape, a step of the reader at a time.
--   step-bytes                    a step takes a word at least, and no more than there is
--   step-written                  its lines are as many bytes as it says, and lie at the front of what was written
--   step_fits                     so they fit
--   step_remaining                and are taken off what remains
use mathlib.Core.Path.{◌≡◌, sym, ap, ap₂, ◌∙◌}
use mathlib.Core.List.{List, ◌++◌}
use Prim.Native.Nat.{ℕ, ◌≤◌}
use native.Mathlib.Omega.{arith}
use lib.ListN.{length, drop}
use Rattle.slices.specs.Over.{over}
use Rattle.slices.proofs.Parts.{lent, lent_is}
use Rattle.slices.proofs.Over.{over-fits}
use Rattle.sheet.specs.Record.{Sheet, ledger_of}
use Rattle.sheet.specs.History.{left}
use Rattle.tape.specs.declared.calling.Step.{Step}
use Rattle.tape.specs.Reader.{lines_on, first_on, step_of}
use Rattle.tape.proofs.Remaining.{remaining, used_by, used_some, used_fits, remaining_step}

module _ (s : Sheet) (rest : List ℕ) {step : Step} (whole : 4 ≤ length rest) (is : step ≡ step_of s rest) where
  used_is : step.used ≡ used_by (ledger_of s) rest
  unfolding step_of
  used_is = ap (λ (t : Step). t.used) is

  pub step-bytes : (4 ≤ step.used) × (step.used ≤ length rest)
  step-bytes = (
    omega (arith, used_is, used_some (ledger_of s) rest whole),
    omega (arith, used_is, used_fits (ledger_of s) rest),
  )

  pub step-written : step.written ≡ length (lines_on s (first_on s rest))
  unfolding step_of
  step-written = ap (λ (t : Step). t.written) is

  pub step_fits : (old : List ℕ) {new : List ℕ} → new ≡ over (lines_on s (first_on s rest)) old → step.written ≤ length new
  step_fits old front = omega (arith, step-written, over-fits (lines_on s (first_on s rest)) old front)

  module _ {after : Sheet} (left_is : after ≡ left s (first_on s rest)) where
    abbrev pub behind : List ℕ
    behind = remaining (ledger_of after) (lent step.used rest)

    pub step_remaining : remaining (ledger_of s) rest ≡ lines_on s (first_on s rest) ++ behind
    step_remaining =
        remaining_step s rest whole
        ∙ ap (λ (z : List ℕ). lines_on s (first_on s rest) ++ z)
        (ap₂ (λ (t : Sheet) (z : List ℕ). remaining (ledger_of t) z) (sym left_is)
        (ap (λ (k : ℕ). drop k rest) (sym used_is) ∙ sym (lent_is step.used rest)))
