-- `Run::next_lines` meets its contract: a step takes what it says off the rest, and its lines off what remains; they lie in `told`.
use mathlib.Core.Path.{refl, sym, ap, ◌∙◌}
use mathlib.Core.List.{List, [], ◌++◌}
use Prim.Native.Nat.{ℕ, ◌≤◌}
use native.Mathlib.Omega.{arith}
use borrow.Author.Rules.{rules}
use lib.ListN.{length, length-take}
use Rattle.slices.proofs.Parts.{lent, lent_length}
use Rattle.slices.proofs.Over.{over-front}
use Rattle.sheet.specs.Record.{ledger_of}
use Rattle.tape.specs.Output.{left_over_line}
use Rattle.tape.specs.Reader.{lines_on, first_on}
use Rattle.tape.specs.Run.{remaining}
use Rattle.tape.proofs.Remaining.{remaining_none, remaining_over}
use Rattle.tape.proofs.Runs.{step-bytes, step-written, step_fits, step_remaining}
use Rattle.tape.proofs.running.Run.next_lines.Goals as goal

pub returns-then-is_empty : goal.returns-then-is_empty
returns-then-is_empty c =
    let run = c.args.self.now in
    ((refl, λ _. tt, remaining_none (ledger_of run.sheet) run.rest.now (search rules)), record { lines = tt; fits = tt })

pub returns-then-rest-lt4 : goal.returns-then-rest-lt4
returns-then-rest-lt4 c =
    let run = c.args.self.now in
    let over = c.left_over-over in
    let told = over-front over.result (left_over_line run.rest.now) run.told over.ensures.out_after (sym over.ensures.value) in (
      (refl, λ _. tt, (remaining_over (ledger_of run.sheet) run.rest.now [] (omega arith) told refl, search rules)),
      record { lines = tt; fits = omega (arith, length-take over.result over.new.out) },
    )

pub slice_bounds-self-count : goal.slice_bounds-self-count
slice_bounds-self-count c =
    let run = c.args.self.now in
    (step-bytes run.sheet run.rest.now (omega arith) c.next-step.ensures.value).1

pub slice_bounds-self-start : goal.slice_bounds-self-start
slice_bounds-self-start c = slice_bounds-self-count c

pub shared_ref_as_front-told-2 : goal.shared_ref_as_front-told-2
shared_ref_as_front-told-2 c =
    let run = c.args.self.now in
    let step = c.next-step in
    let fits = step_fits run.sheet run.rest.now (omega arith) step.ensures.value run.told step.ensures.out_after in
    search rules

pub returns : goal.returns
returns c =
    let run = c.args.self.now in
    let rest = run.rest.now in
    let step = c.next-step in
    let whole : 4 ≤ length rest = omega arith in
    let bytes = step-bytes run.sheet rest whole step.ensures.value in
    let told =
    over-front step.result.written (lines_on run.sheet (first_on run.sheet rest)) run.told step.ensures.out_after
    (sym (step-written run.sheet rest whole step.ensures.value)) in (
      (
        refl,
        λ _. tt,
        (
          step_remaining run.sheet rest whole step.ensures.value step.ensures.sheet_after
              ∙ ap (λ (z : List ℕ). z ++ remaining (ledger_of step.new.sheet) (lent step.result.used rest)) (sym told),
          omega (arith, bytes.0, lent_length step.result.used rest),
        ),
      ),
      record { lines = tt; fits = omega (arith, length-take step.result.written step.new.out) },
    )
