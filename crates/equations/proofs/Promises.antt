-- The promises of specs/Promises.antt, kept.
use mathlib.Core.Path.{fun_ext}
use mathlib.Core.List.{◌∷◌, ◌++◌}
use native.Mathlib.Omega.{arith}
use Rattle.equations.specs.Promises.{constant, DictionaryOrder, StartFirst, NoStart, StepFirst, NoStep, Complete, Unique, StepDivides, Counted, OwnAnswer, Refuted, NoEquations, ZeroEquation, ContradictoryEquation, ResiduesSolve, RightButLong, ZeroStep}
use Rattle.equations.proofs.Vectors.{before_asym, before_trans, before-total}
use Rattle.equations.proofs.Whole as Whole
use Rattle.equations.proofs.Answer.{first-solution, start_none, first_step, step-none, answer-complete, answer-unique}
use Rattle.equations.proofs.OwnAnswer.{answer-right, none_right}
use Rattle.equations.proofs.Number.{count_solutions}
use Rattle.equations.proofs.Places.{step_entry}
use Rattle.equations.proofs.Multipliers.{refuted_none}
use Rattle.equations.proofs.Superfluous.{zero-step as zero-of-claim}
use Rattle.equations.proofs.Marks.{right_but_long as long-of-claim}
use Rattle.equations.proofs.Special.{solves_start, solves_steps, solves-right, none_start, none_steps, zero-solves, zero-homogeneous, contradiction_none}

pub dictionary_order : DictionaryOrder
dictionary_order m n = record { total = before-total m n; strict = before_asym; onward = before_trans }

pub start_first : StartFirst
start_first = first-solution

pub no_start : NoStart
no_start = start_none

pub step-first : StepFirst
step-first = first_step

pub no_step : NoStep
no_step = step-none

pub complete : Complete
complete = answer-complete

pub unique : Unique
unique = answer-unique

pub step_divides : StepDivides
step_divides = step_entry

pub counted : Counted
counted = count_solutions

pub own_answer : OwnAnswer
own_answer m n es pos = ((λ c. answer-right m n es c pos), none_right m n es)

pub refuted : Refuted
refuted = refuted_none

pub no_equations : NoEquations
no_equations m n lt = (none_start m n (omega arith), none_steps m n lt)

pub zero-equation : ZeroEquation
zero-equation m n k es fs =
    let with_it = es ++ (constant k 0 ∷ fs) in
    let without = es ++ fs in
    let same = fun_ext (zero-solves m k es fs) in (
      zero-solves m k es fs,
      solves_start m n with_it without same,
      solves_steps m n with_it without (zero-homogeneous m k es fs),
      solves-right m n with_it without same,
    )

pub contradictory_equation : ContradictoryEquation
contradictory_equation = contradiction_none

pub residues_solve : ResiduesSolve
residues_solve m n xs v positive = Whole.residues_solve m positive n xs v

pub right_but_long : RightButLong
right_but_long = long-of-claim

pub zero-step : ZeroStep
zero-step m n ss pos vs j lt is = zero-of-claim m n ss j pos vs lt is
