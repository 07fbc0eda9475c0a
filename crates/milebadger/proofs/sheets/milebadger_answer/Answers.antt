-- `milebadger_answer` meets its contract: it hands on what the sheet's call says.
use mathlib.Core.Path.{sym, ◌∙◌}
use native.Mathlib.Omega.{arith}
use Rattle.sheet.proofs.Answers.{wrote_few}
use Rattle.questions.specs.Refusals.{by_number}
use Rattle.milebadger.proofs.Signed.{held-most}
use Rattle.milebadger.proofs.sheets.milebadger_answer.Goals as goal

pub counted-requires : goal.counted-requires
counted-requires c =
    let a = c.args in
    omega (arith, held-most 545 (by_number c.answer.result) (λ k is. omega (arith, wrote_few a.sheet.now a.out.now {k = k} (sym c.answer.ensures.value ∙ is))))
