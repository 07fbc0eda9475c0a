-- `milebadger_sheet_for` meets its contract: it hands on what `sheet_for` says.
use mathlib.Core.Path.{sym, ◌∙◌}
use native.Mathlib.Omega.{arith}
use Rattle.setting.proofs.Calls.{lines-few}
use Rattle.questions.specs.Refusals.{by_number}
use Rattle.milebadger.proofs.Signed.{held-most}
use Rattle.milebadger.proofs.milebadger_sheet_for.Goals as goal

pub counted-requires : goal.counted-requires
counted-requires c =
    let p = c.args in
    omega (arith, held-most 16 (by_number c.sheet_for.result) (λ k is. omega (arith, lines-few p.m p.n p.claim.now p.out.now k (sym c.sheet_for.ensures.value ∙ is))))
