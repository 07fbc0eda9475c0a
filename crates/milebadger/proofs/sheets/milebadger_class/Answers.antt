-- `milebadger_class` meets its contract: it hands on what the sheet's call says.
use mathlib.Core.Path.{sym, ◌∙◌}
use native.Mathlib.Omega.{arith}
use Rattle.sheet.specs.Record.{ledger_of}
use Rattle.sheet.proofs.Classes.{claims_few}
use Rattle.questions.specs.Refusals.{by_number}
use Rattle.milebadger.proofs.Signed.{held-most}
use Rattle.milebadger.proofs.sheets.milebadger_class.Goals as goal

pub counted-requires : goal.counted-requires
counted-requires c =
    let a = c.args in
    omega (arith, held-most 64 (by_number c.class.result) (λ k is. omega (arith, claims_few (ledger_of a.sheet.now) a.words.now a.marks.now {count = k} (sym c.class.ensures.value ∙ is))))
