-- `milebadger_add_text` meets its contract: it hands on what the sheet's call says.
use native.Mathlib.Omega.{arith}
use Rattle.ledger.specs.Calls.{types}
use Rattle.sheet.proofs.Few.{held-few}
use Rattle.milebadger.proofs.sheets.milebadger_add_text.Goals as goal

pub counted-requires : goal.counted-requires
counted-requires c =
    let a = c.args in
    omega (arith, held-few a.sheet.now (types a.text.now) c.add_text.ensures.value)
