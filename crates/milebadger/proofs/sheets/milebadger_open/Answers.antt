-- `milebadger_open` meets its contract: it hands on what the sheet's call says.
use native.Mathlib.Omega.{arith}
use Rattle.ledger.specs.Calls.{opens}
use Rattle.sheet.proofs.Few.{held-few}
use Rattle.milebadger.proofs.sheets.milebadger_open.Goals as goal

pub counted-requires : goal.counted-requires
counted-requires c =
    let a = c.args in
    omega (arith, held-few a.sheet.now (opens a.words.now) c.«open».ensures.value)
