-- `printing::misplaced` meets its contract: the call is always refused with 17.
use mathlib.Core.Path.{refl}
use Rattle.ledger.specs.Calls.{misplaced, queries}
use Rattle.tape.proofs.Told.{told, misplaced_told}
use Rattle.tape.proofs.printing.misplaced.Goals as goal

pub returns : goal.returns
returns c =
    let a = c.args in
    let s = a.sheet.now in
    let line = c.refused in
    told s (queries (misplaced a.words.now)) a.out.now refl (misplaced_told s a.words.now) line.ensures.value line.ensures.out_after
