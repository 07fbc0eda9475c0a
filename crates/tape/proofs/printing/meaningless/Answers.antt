-- `printing::meaningless` meets its contract: the call is always refused with 1.
use mathlib.Core.Path.{refl}
use Rattle.ledger.specs.Calls.{meaningless, queries}
use Rattle.tape.proofs.Told.{told, meaningless_told}
use Rattle.tape.proofs.printing.meaningless.Goals as goal

pub returns : goal.returns
returns c =
    let a = c.args in
    let s = a.sheet.now in
    let line = c.refused in
    told s (queries (meaningless a.words.now)) a.out.now refl (meaningless_told s a.words.now) line.ensures.value line.ensures.out_after
