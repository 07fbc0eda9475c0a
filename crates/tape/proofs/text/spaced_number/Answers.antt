-- `text::spaced_number` meets its contract: `decimal_into` writes into the part behind the space.
use native.Mathlib.Omega.{arith}
use lib.ListN.{set, length-set}
use Rattle.slices.proofs.Parts.{lent_length}
use Rattle.tape.proofs.Printed.{decimal-most}
use Rattle.tape.proofs.text.spaced_number.Goals as goal

pub decimal_into-digits-requires : goal.decimal_into-digits-requires
decimal_into-digits-requires c =
    let a = c.args in
    omega (arith, lent_length 1 (set a.out.now 0 32), length-set a.out.now 0 32, decimal-most a.x (omega arith))

pub returns-clause-value : goal.returns-clause-value
returns-clause-value c =
    let a = c.args in
    let digits = c.decimal_into-digits in
    let few = decimal-most a.x (omega arith) in
    (omega (arith, digits.ensures.value), omega (arith, digits.ensures.value))
