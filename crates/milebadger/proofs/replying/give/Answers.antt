-- `give` meets its contract: `copy` writes the numbers, where they fit.
use native.Mathlib.Omega.{arith}
use Rattle.milebadger.proofs.Reply.{short_replied, written_replied, replied_on}
use Rattle.milebadger.proofs.replying.give.Goals as goal

pub returns-then-out-numbers : goal.returns-then-out-numbers
returns-then-out-numbers c =
    let at-start = c.args in
    replied_on c.refuse.type_inv (short_replied at-start.res at-start.numbers.now at-start.out.now (omega arith) c.refuse.ensures)

pub returns : goal.returns
returns c =
    let at-start = c.args in
    replied_on c.from.type_inv (written_replied at-start.res at-start.numbers.now at-start.out.now c.from.ensures (omega arith) c.copy.ensures)
