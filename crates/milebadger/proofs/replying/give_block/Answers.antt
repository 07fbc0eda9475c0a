-- `give_block` meets its contract: `copy` writes into the part behind the head.
use mathlib.Core.List.{◌∷◌}
use Prim.Native.Nat.{◌+◌}
use native.Mathlib.Omega.{arith}
use lib.ListN.{length}
use Rattle.slices.proofs.Over.{head_then}
use Rattle.milebadger.proofs.Reply.{short_replied, gives-written, replied_on}
use Rattle.milebadger.proofs.replying.give_block.Goals as goal

pub returns-then-out-numbers : goal.returns-then-out-numbers
returns-then-out-numbers c =
    let at-start = c.args in
    let block = at-start.head ∷ at-start.numbers.now in
    replied_on c.refuse.type_inv (short_replied (length block) block at-start.out.now (omega arith) c.refuse.ensures)

pub returns : goal.returns
returns c =
    let at-start = c.args in
    let block = at-start.head ∷ at-start.numbers.now in
    gives-written (length block) block at-start.out.now (length at-start.numbers.now + 1)
    (omega arith) (omega arith) (omega arith)
    (head_then at-start.head at-start.numbers.now at-start.out.now (omega arith)
    c.copy.ensures)
