-- `give_answer` meets its contract: the block that `solve_into` leaves is what `give_block` is handed.
use Prim.Native.Nat.{ℕ}
use native.Mathlib.Omega.{arith}
use lib.ListN.{replicate, length-replicate}
use Rattle.equations.specs.Lines.{equations_of}
use Rattle.system.proofs.Written.{written-block, written-fits}
use Rattle.milebadger.proofs.Reply.{replied_on}
use Rattle.milebadger.proofs.give_answer.Goals as goal

pub shared_whole_as_front-give_block : goal.shared_whole_as_front-give_block
shared_whole_as_front-give_block g c =
    let p = c.args in
    let solved = c.solve_into-block in
    let zeros = replicate {A = ℕ} g.row.ROOM 0 in
    let fits = written-fits p.m p.n (equations_of p.n p.lines.now) solved.result zeros (solved.ensures.value, solved.ensures.numbers_after) in
    (omega (arith, fits, solved.auto.numbers, length-replicate {A = ℕ} g.row.ROOM 0), omega arith)

pub returns : goal.returns
returns g c =
    let p = c.args in
    let solved = c.solve_into-block in
    let zeros = replicate {A = ℕ} g.row.ROOM 0 in
    let is = written-block p.m p.n (equations_of p.n p.lines.now) solved.result zeros (solved.ensures.value, solved.ensures.numbers_after) in
    rw (← is) (replied_on c.give_block.type_inv c.give_block.ensures)
