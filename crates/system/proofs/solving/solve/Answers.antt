-- `solving::solve` meets its contract: 272 numbers are enough for every block, and what it does not write stays 0.
use Rattle.equations.specs.Lines.{equations_of}
use Rattle.system.proofs.Written.{answer_is}
use Rattle.system.proofs.solving.solve.Goals as goal

pub returns : goal.returns
returns c =
    let a = c.args in
    let w = c.solve_into-written in
    answer_is a.m a.n (equations_of a.n a.lines.now) w.result (w.ensures.value, w.ensures.numbers_after)
