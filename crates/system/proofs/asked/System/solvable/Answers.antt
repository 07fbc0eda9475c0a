-- `keeping::solvable` meets its contract: the constant's pivot in the basis of the lines decides.
use Rattle.system.proofs.Prepared.{prepared_front}
use Rattle.system.proofs.Explained.{pivot_decides}
use Rattle.system.proofs.asked.System.solvable.Goals as goal

pub returns-clause-value : goal.returns-clause-value
returns-clause-value c =
    let s = c.args.self.now in
    let size = c.packed_size-size in
    pivot_decides s.m s.n s.lines.now _ s.posed (prepared_front s.m s.n s.lines.now _ c.prepare.ensures size.result size.ensures)
    c.pivot.result c.pivot.ensures.1
