-- `finding::explain_broken` meets its contract: there is a solution, or the multipliers are written.
use Rattle.system.specs.Ready.{zeros_ready}
use Rattle.system.proofs.asked.System.explain_broken.Goals as goal

pub solvable-requires : goal.solvable-requires
solvable-requires c =
    zeros_ready c.args.self.now.m c.args.self.now.n c.args.self.now.lines.now
