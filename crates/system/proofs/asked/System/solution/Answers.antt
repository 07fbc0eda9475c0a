-- `runs::solution` meets its contract: a basis of at most 4 unknowns has 15 numbers at most, and any other one 153.
use Prim.Native.Nat.{◌+◌}
use native.Mathlib.Omega.{arith}
use Rattle.tableau.proofs.Packed.{triangle_mono}
use Rattle.system.proofs.asked.System.solution.Goals as goal

pub solution_into-requires : goal.solution_into-requires
solution_into-requires c =
    let n = c.args.self.now.n in
    (triangle_mono (n + 1) (n + 1) 5 5 (omega arith) (omega arith), omega arith, c.requires)

pub solution_into-requires-2 : goal.solution_into-requires-2
solution_into-requires-2 c =
    let n = c.args.self.now.n in
    let few = c.args.self.now.posed.unknowns in
    (triangle_mono (n + 1) (n + 1) 17 17 (omega (arith, few)) (omega (arith, few)), omega arith, c.requires)
