-- `runs::refutation` meets its contract: with 16 carried columns a basis of at most 4 unknowns has 95 numbers at most, and any other one 425.
use Prim.Native.Nat.{◌+◌}
use native.Mathlib.Omega.{arith}
use Rattle.tableau.proofs.Packed.{triangle_mono}
use Rattle.system.proofs.asked.System.refutation.Goals as goal

pub multipliers_into-requires : goal.multipliers_into-requires
multipliers_into-requires c =
    let n = c.args.self.now.n in
    (triangle_mono (n + 1) (n + 17) 5 21 (omega arith) (omega arith), omega arith, c.requires)

pub multipliers_into-requires-2 : goal.multipliers_into-requires-2
multipliers_into-requires-2 c =
    let n = c.args.self.now.n in
    let few = c.args.self.now.posed.unknowns in
    (triangle_mono (n + 1) (n + 17) 17 33 (omega (arith, few)) (omega (arith, few)), omega arith, c.requires)
