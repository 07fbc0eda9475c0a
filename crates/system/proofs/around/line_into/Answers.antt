-- `around::line_into` meets its contract.
use Prim.Native.Nat.{◌%◌}
use native.Mathlib.Omega.{arith}
use Rattle.slices.proofs.Over.{over-one}
use Rattle.equations.specs.Equation.{dot}
use Rattle.equations.proofs.Vectors.{vector-length, vector-same-length, vector-below}
use Rattle.system.proofs.around.line_into.Goals as goal

pub copy-requires : goal.copy-requires
copy-requires c =
    omega (arith, vector-length c.args.m c.args.n c.args.g.now c.requires.3, c.requires.4)

pub sum-requires : goal.sum-requires
sum-requires c =
    let a = c.args in
    let long = vector-length a.m a.n a.g.now c.requires.3 in (
      c.requires.0,
      vector-same-length a.m a.n a.g.now a.start.now c.requires.3 c.requires.2,
      omega (arith, long, c.requires.1),
      vector-below a.m a.n a.g.now c.requires.3,
      vector-below a.m a.n a.start.now c.requires.2,
    )

pub returns : goal.returns
returns c =
    let a = c.args in
    let g = a.g.now in
    let long = vector-length a.m a.n g c.requires.3 in
    let x = dot g a.start.now % a.m in
    rw (c.sum.ensures, c.copy.ensures, ← long) (over-one g a.line.now x (omega (arith, long, c.requires.4)))
