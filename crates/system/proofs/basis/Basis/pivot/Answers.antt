-- `Basis::pivot` meets its contract: the row lies in the numbers, and it is kept.
use Prim.Native.Nat.{◌+◌}
use native.Mathlib.Omega.{arith}
use Rattle.system.proofs.Rows.{triangle-within, pivot-kept}
use Rattle.system.proofs.basis.Basis.pivot.Goals as goal

pub pivot_at-requires : goal.pivot_at-requires
pivot_at-requires c =
    let b = c.args.self.now in
    let i = c.args.i in (
      omega arith,
      omega (arith, b.readable.unknowns),
      omega (arith, triangle-within (b.n + 1) i (b.n + 1) (omega arith) (omega arith), b.readable.size),
    )

pub returns : goal.returns
returns c =
    let b = c.args.self.now in
    let i = c.args.i in
    let is = c.pivot_at.ensures (b.n + 1) (omega arith) in
    (omega (arith, is, pivot-kept b.m (b.n + 1) i (b.n + 1) b.numbers.now (omega arith) (omega arith) b.readable.size b.readable.kept), is)
