-- `products::narrow_sum` meets its contract.
use mathlib.Core.Path.{ap₂, ◌∙◌}
use Prim.Native.Nat.{◌+◌}
use native.Mathlib.Omega.{arith}
use Rattle.equations.proofs.Vectors.{below_at}
use Rattle.tableau.proofs.Sums.{dot_more, small_product}
use Rattle.tableau.proofs.products.narrow_sum.Goals as goal

pub overflow_add-all : goal.overflow_add-all
overflow_add-all c =
    let x = c.product-all in
    let small = small_product _ _ _ c.requires.1 (below_at _ c.loop-i.i _ c.requires.4 (omega arith)) (below_at _ c.loop-i.i _ c.requires.5 (omega arith)) in
    omega (arith, x.ensures.0, small, c.loop-i.invariant.0, c.requires.3)

pub loop-i-preserved : goal.loop-i-preserved
loop-i-preserved c =
    let l = c.loop-i in
    let x = c.product-all in
    let small = small_product _ _ _ c.requires.1 (below_at _ c.loop-i.i _ c.requires.4 (omega arith)) (below_at _ c.loop-i.i _ c.requires.5 (omega arith)) in
    (omega (arith, x.ensures.0, small, l.invariant.0), ap₂ ◌+◌ l.invariant.1 x.ensures.0 ∙ dot_more l.i _ _ c.requires.2 (omega arith))
