-- `line::scale` meets its contract: the next entry is still that of the line as it was.
use mathlib.Core.Path.{refl}
use native.Mathlib.Omega.{arith}
use Rattle.tableau.proofs.Combined.{beside-next, multiple_is}
use Rattle.tableau.proofs.line.scale.Goals as goal

pub loop-x-preserved : goal.loop-x-preserved
loop-x-preserved c =
    let factor = c.factor-factor.ensures in
    beside-next _ 0 _ _ _ _ _ refl (omega arith) _ c.loop-x.invariant (multiple_is _ _ _ _ (rw (factor.0, factor.1) at c.times.ensures.0))
