-- `line::multiple` meets its contract.
use mathlib.Core.Path.{refl}
use native.Mathlib.Omega.{arith}
use Rattle.tableau.proofs.Combined.{combined-next, multiple_is}
use Rattle.tableau.proofs.line.multiple.Goals as goal

pub loop-i-preserved : goal.loop-i-preserved
loop-i-preserved c =
    let factor = c.factor-factor.ensures in
    combined-next _ 0 _ _ _ _ _ _ _ _ _ refl (omega arith) (omega arith) c.loop-i.invariant refl refl
    (multiple_is _ _ _ _ (rw (factor.0, factor.1) at c.times.ensures.0))
