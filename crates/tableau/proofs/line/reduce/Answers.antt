-- `line::reduce` meets its contract: the next entry is still that of the line as it was, and so a residue.
use native.Mathlib.Omega.{arith}
use borrow.Author.Rules.{rules}
use Rattle.tableau.proofs.Combined.{beside-next, beside-below}
use Rattle.tableau.proofs.line.reduce.Goals as goal

pub minus-requires : goal.minus-requires
minus-requires c =
    let below = beside-below _ _ _ _ _ _ _ (omega arith) (omega arith) c.requires.2 c.loop-i.invariant in search (rules, below)

pub loop-i-preserved : goal.loop-i-preserved
loop-i-preserved c =
    let factor = c.factor-factor.ensures in
    beside-next _ _ _ _ _ _ _ (omega arith) (omega arith) _ c.loop-i.invariant (rw (factor.0, factor.1) at c.minus.ensures.0)
