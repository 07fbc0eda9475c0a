-- `line::add_row` meets its contract: the next entry is still that of the line as it was, and so a residue.
use native.Mathlib.Nat.{one-mul}
use native.Mathlib.Omega.{arith}
use Rattle.equations.proofs.Vectors.{below_at}
use Rattle.tableau.proofs.Combined.{beside-next, beside-below}
use Rattle.tableau.proofs.line.add_row.Goals as goal

pub add-requires : goal.add-requires
add-requires c =
    (below_at _ _ _ c.requires.1 (omega arith), beside-below _ _ _ _ _ _ _ (omega arith) (omega arith) c.requires.2 c.loop-i.invariant)

pub loop-i-preserved : goal.loop-i-preserved
loop-i-preserved c =
    beside-next _ _ _ _ _ _ _ (omega arith) (omega arith) _ c.loop-i.invariant (simp one-mul c.add.ensures.0)
