-- `line::combine_both` meets its contract: the next entries are still those of the two lists as they were, and so residues.
use native.Mathlib.Omega.{arith}
use Rattle.tableau.proofs.Combined.{both_below, both_next}
use Rattle.tableau.proofs.line.combine_both.Goals as goal

pub combine-requires : goal.combine-requires
combine-requires c =
    let below = both_below _ _ _ _ _ _ _ _ _ _ (omega arith) (omega arith) c.requires.4 c.requires.5 c.loop-i.invariant in
    rw c.factor-s.ensures.1 (c.factor-t.ensures.1, below.0, below.1)

pub combine-requires-in-loop-i : goal.combine-requires-in-loop-i
combine-requires-in-loop-i c =
    let below = both_below _ _ _ _ _ _ _ _ _ _ (omega arith) (omega arith) c.requires.4 c.requires.5 c.loop-i.invariant in
    rw c.factor-p.ensures.1 (c.factor-n.ensures.1, below.0, below.1)

pub loop-i-preserved : goal.loop-i-preserved
loop-i-preserved c =
    let s = c.factor-s.ensures in
    let p = c.factor-p.ensures in
    both_next _ _ _ _ _ _ _ _ _ _ (omega arith) (omega arith) _ _ c.loop-i.invariant
    (rw (s.0, c.factor-t.ensures.0, s.1) at c.combine.ensures.0)
    (rw (p.0, c.factor-n.ensures.0, c.negate.ensures.0, p.1) at c.combine-in-loop-i.ensures.0)
