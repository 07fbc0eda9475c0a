-- `substitution::entry` meets its contract: the sum is over all of the row but its pivot, and 0 where the pivot is m.
use native.Mathlib.Omega.{arith}
use lib.ListN.{get_or}
use Rattle.tableau.proofs.Entry.{entry_is, entry_below, entry_none}
use Rattle.tableau.proofs.substitution.entry.Goals as goal

pub returns-then-d-m : goal.returns-then-d-m
returns-then-d-m c =
    let a = c.args in
    (entry_none a.m a.row.now a.y.now c.requires.3 (omega arith), c.requires.0)

pub returns : goal.returns
returns c =
    let a = c.args in
    let r = c.sum-rest in
    let v = c.least in (
      entry_is a.m r.result v.result a.row.now a.y.now (omega arith) r.ensures v.ensures,
      entry_below a.m r.result v.result (get_or a.row.now 0 0) c.requires.0 v.ensures,
    )
