-- `relating::relations_into` meets its contract. The invariant: the lines of the first p places are written, and behind them stand zeros. The
-- measure is the number of places left.
use mathlib.Core.Path.{refl, ◌∙◌}
use Prim.Native.Nat.{◌+◌, ◌-◌, ◌*◌}
use native.Mathlib.Omega.{arith}
use Rattle.system.proofs.Relations.{related_none, related_more, related_all}
use Rattle.system.proofs.relating.relations_into.Goals as goal

pub loop-p-init : goal.loop-p-init
loop-p-init c =
    let a = c.args in
    (omega arith, refl, related_none a.n a.k a.steps.now a.lines.now)

pub loop-p-preserved : goal.loop-p-preserved
loop-p-preserved c =
    let a = c.args in
    let l = c.loop-p in
    let end = l.p * (a.k + 1) + (a.k + 1) in (
      omega arith,
      c.lines-1.given.1 ∙ l.invariant.1,
      related_more a.n a.k a.steps.now c.requires.2 a.lines.now c.requires.3 l.p l.lines l.invariant.2 (omega arith)
          (end - l.p * (a.k + 1)) (omega arith) c.entries_into.ensures,
    )

pub returns : goal.returns
returns c =
    let a = c.args in
    let l = c.loop-p in
    let both = related_all a.n a.k a.steps.now c.requires.2 a.lines.now c.requires.3 l.p l.lines l.invariant.2 (omega arith) (omega arith) in record { lines_after = both.0; by_index = both.1 }
