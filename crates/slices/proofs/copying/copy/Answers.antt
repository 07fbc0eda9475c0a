-- `copying::copy` meets its contract. The invariant: the first i elements are written, those behind them as they were.
use native.Mathlib.Omega.{arith}
use Rattle.slices.proofs.Copied.{copied_more}
use Rattle.slices.proofs.copying.copy.Goals as goal

pub loop-i-preserved : goal.loop-i-preserved
loop-i-preserved g c =
    let l = c.loop-i in
    let a = c.args in
    copied_more l.i a.from.now a.to.now _ l.invariant (omega arith) (omega arith) c.index-from-i.is
