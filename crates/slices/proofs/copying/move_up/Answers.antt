-- `copying::move_up` meets its contract. The invariant: the first k numbers are moved, those behind them as they were.
use native.Mathlib.Omega.{arith}
use lib.ListN.{take, drop}
use Rattle.slices.proofs.Copied.{copied_none, copied_more, copied_all, moving_length, moving_next}
use Rattle.slices.proofs.copying.move_up.Goals as goal

pub loop-k-init : goal.loop-k-init
loop-k-init c =
    let a = c.args in copied_none (take a.count (drop a.by a.numbers.now)) a.numbers.now

pub loop-k-preserved : goal.loop-k-preserved
loop-k-preserved c =
    let l = c.loop-k in
    let a = c.args in
    let old = a.numbers.now in
    let size = moving_length a.by a.count old c.requires in
    copied_more l.k (take a.count (drop a.by old)) old 0 l.invariant (omega (arith, size)) (omega arith)
    (moving_next a.by a.count old c.requires l.k 0 l.invariant (omega arith))

pub returns : goal.returns
returns c =
    let l = c.loop-k in
    let a = c.args in
    let old = a.numbers.now in
    let size = moving_length a.by a.count old c.requires in
    copied_all l.k (take a.count (drop a.by old)) old l.invariant (omega (arith, size, l.invariant.0))
