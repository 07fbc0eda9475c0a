-- `unpacking::front_length` meets its contract: one word more, or none is left.
use native.Mathlib.Omega.{arith}
use lib.ListN.{drop}
use Prim.Native.Nat.{◌+◌, ◌-◌}
use Rattle.words.proofs.Walked.{place-fits, front_on, front_end, front-none}
use Rattle.words.proofs.unpacking.front_length.Goals as goal

pub returns-then-at-memory : goal.returns-then-at-memory
returns-then-at-memory c =
    let a = c.args in
    let l = c.loop in
    omega (arith, front_end (a.count - l.counter) a.memory.now l.at (omega arith))

pub overflow_add-at : goal.overflow_add-at
overflow_add-at c =
    omega (arith, place-fits c.args.memory.now c.loop.at (omega arith) c.first_at-at.ensures.length_value)

pub loop-preserved : goal.loop-preserved
loop-preserved c =
    let a = c.args in
    let l = c.loop in
    let e = c.first_at-at.ensures.length_value in record {
      place = place-fits a.memory.now l.at (omega arith) e;
      counted = omega (arith, front_on a.memory.now l.at (omega arith) e (a.count - l.counter) (a.count - (l.counter + 1)) (omega arith));
    }

pub returns : goal.returns
returns c =
    let a = c.args in
    let l = c.loop in
    omega (arith, front-none (a.count - l.counter) (drop l.at a.memory.now) (omega arith))
