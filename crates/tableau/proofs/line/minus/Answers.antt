-- `line::minus` meets its contract: the difference, or m more where it would be negative.
use Prim.Native.Nat.{◌+◌, ◌-◌}
use native.Mathlib.Omega.{arith}
use Rattle.tableau.proofs.Combined.{minus_is}
use Rattle.tableau.proofs.line.minus.Goals as goal

pub returns-then-b-x : goal.returns-then-b-x
returns-then-b-x c =
    let a = c.args in
    let x = c.times-x in
    (minus_is a.p.m a.p.value a.a a.b (x.result - a.b) 0 (omega arith) (omega (arith, x.ensures.0)), omega arith)

pub returns-else-b-x : goal.returns-else-b-x
returns-else-b-x c =
    let a = c.args in
    let x = c.times-x in (
      minus_is a.p.m a.p.value a.a a.b (x.result + (a.p.m - a.b)) 1 (omega arith) (omega (arith, x.ensures.0)),
      omega arith,
    )
