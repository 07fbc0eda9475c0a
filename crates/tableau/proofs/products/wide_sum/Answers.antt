-- `products::wide_sum` meets its contract.
use mathlib.Core.Path.{ap, ◌∙◌}
use Prim.Native.Nat.{ℕ, ◌/◌, ◌%◌}
use native.Mathlib.Omega.{arith}
use Rattle.tableau.proofs.Sums.{halves_start, halves_next, halves_end}
use Rattle.tableau.proofs.products.wide_sum.Goals as goal

pub loop-i-init : goal.loop-i-init
loop-i-init c =
    let a = c.args in
    (omega arith, omega arith, halves_start a.a.now a.b.now)

pub loop-i-preserved : goal.loop-i-preserved
loop-i-preserved c =
    let d = c.divide_wide-halves in
    let x = c.product in
    let l = c.loop-i in
    let a = c.args in (
      omega arith,
      omega arith,
      halves_next l.i l.low l.high d.result.remainder d.result.quotient a.a.now a.b.now
          (omega arith) (omega arith) l.invariant.2
          (d.ensures.1 ∙ ap (λ (z : ℕ). z % 4294967296) x.ensures.0)
          (d.ensures.0 ∙ ap (λ (z : ℕ). z / 4294967296) x.ensures.0),
    )

pub returns : goal.returns
returns c =
    let a = c.args in
    let l = c.loop-i in
    c.join.ensures
    ∙ ap (λ (z : ℕ). z % a.m)
    (halves_end l.i l.low l.high a.a.now a.b.now (omega arith) (omega arith) l.invariant.2)
