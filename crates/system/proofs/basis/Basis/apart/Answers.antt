-- `Basis::apart` meets its contract. The invariant: the last place apart is the last one of the first j. The measure
-- is j.
use Prim.Native.Nat.{◌+◌, ◌-◌}
use native.Mathlib.Omega.{arith}
use borrow.Author.Rules.{rules}
use borrow.Author.Tests.{not-true, not-false}
use Rattle.tableau.specs.Packed.{rows}
use Rattle.system.proofs.Rows.{triangle-within}
use Rattle.system.proofs.Pivots.{apart_start, apart_stop, apart_on}
use Rattle.system.proofs.basis.Basis.apart.Goals as goal

pub loop-j-init : goal.loop-j-init
loop-j-init c =
    let a = c.args in
    let b = a.self.now in
    let B = rows (b.n + 1) (b.n + 1) b.numbers.now in
    let C = rows b.n b.n a.steps.now in
    (search rules, apart_start b.m b.n B C)

pub pivot_at-of_step-requires : goal.pivot_at-of_step-requires
pivot_at-of_step-requires c =
    let n = c.args.self.now.n in
    let j = c.loop-j.j in
    let few = c.args.self.now.readable.unknowns in
    (omega arith, omega (arith, few), omega (arith, triangle-within n (j - 1) n (omega arith) (omega arith)))

pub returns-then-not-product_is : goal.returns-then-not-product_is
returns-then-not-product_is c =
    let a = c.args in
    let b = a.self.now in
    let l = c.loop-j in
    let of-step = c.pivot_at-of_step in
    let of-equation = c.pivot-of_equation in
    let test = c.product_is in
    let B = rows (b.n + 1) (b.n + 1) b.numbers.now in
    let C = rows b.n b.n a.steps.now in
    apart_stop b.m b.n B C l.j _ test.result of-step.result of-equation.result (omega arith) l.invariant.1
    test.ensures (of-step.ensures b.n (omega arith)) of-equation.ensures.1
    (not-true _ c.if-not-product_is.true-raw)

pub loop-j-preserved : goal.loop-j-preserved
loop-j-preserved c =
    let a = c.args in
    let b = a.self.now in
    let l = c.loop-j in
    let of-step = c.pivot_at-of_step in
    let of-equation = c.pivot-of_equation in
    let test = c.product_is in
    let B = rows (b.n + 1) (b.n + 1) b.numbers.now in
    let C = rows b.n b.n a.steps.now in (
      search rules,
      apart_on b.m b.n B C l.j _ test.result of-step.result of-equation.result (omega arith) l.invariant.1
          test.ensures (of-step.ensures b.n (omega arith)) of-equation.ensures.1
          (not-false _ c.if-not-product_is.false-raw),
    )
