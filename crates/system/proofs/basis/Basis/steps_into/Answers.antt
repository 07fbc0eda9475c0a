-- `Basis::steps_into` meets its contract. The invariant: what is written and the steps of the first i columns are all
-- steps, and behind what is written the slice is as it was. The measure is i.
use mathlib.Core.Path.{sym, ap, ◌∙◌}
use mathlib.Core.Bool.{Bool, true, false, cond}
use Prim.Native.Nat.{ℕ, ◌+◌, ◌≤◌}
use native.Mathlib.Nat.{add-zero}
use native.Mathlib.Omega.{arith}
use borrow.Author.Rules.{rules}
use Rattle.system.specs.Model.Reading.{rows_in}
use Rattle.system.proofs.Laid.{left-all, left_less}
use Rattle.system.proofs.basis.Basis.steps_into.Goals as goal

abbrev written : ℕ → Bool → ℕ
written count some = count + cond some 1 0

one_at_most : (some : Bool) → cond some 1 0 ≤ 1
one_at_most true = omega arith
one_at_most false = omega arith

pub loop-i-init : goal.loop-i-init
loop-i-init c =
    let a = c.args in
    let b = a.self.now in
    (search rules, left-all b.m b.n (rows_in b.n b.numbers.now) a.out.now)

-- a step is written
pub loop-i-preserved-then-step_into : goal.loop-i-preserved-then-step_into
loop-i-preserved-then-step_into c =
    let l = c.loop-i in
    let a = c.args in
    let b = a.self.now in (
      search rules,
      left_less b.m b.n l.i l.count _ _ (rows_in b.n b.numbers.now) (omega arith) (one_at_most c.step_into.result)
          (ap (written l.count) (sym c.if-step_into.true)) l.invariant.1 c.step_into.ensures,
    )

-- there is none
pub loop-i-preserved : goal.loop-i-preserved
loop-i-preserved c =
    let l = c.loop-i in
    let a = c.args in
    let b = a.self.now in (
      search rules,
      left_less b.m b.n l.i l.count _ _ (rows_in b.n b.numbers.now) (omega arith) (one_at_most c.step_into.result)
          (sym (add-zero l.count) ∙ ap (written l.count) (sym c.if-step_into.false)) l.invariant.1 c.step_into.ensures,
    )
