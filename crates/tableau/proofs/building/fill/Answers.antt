-- `building::fill` meets its contract.
use mathlib.Core.Path.{◌∙◌}
use native.Mathlib.Omega.{arith}
use Rattle.tableau.proofs.Packed.{length_zeros}
use Rattle.tableau.proofs.Filled.{filled_start, filled_asks, filled_next, filled_end}
use Rattle.tableau.proofs.building.fill.Goals as goal

pub loop-i-init : goal.loop-i-init
loop-i-init c =
    let a = c.args in
    let o = c.set_pivots in
    let e = c.enumerate-i-items.ensures in
    rw (c.into_iter-i-iterator.ensures.into_iter_gives, e.source, e.count, c.chunks_exact.ensures.rest) (
      c.chunks_exact.ensures.size,
      filled_start a.plain a.m a.n a.k a.numbers.now o.new.basis c.requires.loadable.0 c.requires.basis_value.1
          (o.auto.basis ∙ length_zeros _ c.requires.basis_value.0) o.ensures,
    )

pub insert_line-requires : goal.insert_line-requires
insert_line-requires c =
    let l = c.loop-i in
    let B = l.invariant.1 in
    let cut = c.in-Some.ensures.steps.0.1 in
    let long = cut.1 ∙ l.invariant.0 in
    rw c.new-modulus.ensures record {
      loadable = (c.requires.loadable.0, omega arith, omega arith);
      basis_len = (B.size, B.kept);
      numbers_len = (long, filled_asks _ _ _ _ _ _ _ _ _ _ B cut.0 long);
    }

pub loop-i-preserved : goal.loop-i-preserved
loop-i-preserved c =
    let l = c.loop-i in
    let o = c.insert_line in
    let steps = c.in-Some.ensures.steps in
    let cut = steps.0.1 in (
      steps.0.0 ∙ l.invariant.0,
      rw steps.2 (filled_next _ _ _ _ _ _ _ _ _ _ l.invariant.1 cut.0 (cut.1 ∙ l.invariant.0) o.new.basis o.auto.basis
          (rw (← steps.1) (rw c.new-modulus.ensures at o.ensures.basis_after)) (rw c.new-modulus.ensures at o.ensures.kept)),
    )

pub returns : goal.returns
returns c =
    let l = c.loop-i in
    let B = l.invariant.1 in
    let short = c.in-None.ensures.steps.0.1.0 in
    record { basis_after = filled_end _ _ _ _ _ _ _ _ B (omega (arith, short, l.invariant.0)); kept = B.kept }
