-- `relating::common_divisor` meets its contract. The invariant: with the entries of the vectors that are left, the divisor so far has the
-- common divisor of all.
use mathlib.Core.Path.{ap, ◌∙◌}
use native.Mathlib.Omega.{arith}
use Rattle.residue.specs.Chain.{chain_of}
use Rattle.residue.specs.declared.euclid.Chain.{Chain}
use Rattle.system.proofs.Entries.{divisor_less, divisor_none}
use Rattle.system.proofs.relating.common_divisor.Goals as goal

pub loop-vector-preserved : goal.loop-vector-preserved
unfolding chain_of
loop-vector-preserved c =
    let a = c.args in
    let l = c.loop-vector in
    let cut = c.in-Some.ensures.steps.1 in (
      c.in-Some.ensures.steps.0 ∙ l.invariant.0,
      divisor_less a.k a.j (omega arith) _ l.divisor _ _ cut.0 (cut.1 ∙ l.invariant.0) _
          (ap (λ (x : Chain). x.divisor) c.gcd-divisor.ensures.value)
          ∙ l.invariant.1,
    )

pub returns : goal.returns
returns c =
    let a = c.args in
    let l = c.loop-vector in
    divisor_none a.k a.j (omega arith) _ l.divisor (omega (arith, c.in-None.ensures.steps.1.0, l.invariant.0)) ∙ l.invariant.1
