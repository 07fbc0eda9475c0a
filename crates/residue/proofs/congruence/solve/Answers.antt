-- `solve` meets its contract: the numbers that it computes are those of the laws `solutions_are` and `solutions_none`.
use mathlib.Core.Path.{◌≡◌, sym, ap, ◌∙◌}
use Prim.Native.Nat.{ℕ, ◌*◌, ◌/◌, ◌%◌, ◌<◌}
use native.Mathlib.Nat.{le-div_iff_mul-le}
use native.Mathlib.Omega.{arith}
use Rattle.std.specs.Prelude.{None}
use Rattle.residue.specs.Cofactors.{bezout_of}
use Rattle.residue.specs.Congruence.{solutions_of}
use Rattle.residue.specs.Gcd.{gcd}
use Rattle.residue.specs.declared.extended.Bezout.{Bezout}
use Rattle.residue.proofs.Gcd.{gcd_positive, gcd_le}
use Rattle.residue.proofs.Solutions.{solutions_are, solutions_none}
use Rattle.residue.proofs.congruence.solve.Goals as goal
use Rattle.residue.specs.Congruence.{spaced}

module _ (a b m : ℕ) (z : Bezout) (pos : 0 < m) (is : z ≡ bezout_of m a m) where
  divisor : z.divisor ≡ gcd a m
  unfolding bezout_of
  divisor = ap (λ (w : Bezout). w.divisor) is

  divisor_positive : 0 < z.divisor
  divisor_positive = rw divisor (gcd_positive a m (omega arith))

  spacing : z.p ≡ m / z.divisor
  unfolding bezout_of
  spacing = rw is

  spacing_positive : 0 < z.p
  spacing_positive =
      rw spacing
      ((le-div_iff_mul-le {k = z.divisor} {x = 1} {y = m} divisor_positive).1 (rw divisor (omega (arith, gcd_le a m pos))))

  found_none : (b % z.divisor ≡ 0 → ⊥) → None ≡ solutions_of a b m
  found_none h = sym (solutions_none a b m (rw divisor at h))

  found : (t : ℕ) → b % z.divisor ≡ 0 → t ≡ z.s * (b / z.divisor) % z.p → spaced t z.p ≡ solutions_of a b m
  unfolding bezout_of
  found t h e = rw (e, is) (sym (solutions_are a b m pos (rw divisor at h)))

pub divide-right-requires : goal.divide-right-requires
divide-right-requires c =
    let p = c.args in
    divisor_positive p.a p.b p.m c.cofactors-bezout.result (omega arith) c.cofactors-bezout.ensures.value

pub returns-then-right-ne0 : goal.returns-then-right-ne0
returns-then-right-ne0 c =
    let z = c.cofactors-bezout in
    let p = c.args in
    found_none p.a p.b p.m z.result (omega arith) z.ensures.value (rw c.divide-right.ensures.1 at c.if-right-ne0.true)

pub mul-least-requires : goal.mul-least-requires
mul-least-requires c =
    let z = c.cofactors-bezout in
    let p = c.args in
    omega (arith, spacing_positive p.a p.b p.m z.result (omega arith) z.ensures.value)

pub returns : goal.returns
returns c =
    let z = c.cofactors-bezout in
    let p = c.args in
    found p.a p.b p.m z.result (omega arith) z.ensures.value c.mul-least.result
    (sym c.divide-right.ensures.1 ∙ c.if-right-ne0.false)
    (c.mul-least.ensures.0 ∙ ap (λ (q : ℕ). z.result.s * q % z.result.p) c.divide-right.ensures.0)
