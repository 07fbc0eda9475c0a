-- `reciprocal` meets its contract: the rest tells whether what was read off is one too small.
use mathlib.Core.Path.{◌≡◌, refl, sym, ap, ◌∙◌, subst}
use Prim.Native.Nat.{ℕ, ◌+◌, ◌*◌, ◌/◌, ◌≤◌, ◌<◌}
use native.Mathlib.Omega.{arith}
use Rattle.residue.specs.Inverse.{inverse_of}
use Rattle.residue.proofs.Inverse.{inverse_low, inverse_high, quotient_is}
use Rattle.residue.proofs.modular.reciprocal.Goals as goal

-- w is a, v the inverse of m, q was read off, and p is q·m
module _ (a m v w q p : ℕ) (small : a < m) (narrow : m < 4294967296) (is : v ≡ inverse_of m) (e : w ≡ a) (read : q ≡ w * v / 4294967296)
    (times : p ≡ q * m) where
  same : q ≡ a * v / 4294967296
  same = read ∙ ap (λ (k : ℕ). k * v / 4294967296) e

  low : q * m ≤ a * 4294967296
  low = subst (λ (k : ℕ). k * m ≤ a * 4294967296) (sym same) (inverse_low a m v small is)

  high : a * 4294967296 < (q + 2) * m
  high = subst (λ (k : ℕ). a * 4294967296 < (k + 2) * m) (sym same) (inverse_high a m v small is narrow)

  taken_off : p ≤ a * 4294967296
  taken_off = omega (arith, low, times)

  exact : a * 4294967296 < p + m → q ≡ a * 4294967296 / m
  exact h = quotient_is (a * 4294967296) m q (omega arith) low (omega (arith, times))

  one-small : p + m ≤ a * 4294967296 → q + 1 ≡ a * 4294967296 / m
  one-small h = quotient_is (a * 4294967296) m (q + 1) (omega arith) (omega (arith, times)) (omega (arith, high))

pub overflow_sub-rest : goal.overflow_sub-rest
overflow_sub-rest c =
    let a = c.args in
    let w = c.wide in
    let q = w.result * a.inverse / 4294967296 in
    omega (
      arith,
      taken_off a.a a.m a.inverse w.result q c.product.result c.requires.0 (omega arith) c.requires.1 w.ensures refl
          c.product.ensures.0,
    )

pub returns-then-rest-wide : goal.returns-then-rest-wide
returns-then-rest-wide c =
    let a = c.args in
    let w = c.wide in
    let p = c.product in
    let q = w.result * a.inverse / 4294967296 in
    let t = taken_off a.a a.m a.inverse w.result q p.result c.requires.0 (omega arith) c.requires.1 w.ensures refl
    p.ensures.0 in
    exact a.a a.m a.inverse w.result q p.result c.requires.0 (omega arith) c.requires.1 w.ensures refl
    p.ensures.0 (omega (arith, t))

pub returns-else-rest-wide : goal.returns-else-rest-wide
returns-else-rest-wide c =
    let a = c.args in
    let w = c.wide in
    let p = c.product in
    let q = w.result * a.inverse / 4294967296 in
    let t = taken_off a.a a.m a.inverse w.result q p.result c.requires.0 (omega arith) c.requires.1 w.ensures refl
    p.ensures.0 in
    one-small a.a a.m a.inverse w.result q p.result c.requires.0 (omega arith) c.requires.1 w.ensures refl
    p.ensures.0 (omega (arith, t))
