-- `left_over` meets its contract: by the law of Shoup's quotient, with zeros for a second product.
use mathlib.Core.Path.{◌≡◌, sym, ap, ◌∙◌}
use Prim.Native.Nat.{ℕ, ◌+◌, ◌-◌, ◌*◌, ◌/◌, ◌%◌, ◌<◌}
use native.Mathlib.Nat.{zero-div}
use native.Mathlib.Omega.{arith}
use Rattle.residue.proofs.Shoup.{LeftOver, left_over}
use Rattle.residue.proofs.modular.left_over.Goals as goal

-- with x = u·b, y = a·b and z = (x / 2^32)·m
alone : (a : ℕ) {u b m x y z : ℕ} → 0 < m → u ≡ a * 4294967296 / m → b < 4294967296 → x ≡ u * b → y ≡ a * b
    → z ≡ x / 4294967296 * m → LeftOver m 0 y z
alone a {u} {b} {m} {x} {y} {z} pos eu below ex ey ez =
    left_over 0 a b 0 0 {v = 0} {x = x} (omega arith) pos eu (sym (zero-div m)) (omega arith) (omega arith) (omega arith) ez

pub overflow_sub-result : goal.overflow_sub-result
overflow_sub-result c =
    omega (
      arith,
      (alone c.args.a c.requires.0 c.requires.1 (omega arith) c.product.ensures.0
          c.product-2.ensures.0 c.product-3.ensures.0).fits,
    )

pub returns : goal.returns
returns c =
    let y = c.product-2 in
    let z = c.product-3 in
    let left = alone c.args.a c.requires.0 c.requires.1 (omega arith) c.product.ensures.0
    y.ensures.0 z.ensures.0 in
    let e : y.result - z.result ≡ y.result + 0 * c.args.m - z.result = omega arith in
    (ap (λ (k : ℕ). k % c.args.m) e ∙ left.same ∙ ap (λ (k : ℕ). k % c.args.m) y.ensures.0, omega (arith, left.small))
