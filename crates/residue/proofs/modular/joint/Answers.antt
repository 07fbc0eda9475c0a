-- `joint` meets its contract: by the law of Shoup's quotient. For m of up to 31 bits the sum fits 64 bits with 2^32 added.
use mathlib.Core.Path.{◌≡◌, ap, ap₂, ◌∙◌}
use Prim.Native.Nat.{ℕ, ◌+◌, ◌-◌, ◌*◌, ◌/◌, ◌%◌, ◌≤◌, ◌<◌}
use native.Mathlib.Omega.{arith}
use Rattle.residue.proofs.Shoup.{reciprocal_small, both_fit, LeftOver, left_over}
use Rattle.residue.proofs.modular.joint.Goals as goal

-- k and l are the products that the quotient is read off, y and w those that are added
rest : (s a t b : ℕ) {m u v k l y w z : ℕ} → s < m → u ≡ s * 4294967296 / m → v ≡ t * 4294967296 / m → a + b ≤ 4294967296
    → k ≡ (u + 1) * a → l ≡ (v + 1) * b → y ≡ s * a → w ≡ t * b → z ≡ (k + l) / 4294967296 * m → LeftOver m 1 (y + w) z
rest s a t b small eu ev sum ek el ey ew ez =
    left_over 1 s a t b (omega arith) (omega arith) eu ev sum (ap₂ ◌+◌ ek el) (ap₂ ◌+◌ ey ew) ez

pub overflow_add-quotient : goal.overflow_add-quotient
overflow_add-quotient c =
    let p = c.requires in
    let z = c.args in
    let u = reciprocal_small p.0 (omega arith) p.1 in
    let v = reciprocal_small p.2 (omega arith) p.3 in
    omega (
      arith,
      both_fit 4294967295 (z.u + 1) (z.v + 1) z.a z.b (omega arith) (omega arith) p.4,
      c.product.ensures.0,
      c.product-2.ensures.0,
    )

pub overflow_cast-quotient : goal.overflow_cast-quotient
overflow_cast-quotient c = omega (arith, overflow_add-quotient c)

pub overflow_sub-sum : goal.overflow_sub-sum
overflow_sub-sum c =
    let left = rest c.args.s c.args.a c.args.t c.args.b c.requires.0 c.requires.1 c.requires.3 c.requires.4
    c.product.ensures.0 c.product-2.ensures.0 c.product-3.ensures.0
    c.product-4.ensures.0 c.product-5.ensures.0 in
    omega (arith, left.fits)

pub lift-requires : goal.lift-requires
lift-requires c =
    let left = rest c.args.s c.args.a c.args.t c.args.b c.requires.0 c.requires.1 c.requires.3 c.requires.4
    c.product.ensures.0 c.product-2.ensures.0 c.product-3.ensures.0
    c.product-4.ensures.0 c.product-5.ensures.0 in
    (omega (arith, left.fits), omega (arith, left.small), c.requires.5)

pub returns : goal.returns
returns c =
    let y = c.product-3 in
    let w = c.product-4 in
    let off = c.product-5 in
    let left = rest c.args.s c.args.a c.args.t c.args.b c.requires.0 c.requires.1 c.requires.3 c.requires.4
    c.product.ensures.0 c.product-2.ensures.0 y.ensures.0 w.ensures.0 off.ensures.0 in
    let e : y.result + w.result + 4294967296 - off.result + c.args.m - 4294967296
    ≡ y.result + w.result + 1 * c.args.m - off.result = omega (arith, left.fits) in (
      c.lift.ensures.0 ∙ ap (λ (k : ℕ). k % c.args.m) e ∙ left.same
          ∙ ap (λ (k : ℕ). k % c.args.m) (ap₂ ◌+◌ y.ensures.0 w.ensures.0),
      c.lift.ensures.1,
    )
