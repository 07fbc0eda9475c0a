-- Shoup's product, of two factors s and t: the quotient of s·a + t·b by m is read off the reciprocals s·W / m and t·W / m, without a
-- division by m, where a + b is at most the base W. With e = 0 it is at most one too small, and with e = 1, added to each
-- reciprocal, at most one too large. One product is the case of zeros for t and b.
--   shoup_low, shoup_high   for any base: what is left of s·a + t·b + e·m is not negative, and below 2·m
--   reciprocal_small        for the code's base, 2^32: one more than a reciprocal has 32 bits
--   both_fit                a bound of two products from one of their factors
--   left-over               what is left, as the code computes it, and its remainder
use mathlib.Core.Path.{◌≡◌, ap}
use Prim.Native.Nat.{ℕ, ◌+◌, ◌-◌, ◌*◌, ◌/◌, ◌%◌, ◌≤◌, ◌<◌}
use native.Mathlib.Nat.{div-mul-le_self, lt-mul-div-succ, mul-le-mul_right, le_of_mul-le-mul_left, lt_of_mul-lt-mul_left}
use native.Mathlib.Nat.{div-lt_iff_lt-mul}
use native.Mathlib.Omega.{arith}
use Rattle.residue.proofs.Congruent.{congruent_of}

-- the quotient as it is read off
abbrev shoup : ℕ → ℕ → ℕ → ℕ → ℕ → ℕ → ℕ → ℕ
shoup W e s a t b m = ((s * W / m + e) * a + (t * W / m + e) * b) / W

module _ (W e s a t b m : ℕ) (base : 0 < W) (pos : 0 < m) where
  shoup_low : a + b ≤ W → shoup W e s a t b m * m ≤ s * a + t * b + e * m
  shoup_low small =
      le_of_mul-le-mul_left {k = W}
      (omega (
        arith,
        mul-le-mul_right m (div-mul-le_self ((s * W / m + e) * a + (t * W / m + e) * b) W),
        mul-le-mul_right a (div-mul-le_self (s * W) m),
        mul-le-mul_right b (div-mul-le_self (t * W) m),
        mul-le-mul_right (e * m) small,
      ))
      base

  -- d is what a + b lacks of the base
  shoup_high : (d : ℕ) → a + b + d ≡ W → e ≤ 1 → s * a + t * b + e * m < shoup W e s a t b m * m + 2 * m
  shoup_high d is one =
      lt_of_mul-lt-mul_left W
      (omega (
        arith,
        mul-le-mul_right a (lt-mul-div-succ (s * W) pos),
        mul-le-mul_right b (lt-mul-div-succ (t * W) pos),
        mul-le-mul_right m (lt-mul-div-succ ((s * W / m + e) * a + (t * W / m + e) * b) base),
        mul-le-mul_right (m * d) one,
        ap (λ (k : ℕ). e * m * k) is,
        ap (λ (k : ℕ). m * k) is,
      ))

-- ---- numbers of 32 and 64 bits

pub reciprocal_small : {a u m : ℕ} → a < m → m < 4294967296 → u ≡ a * 4294967296 / m → u + 1 < 4294967296
reciprocal_small {a} {u} {m} small fits is =
    omega (arith, (div-lt_iff_lt-mul {k = m} {x = a * 4294967296} {y = 4294967295} (omega arith)).1 (omega arith))

pub both_fit : (n k l a b : ℕ) → k ≤ n → l ≤ n → a + b ≤ 4294967296 → k * a + l * b ≤ n * 4294967296
both_fit n k l a b small narrow sum =
    omega (arith, mul-le-mul_right a small, mul-le-mul_right b narrow, mul-le-mul_right n sum)

-- what is left of y + e·m when z is taken off
pub record LeftOver (m e y z : ℕ) : Type 0 where
  pub fits : z ≤ y + e * m
  pub small : y + e * m < z + 2 * m
  pub same : (y + e * m - z) % m ≡ y % m

-- with x the sum that the quotient is read off, y = s·a + t·b and z = (x / 2^32)·m
pub left_over : (e s a t b : ℕ) {m u v x y z : ℕ} → e ≤ 1 → 0 < m → u ≡ s * 4294967296 / m → v ≡ t * 4294967296 / m
    → a + b ≤ 4294967296 → x ≡ (u + e) * a + (v + e) * b → y ≡ s * a + t * b → z ≡ x / 4294967296 * m → LeftOver m e y z
left_over e s a t b {m} {u} {v} {x} {y} {z} one pos eu ev sum ex ey ez =
    let q : z ≡ shoup 4294967296 e s a t b m * m = rw (ez, ex, eu, ev) in
    let low = shoup_low 4294967296 e s a t b m (omega arith) pos sum in
    let high = shoup_high 4294967296 e s a t b m (omega arith) pos (4294967296 - (a + b)) (omega arith) one in
    record {
      fits = omega arith;
      small = omega arith;
      same = (congruent_of {m = m} {a = y + e * m - z} {b = y} (x / 4294967296) e (omega arith)).same;
    }
