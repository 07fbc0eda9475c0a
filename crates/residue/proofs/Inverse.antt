-- A reciprocal a·2^32 / m read off the inverse v = (2^64 - 1) / m: it is a·v / 2^32 or one more.
--   inverse_low, inverse_high what is read off is not too large, and at most one too small
--   quotient_is               a number between two multiples of m has the lower one's quotient
use mathlib.Core.Path.{◌≡◌, sym, subst}
use Prim.Native.Nat.{ℕ, ◌+◌, ◌*◌, ◌/◌, ◌≤◌, ◌<◌}
use native.Mathlib.Nat.{div-mul-le_self, lt-mul-div-succ, mul-le-mul_right, le_of_mul-le-mul_left, lt_of_mul-lt-mul_left, le-div_iff_mul-le, div-lt_iff_lt-mul}
use native.Mathlib.Omega.{arith}
use Rattle.residue.specs.Inverse.{inverse_of}

-- v·m reaches up to 2^64 - 1, and (v + 1)·m beyond it
inverse_below : (m v : ℕ) → v ≡ inverse_of m → v * m ≤ 18446744073709551615
inverse_below m v is = subst (λ (k : ℕ). k * m ≤ 18446744073709551615) (sym is) (div-mul-le_self 18446744073709551615 m)

inverse_above : (m v : ℕ) → 0 < m → v ≡ inverse_of m → 18446744073709551615 < (v + 1) * m
inverse_above m v pos is =
    subst (λ (k : ℕ). 18446744073709551615 < (k + 1) * m) (sym is) (omega (arith, lt-mul-div-succ 18446744073709551615 {b = m} pos))

low_of : (a m v q : ℕ) → q * 4294967296 ≤ a * v → v * m ≤ 18446744073709551615 → q * m ≤ a * 4294967296
low_of a m v q h g =
    le_of_mul-le-mul_left {k = 4294967296} (omega (arith, mul-le-mul_right m h, mul-le-mul_right a g)) (omega arith)

high_of : (a m v q : ℕ) → a < m → m < 4294967296 → a * v < (q + 1) * 4294967296 → 18446744073709551615 < (v + 1) * m
    → a * 4294967296 < (q + 2) * m
high_of a m v q small fits h g =
    lt_of_mul-lt-mul_left 4294967296
    (omega (
      arith,
      mul-le-mul_right m h,
      mul-le-mul_right a g,
      mul-le-mul_right {m = a} {n = 4294967296} m (omega arith),
    ))

module _ (a m v : ℕ) (small : a < m) (is : v ≡ inverse_of m) where
  pub inverse_low : a * v / 4294967296 * m ≤ a * 4294967296
  inverse_low =
      low_of a m v (a * v / 4294967296) (div-mul-le_self (a * v) 4294967296)
      (inverse_below m v is)

  pub inverse_high : m < 4294967296 → a * 4294967296 < (a * v / 4294967296 + 2) * m
  inverse_high fits =
      high_of a m v (a * v / 4294967296) small fits (omega (arith, lt-mul-div-succ (a * v) {b = 4294967296} (omega arith)))
      (inverse_above m v (omega arith) is)

pub quotient_is : (x m q : ℕ) → 0 < m → q * m ≤ x → x < (q + 1) * m → q ≡ x / m
quotient_is x m q pos low high =
    omega (arith, (le-div_iff_mul-le pos).1 low, (div-lt_iff_lt-mul {k = m} {x = x} {y = q + 1} pos).1 high)
