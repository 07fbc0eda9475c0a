-- Lamé's theorem: Euclid's chain makes at most five divisions for each decimal digit of the smaller number, and one
-- more where that number comes first. Where the first number is the larger one, k + 1 divisions need a second number of
-- at least the Fibonacci number F(k + 2), and F(5·d + 2) ≥ 10^d.
use mathlib.Core.Path.{◌≡◌, refl}
use Prim.Native.Nat.{ℕ, zero, suc, ◌+◌, ◌*◌, ◌/◌, ◌%◌, ◌^◌, min, ◌≤◌, ◌<◌, zero-le}
use native.Mathlib.Nat.{div-add-mod', mod-lt, zero-lt-suc, le_refl, le_of_lt, le-div_iff_mul-le, mul-le-mul_right, mod-eq_of_lt, mod_self, min-eq_left, min-eq_right, pow-succ'}
use native.Mathlib.Decide.{dec_le, dec_lt}
use native.Mathlib.Omega.{arith}
use native.Mathlib.Numerals.{add-one}
use Rattle.residue.specs.Digits.{digits, digits-zero, digits_step}
use Rattle.residue.specs.Gcd.{divisions, divisions-zero, divisions-step}
use Rattle.residue.proofs.Induction.{euclid_induction}

abbrev fib : ℕ → ℕ
fib zero = 0
fib (suc zero) = 1
fib (suc (suc n)) = fib n + fib (suc n)

fib_le_next : (n : ℕ) → fib n ≤ fib (suc n)
fib_le_next zero = zero-le
fib_le_next (suc n) = omega arith

-- 5·n, written so that fib computes at it
abbrev five : ℕ → ℕ
five zero = 0
five (suc n) = suc (suc (suc (suc (suc (five n)))))

five_is : (n : ℕ) → five n ≡ 5 * n
five_is zero = refl
five_is (suc n) = omega (arith, five_is n)

fib_power : (d : ℕ) → 10 ^ d ≤ fib (suc (suc (five d)))
fib_power zero = omega arith
fib_power (suc d) = omega (arith, fib_power d, fib_le_next (five d))

-- n has too few digits to reach 10 to their number
digits_power : (n : ℕ) → n < 10 ^ digits n
digits_power n = go n n (le_refl n)
  where
    go : (f n : ℕ) → n ≤ f → n < 10 ^ digits n
    go zero zero h = rw digits-zero (omega arith)
    go zero (suc n) h = absurd (omega arith)
    go (suc f) zero h = rw digits-zero (omega arith)
    go (suc f) (suc n) h =
        rw (digits_step (suc n) (zero-lt-suc n), add-one, pow-succ') (omega (arith, go f (suc n / 10) (omega arith)))

remainder_and_divisor : (a b : ℕ) → suc b < a → a % suc b + suc b ≤ a
remainder_and_divisor a b h =
    omega (
      arith,
      div-add-mod' a (suc b),
      mul-le-mul_right (suc b) ((le-div_iff_mul-le {k = suc b} {x = 1} {y = a} (zero-lt-suc b)).1 (omega arith)),
    )

-- a chain of more than k divisions from a to a smaller b
abbrev Long : ℕ → ℕ → Type 0
Long a b = (k : ℕ) → b < a → k < divisions a b → (fib (suc (suc k)) ≤ b) × (fib (suc (suc (suc k))) ≤ a)

long_chain : (a b : ℕ) → Long a b
long_chain = euclid_induction Long last next
  where
    last : (a : ℕ) → Long a 0
    last a k l h = absurd (omega (arith, divisions-zero a))

    next : (a b : ℕ) → Long (suc b) (a % suc b) → Long a (suc b)
    next a b ih zero l h = (omega arith, omega arith)
    next a b ih (suc k) l h =
        let rest =
        ih k (mod-lt a (zero-lt-suc b)) (omega (arith, divisions-step a (suc b) (zero-lt-suc b))) in
        (rest.1, omega (arith, rest, remainder_and_divisor a b l))

larger_first : (a b : ℕ) → b < a → divisions a b ≤ 5 * digits b
larger_first a b h = go (dec_le (divisions a b) (5 * digits b))
  where
    go : Dec (divisions a b ≤ 5 * digits b) → divisions a b ≤ 5 * digits b
    go (yes l) = l
    go (no n) =
        absurd
        (omega (
          arith,
          long_chain a b (five (digits b)) h (omega (arith, five_is (digits b))),
          fib_power (digits b),
          digits_power b,
        ))

-- "It is at most 5 times the decimal digits of the smaller number, plus 1"
pub lame : (a b : ℕ) → divisions a b ≤ 5 * digits (min a b) + 1
lame a zero = rw divisions-zero zero-le
lame a (suc b) = go (dec_lt a (suc b)) (dec_lt (suc b) a)
  where
    go : Dec (a < suc b) → Dec (suc b < a) → divisions a (suc b) ≤ 5 * digits (min a (suc b)) + 1
    go (yes l) d =
        rw (divisions-step a (suc b) (zero-lt-suc b), mod-eq_of_lt l, min-eq_left (le_of_lt l))
        (omega (arith, larger_first (suc b) a l))
    go (no n) (yes l) = rw (min-eq_right (le_of_lt l)) (omega (arith, larger_first a (suc b) l))
    go (no n) (no n') =
        let e : a ≡ suc b = omega arith in
        rw (divisions-step a (suc b) (zero-lt-suc b), e, mod_self (suc b), divisions-zero (suc b)) (omega arith)
