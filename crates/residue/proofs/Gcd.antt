-- The divisor of Euclid's chain is the greatest common divisor.
--   gcd_divides_left, gcd_divides_right   it divides both
--   gcd_greatest                          every common divisor divides it
--   gcd_positive                          it is positive unless both are 0
--   gcd_le                                it is no larger than b, for b > 0
--   gcd_comm, gcd_of_divisor              gcd(a,b) = gcd(b,a); gcd(d,n) = d where d divides n
--   divisions_le                          there are at most b divisions; `lame` says more
use mathlib.Core.Path.{◌≡◌}
use Prim.Native.Nat.{ℕ, suc, ◌+◌, ◌%◌, ◌≤◌, ◌<◌}
use native.Mathlib.Nat.{zero-lt-suc}
use native.Mathlib.Omega.{arith}
use Rattle.residue.specs.Divides.{Divides}
use Rattle.residue.specs.Counted.Euclid.{remainder_le}
use Rattle.residue.specs.Gcd.{gcd, gcd-zero, gcd-step, divisions, divisions-zero, divisions-step}
use Rattle.residue.proofs.Bezout.{cofactors_bezout}
use Rattle.residue.proofs.Divides.{divides_refl, divides_le, divides_antisym, divides_remainder, factor_positive}
use Rattle.residue.proofs.Induction.{euclid_induction}

pub gcd_divides_left : (a b : ℕ) → Divides (gcd a b) a
gcd_divides_left a b = let z = cofactors_bezout 1 a b (zero-lt-suc 0) in record { quotient = z.q; eq = z.left }

pub gcd_divides_right : (a b : ℕ) → Divides (gcd a b) b
gcd_divides_right a b = let z = cofactors_bezout 1 a b (zero-lt-suc 0) in record { quotient = z.p; eq = z.right }

pub gcd_greatest : (a b c : ℕ) → Divides c a → Divides c b → Divides c (gcd a b)
gcd_greatest a b c = euclid_induction (λ a b. Divides c a → Divides c b → Divides c (gcd a b)) last next a b
  where
    last : (a : ℕ) → Divides c a → Divides c 0 → Divides c (gcd a 0)
    last a h g = rw (gcd-zero a) h

    next : (a b : ℕ) → (Divides c (suc b) → Divides c (a % suc b) → Divides c (gcd (suc b) (a % suc b)))
        → Divides c a → Divides c (suc b) → Divides c (gcd a (suc b))
    next a b ih h g = rw (gcd-step a (suc b) (zero-lt-suc b)) (ih g (divides_remainder h g))

pub gcd_positive : (a b : ℕ) → 0 < a + b → 0 < gcd a b
gcd_positive a b h =
    let l = gcd_divides_left a b in let r = gcd_divides_right a b in
    factor_positive (a + b) (gcd a b) (l.quotient + r.quotient) (omega (arith, l.eq, r.eq)) h

pub gcd_le : (a b : ℕ) → 0 < b → gcd a b ≤ b
gcd_le a b h = divides_le h (gcd_divides_right a b)

pub gcd_comm : (a b : ℕ) → gcd a b ≡ gcd b a
gcd_comm a b =
    divides_antisym (gcd_greatest b a (gcd a b) (gcd_divides_right a b) (gcd_divides_left a b))
    (gcd_greatest a b (gcd b a) (gcd_divides_right b a) (gcd_divides_left b a))

pub gcd_of_divisor : {d n : ℕ} → Divides d n → gcd d n ≡ d
gcd_of_divisor {d} {n} h = divides_antisym (gcd_divides_left d n) (gcd_greatest d n d (divides_refl d) h)

pub divisions_le : (a b : ℕ) → divisions a b ≤ b
divisions_le = euclid_induction (λ a b. divisions a b ≤ b) last next
  where
    last : (a : ℕ) → divisions a 0 ≤ 0
    last a = omega (arith, divisions-zero a)

    next : (a b : ℕ) → divisions (suc b) (a % suc b) ≤ a % suc b → divisions a (suc b) ≤ suc b
    next a b h = omega (arith, divisions-step a (suc b) (zero-lt-suc b), remainder_le a b)
