-- Laws about divisibility, and what follows where a divisor divides the modulus.
--   factor_positive                        a factor of a positive number is positive
--   divides_refl, divides_trans            every number divides itself; a divisor's divisors divide
--   divides_zero                           every number divides 0
--   divides_mul, divides_add               multiples and sums of multiples are multiples
--   divides_remainder                      so is the remainder of one multiple by another
--   divides_le, divides_antisym            a divisor is no larger; divisors of each other are equal
--   factor_or_below, cofactor_below        of m = d·e: d is m or below it; e is below m where d is above 1
--   factor_cancel                          and d·x ≡ 0 (mod m) says that x ≡ 0 (mod e)
--   divides_of_congruent, congruent_of_divides   d | n is n ≡ 0 (mod d)
--   divides_of_remainder, remainder_of_divides   and says that the remainder is 0
--   divides_congruent                      where d | m: of two numbers congruent mod m, d divides both or none
use mathlib.Core.Path.{◌≡◌, sym, ap, ◌∙◌, subst}
use mathlib.Core.Logic.{◌⊎◌}
use Prim.Native.Nat.{ℕ, zero, suc, ◌+◌, ◌*◌, ◌/◌, ◌%◌, ◌≤◌, ◌<◌}
use native.Mathlib.Nat.{mul_comm, mod-mod, zero-lt-suc, le_antisymm, eq-or-lt_of_le, mul-le-mul_right}
use native.Mathlib.Omega.{arith}
use Rattle.residue.specs.Congruent.{Congruent}
use Rattle.residue.specs.Divides.{Divides}
use Rattle.residue.proofs.Congruent.{congruent_of, congruent_of_eq, congruent_zero, congruent_sym, congruent_trans, congruent_of_remainder, remainder_of_congruent, congruent_unscale, congruent_down}

pub factor_positive : (d g q : ℕ) → d ≡ g * q → 0 < d → 0 < g
factor_positive d zero q h pos = omega (arith, h)
factor_positive d (suc g) q h pos = zero-lt-suc g

pub divides_refl : (n : ℕ) → Divides n n
divides_refl n = record { quotient = 1; eq = omega arith }

pub divides_trans : {c d n : ℕ} → Divides c d → Divides d n → Divides c n
divides_trans {c} h g = record {
  quotient = h.quotient * g.quotient;
  eq = omega (arith, g.eq, ap (λ (z : ℕ). z * g.quotient) h.eq);
}

pub divides_zero : (d : ℕ) → Divides d 0
divides_zero d = record { quotient = 0; eq = omega arith }

pub divides_mul : {d n : ℕ} (k : ℕ) → Divides d n → Divides d (k * n)
divides_mul k h = record { quotient = k * h.quotient; eq = omega (arith, ap (λ (z : ℕ). k * z) h.eq) }

pub divides_add : {d a b : ℕ} → Divides d a → Divides d b → Divides d (a + b)
divides_add h g = record { quotient = h.quotient + g.quotient; eq = omega (arith, h.eq, g.eq) }

pub divides_le : {d n : ℕ} → 0 < n → Divides d n → d ≤ n
divides_le {d} {n} pos h = go d n h.quotient pos h.eq
  where
    go : (d n q : ℕ) → 0 < n → n ≡ d * q → d ≤ n
    go d n zero pos e = absurd (omega (arith, e))
    go d n (suc q) pos e = omega (arith, e)

pub divides_antisym : {a b : ℕ} → Divides a b → Divides b a → a ≡ b
divides_antisym {a} {b} h g = go a b h g
  where
    go : (a b : ℕ) → Divides a b → Divides b a → a ≡ b
    go zero b h g = omega (arith, h.eq)
    go (suc a) zero h g = omega (arith, g.eq)
    go (suc a) (suc b) h g = le_antisymm (divides_le (zero-lt-suc b) h) (divides_le (zero-lt-suc a) g)

pub factor_or_below : (m d e : ℕ) → 0 < m → m ≡ d * e → (d ≡ m) ⊎ (d < m)
factor_or_below m d e pos h = eq-or-lt_of_le (divides_le pos (record { quotient = e; eq = h }))

pub cofactor_below : (m d e : ℕ) → 0 < m → m ≡ d * e → 1 < d → e < m
cofactor_below m d e pos h lt =
    omega (arith, factor_positive m e d (h ∙ mul_comm d e) pos, mul-le-mul_right {m = 2} {n = d} e lt)

pub factor_cancel : {m : ℕ} (d e x : ℕ) → 0 < m → m ≡ d * e → Congruent m (d * x) 0 → Congruent e x 0
factor_cancel {m} d e x pos h c =
    congruent_unscale d (factor_positive m d e h pos)
    (subst (λ (z : ℕ). Congruent z (d * x) (d * 0)) h (congruent_trans c (congruent_of_eq (omega arith))))

pub divides_of_congruent : {d n : ℕ} → Congruent d n 0 → Divides d n
divides_of_congruent {d} {n} h = record { quotient = n / d; eq = congruent_zero h ∙ mul_comm (n / d) d }

pub congruent_of_divides : {d n : ℕ} → Divides d n → Congruent d n 0
congruent_of_divides {d} h = congruent_of 0 h.quotient (omega (arith, h.eq))

pub divides_of_remainder : {d n : ℕ} → n % d ≡ 0 → Divides d n
divides_of_remainder h = divides_of_congruent (congruent_of_remainder h)

pub remainder_of_divides : {d n : ℕ} → Divides d n → n % d ≡ 0
remainder_of_divides h = remainder_of_congruent (congruent_of_divides h)

pub divides_congruent : {d m a b : ℕ} → Divides d m → Congruent m a b → Divides d a → Divides d b
divides_congruent {d} h c g =
    divides_of_congruent
    (congruent_trans (congruent_sym (congruent_down d h.quotient h.eq c)) (congruent_of_divides g))

pub divides_remainder : {d a b : ℕ} → Divides d a → Divides d b → Divides d (a % b)
divides_remainder {d} {a} {b} h g =
    divides_congruent g (record { same = same }) h
  where
    same : a % b ≡ (a % b) % b
    same = sym (mod-mod a b)
