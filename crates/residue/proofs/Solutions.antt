-- The solutions of one congruence a·t = b mod m, for every m ≥ 1. With g the divisor of a and m, a = g·q, m = g·p
-- and b = g·k, and s the cofactor of a, the solutions are the numbers congruent to s·k mod p.
--   solution_divides          where there is a solution, g divides b
--   class_of, solution_of     a solution is congruent to s·k mod p, and such a number is a solution
--   least_is                  the least solution is the remainder of s·k by p
--   describes                 that remainder and p describe the solutions
--   solutions_are, -none      the answer, where g divides b and where it does not
use mathlib.Core.Bool.{false}
use mathlib.Core.Path.{◌≡◌, sym, ◌∙◌}
use Prim.Native.Nat.{ℕ, ◌+◌, ◌*◌, ◌/◌, ◌%◌, ◌<◌}
use native.Mathlib.Nat.{mul_comm, mod-lt, mod-le, div-add-mod, div-add-mod', div-eq_of_eq-mul_right}
use native.Mathlib.Omega.{arith}
use borrow.Author.Tests.{eq-eqb, ne_eqb}
use Rattle.std.specs.Prelude.{None}
use Rattle.residue.specs.Congruent.{Congruent}
use Rattle.residue.specs.Divides.{Divides}
use Rattle.residue.specs.Bezout.{cofactors}
use Rattle.residue.specs.Gcd.{gcd}
use Rattle.residue.specs.Promises.{Describes}
use Rattle.residue.specs.Congruence.{least_of, solves_congruence, solutions_of}
use Rattle.residue.proofs.Bezout.{cofactors_bezout}
use Rattle.residue.proofs.Congruent.{congruent_of, congruent_of_eq, congruent_refl, congruent_sym, congruent_trans, congruent_mul, congruent_mod, congruent_scale, congruent_unscale, congruent_down}
use Rattle.residue.proofs.Divides.{factor_positive, divides_le, divides_congruent, divides_mul}
use Rattle.residue.proofs.First.{first_is}
use Rattle.residue.proofs.Gcd.{gcd_divides_left, gcd_divides_right}
use Rattle.residue.specs.Congruence.{spaced}

pub solution_divides : (a b m u : ℕ) → Congruent m (a * u) b → Divides (gcd a m) b
solution_divides a b m u h =
    divides_congruent (gcd_divides_right a m) (congruent_trans (congruent_of_eq (mul_comm u a)) h)
    (divides_mul u (gcd_divides_left a m))

-- a pair of a and m with the cofactors of their quotients
module _ (a b m g q p s t k : ℕ) (pos : 0 < m) (left : a ≡ g * q) (right : m ≡ g * p)
    (one : Congruent m (s * q + t * p) 1) (divided : b ≡ g * k) where
  divisor_positive : 0 < g
  divisor_positive = factor_positive m g p right pos

  spacing_positive : 0 < p
  spacing_positive = factor_positive m p g (right ∙ mul_comm g p) pos

  inverse : Congruent p (s * q) 1
  inverse = congruent_trans (congruent_of t 0 (omega arith)) (congruent_down p g (right ∙ mul_comm g p) one)

  pub solution_of : (u : ℕ) → Congruent p u (s * k) → Congruent m (a * u) b
  solution_of u h =
      rw right
      (congruent_trans {b = g * (q * u)} (congruent_of_eq (rw left (omega arith)))
      (congruent_trans
      (congruent_scale g
      (congruent_trans (congruent_mul (congruent_refl {a = q}) h)
      (congruent_trans {b = s * q * k} (congruent_of_eq (omega arith))
      (congruent_trans (congruent_mul inverse congruent_refl) (congruent_of_eq {b = k} (omega arith))))))
      (congruent_of_eq (sym divided))))

  pub class_of : (u : ℕ) → Congruent m (a * u) b → Congruent p u (s * k)
  class_of u h =
      congruent_trans {b = 1 * u} (congruent_of_eq (omega arith))
      (congruent_trans (congruent_mul (congruent_sym inverse) congruent_refl)
      (congruent_trans {b = s * (q * u)} (congruent_of_eq (omega arith)) (congruent_mul congruent_refl quotients)))
    where
      quotients : Congruent p (q * u) k
      quotients =
          congruent_unscale g divisor_positive
          (rw right at (congruent_trans {a = g * (q * u)} {b = a * u} (congruent_of_eq (rw left (omega arith)))
          (congruent_trans h (congruent_of_eq divided))))

  smaller_fails : (u : ℕ) → u < s * k % p → solves_congruence a b m u ≡ false
  smaller_fails u l =
      ne_eqb (a * u % m) (b % m)
      (λ (e : a * u % m ≡ b % m). absurd (omega (arith, (class_of u (record { same = e })).same, mod-le u p)))

  least-below : s * k % p < m
  least-below =
      omega (
        arith,
        mod-lt (s * k) spacing_positive,
        divides_le {d = p} pos (record { quotient = g; eq = right ∙ mul_comm g p }),
      )

  pub least_is : least_of a b m ≡ s * k % p
  unfolding least_of
  least_is =
      first_is (solves_congruence a b m) (s * k % p)
      (eq-eqb _ _ (solution_of (s * k % p) (congruent_mod p (s * k))).same) smaller_fails m 0 (omega arith)
      (omega (arith, least-below))

  multiple_more : (t r j : ℕ) → Congruent p t r → Congruent p (t + j * p) r
  multiple_more t r j h = congruent_trans (congruent_of 0 j (omega arith)) h

  pub describes : Describes (λ u. Congruent m (a * u) b) m (s * k % p) p
  describes = record {
    solves = solution_of (s * k % p) (congruent_mod p (s * k));
    small = least-below;
    least = λ u h. omega (arith, (class_of u h).same, mod-le u p);
    spaced = λ u h. (u / p, omega (arith, (class_of u h).same, div-add-mod' u p));
    all = λ j. solution_of (s * k % p + j * p) (multiple_more (s * k % p) (s * k) j (congruent_mod p (s * k)));
  }

-- where g divides b, the answer is the remainder and p; where it does not, there is none
module _ (a b m : ℕ) (pos : 0 < m) (divided : b % gcd a m ≡ 0) where
  spacing : m / gcd a m ≡ (cofactors_bezout m a m pos).p
  spacing =
      let z = cofactors_bezout m a m pos in
      div-eq_of_eq-mul_right (factor_positive m (gcd a m) z.p z.right pos) z.right

  quotient_of : b ≡ gcd a m * (b / gcd a m)
  quotient_of = omega (arith, div-add-mod b (gcd a m))

  pub solutions_are : solutions_of a b m ≡ spaced ((cofactors m a m).s * (b / gcd a m) % (m / gcd a m)) (m / gcd a m)
  unfolding solutions_of
  solutions_are =
      let z = cofactors_bezout m a m pos in
      rw (
        eq-eqb (b % gcd a m) 0 divided,
        spacing,
        least_is a b m (gcd a m) z.q z.p (cofactors m a m).s (cofactors m a m).t (b / gcd a m) pos
            z.left z.right z.one quotient_of,
      )

  pub solutions_describe :
      Describes (λ u. Congruent m (a * u) b) m ((cofactors m a m).s * (b / gcd a m) % (m / gcd a m)) (m / gcd a m)
  solutions_describe =
      let z = cofactors_bezout m a m pos in
      rw spacing
      (describes a b m (gcd a m) z.q z.p (cofactors m a m).s (cofactors m a m).t (b / gcd a m) pos
      z.left z.right z.one quotient_of)

pub solutions_none : (a b m : ℕ) → (b % gcd a m ≡ 0 → ⊥) → solutions_of a b m ≡ None
unfolding solutions_of
solutions_none a b m h = rw (ne_eqb (b % gcd a m) 0 h)
