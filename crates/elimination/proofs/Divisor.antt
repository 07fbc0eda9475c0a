-- The common divisor of a number and a list of numbers.
--   divisor_first, divisor_dot   it divides the number, and every sum of multiples of the others
--   Summed, divisor_summed       every multiple of it is, mod m, a sum of multiples of the number and the others
--   divisor_one                  with m it is 1 exactly if some sum of multiples of the others is -1 mod m
use mathlib.Core.Path.{◌≡◌, ap}
use mathlib.Core.Logic.{◌↔◌}
use mathlib.Core.List.{List, [], ◌∷◌}
use Prim.Native.Nat.{ℕ, ◌+◌, ◌*◌, ◌<◌}
use native.Mathlib.Omega.{arith}
use Rattle.residue.specs.Congruent.{Congruent}
use Rattle.residue.specs.Divides.{Divides}
use Rattle.residue.specs.Gcd.{gcd}
use Rattle.residue.specs.Negative.{negative}
use Rattle.residue.specs.Bezout.{cofactors}
use Rattle.residue.proofs.Congruent.{congruent_of, congruent_of_eq, congruent_refl, congruent_sym, congruent_trans, congruent_add, congruent_mul, congruent_cancel}
use Rattle.residue.proofs.Divides.{divides_refl, divides_trans, divides_zero, divides_add, divides_antisym, divides_of_congruent, congruent_of_divides, divides_congruent}
use Rattle.residue.proofs.Negative.{negative_opposite}
use Rattle.residue.proofs.Bezout.{Bezout, cofactors_bezout}
use Rattle.residue.proofs.Gcd.{gcd_divides_left, gcd_divides_right}
use Rattle.equations.specs.Equation.{dot}
use Rattle.elimination.specs.Relations.{divisor_with}

pub divisor_first : (d : ℕ) (xs : List ℕ) → Divides (divisor_with d xs) d
divisor_first d [] = divides_refl d
divisor_first d (x ∷ xs) = divides_trans (divisor_first (gcd x d) xs) (gcd_divides_right x d)

pub divisor_dot : (d : ℕ) (xs us : List ℕ) → Divides (divisor_with d xs) (dot xs us)
divisor_dot d [] us = divides_zero d
divisor_dot d (x ∷ xs) [] = divides_zero (divisor_with d (x ∷ xs))
divisor_dot d (x ∷ xs) (u ∷ us) = divides_add multiple (divisor_dot (gcd x d) xs us)
  where
    multiple : Divides (divisor_with (gcd x d) xs) (x * u)
    multiple =
        divides_trans (divisor_first (gcd x d) xs)
        (divides_trans (gcd_divides_left x d) (record { quotient = u; eq = omega arith }))

-- a·g by the cofactors of g
cofactors-sum : (m x d g s t : ℕ) → Bezout m x d g s t → (a r : ℕ) → Congruent m (a * t * d + (x * (a * s) + r)) (a * g + r)
cofactors-sum m x d g s t z a r =
    congruent_trans {b = (s * z.q + t * z.p) * (a * g) + r}
    (congruent_of_eq (omega (arith, ap (λ (y : ℕ). a * t * y) z.right, ap (λ (y : ℕ). y * (a * s)) z.left)))
    (congruent_trans (congruent_add (congruent_mul z.one (congruent_refl {a = a * g})) (congruent_refl {a = r}))
    (congruent_of_eq (omega arith)))

abbrev pub Summed : ℕ → ℕ → List ℕ → ℕ → Type 0
Summed m d xs c = (a : ℕ) × (us : List ℕ) × Congruent m (a * d + dot xs us) c

module _ (m : ℕ) (pos : 0 < m) where
  pub divisor_summed : (d : ℕ) (xs : List ℕ) (c : ℕ) → Summed m d xs (c * divisor_with d xs)
  divisor_summed d [] c = (c, [], congruent_of_eq (omega arith))
  divisor_summed d (x ∷ xs) c =
      let (a, us, is) = divisor_summed (gcd x d) xs c in
      let s = (cofactors m x d).s in
      let t = (cofactors m x d).t in
      (a * t, a * s ∷ us, congruent_trans (cofactors-sum m x d (gcd x d) s t (cofactors_bezout m x d pos) a (dot xs us)) is)

  pub divisor_one : (xs : List ℕ) → (divisor_with m xs ≡ 1) ↔ ((us : List ℕ) × Congruent m (dot xs us + 1) 0)
  divisor_one xs = (summed, λ (us, minus). one us minus)
    where
      g : ℕ
      g = divisor_with m xs

      summed : g ≡ 1 → (us : List ℕ) × Congruent m (dot xs us + 1) 0
      summed h =
          let (a, us, is) = divisor_summed m xs (negative m 1) in (
            us,
            congruent_trans (congruent_of {b = a * m + dot xs us + 1} a 0 (omega arith))
                (congruent_trans (congruent_add is (congruent_refl {a = 1}))
                (congruent_trans (congruent_of_eq {b = negative m 1 + 1} (omega (arith, ap (λ (z : ℕ). negative m 1 * z) h)))
                (negative_opposite m 1 pos))),
          )

      -- the divisor divides the sum and the next number
      one : (us : List ℕ) → Congruent m (dot xs us + 1) 0 → g ≡ 1
      one us minus =
          let next = divides_congruent (divisor_first m xs) (congruent_sym minus) (divides_zero g) in
          divides_antisym
          (divides_of_congruent
          (congruent_cancel {b = 0} (dot xs us)
          (congruent_trans {b = dot xs us + 1} (congruent_of_eq (omega arith))
          (congruent_trans (congruent_of_divides next)
          (congruent_trans (congruent_sym (congruent_of_divides (divisor_dot m xs us))) (congruent_of_eq (omega arith)))))))
          (record { quotient = g; eq = omega arith })
