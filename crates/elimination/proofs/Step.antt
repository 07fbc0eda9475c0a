-- The numbers of a step, whichever way they were found: q = d / g and p = v / g are whole, and the step can be undone.
--   Numbers, step_numbers      what holds of `step_of m d v`
--   row-value, line-value      the values of the new row and the new line, from those of the old ones
use mathlib.Core.Path.{◌≡◌, refl, sym, ap, ◌∙◌}
use mathlib.Core.List.{List}
use mathlib.Core.Bool.{Bool, true, false, cond}
use Prim.Native.Nat.{ℕ, ◌+◌, ◌*◌, ◌/◌, ◌%◌, ◌<◌}
use native.Mathlib.Nat.{mul_comm, mul-one, div-eq_of_eq-mul_right}
use native.Mathlib.Omega.{arith}
use lib.ListN.{length}
use lib.Dec.{eqb, eqb→eq}
use Rattle.residue.specs.Congruent.{Congruent}
use Rattle.residue.specs.Gcd.{gcd}
use Rattle.residue.specs.Bezout.{cofactors}
use Rattle.residue.proofs.Congruent.{congruent_of_eq, congruent_refl, congruent_sym, congruent_trans, congruent_add, congruent_mul, congruent_zero, congruent_of_remainder}
use Rattle.residue.proofs.Divides.{factor_positive}
use Rattle.residue.proofs.Negative.{negative-reduced}
use Rattle.residue.proofs.Bezout.{Bezout, cofactors_bezout}
use Rattle.equations.specs.Vectors.{combine}
use Rattle.equations.specs.Equation.{dot}
use Rattle.equations.proofs.Truth.{of_true}
use Rattle.equations.proofs.Dot.{dot-combine}
use Rattle.elimination.specs.Step.{Step, divided, reduced, step_of}
use Rattle.elimination.proofs.Unimodular.{Unimodular}

pub record Numbers (m d v : ℕ) (x : Step) : Type 0 where
  pub q : ℕ
  pub row : d ≡ x.g * q
  pub line : v ≡ x.g * x.p
  pub unimodular : Unimodular m q x.p x.s x.t x.n

-- ---- both ways to find them

divided_numbers : (m d v : ℕ) → 0 < m → v % d ≡ 0 → Numbers m d v (divided m d v)
divided_numbers m d v pos h = record {
  q = 1;
  row = sym (mul-one d);
  line = congruent_zero (congruent_of_remainder h) ∙ mul_comm (v / d) d;
  unimodular = record { one = congruent_of_eq (omega arith); minus = negative-reduced m 1 pos };
}

reduced_numbers : (m d v : ℕ) → 0 < m → 0 < d → Numbers m d v (reduced m d v)
reduced_numbers m d v pos dpos = record {
  q = d / g;
  row = b.left ∙ ap (λ (z : ℕ). g * z) (sym q_is);
  line = b.right ∙ ap (λ (z : ℕ). g * z) (sym p_is);
  unimodular = record { one = rw (q_is, p_is) b.one; minus = negative-reduced m (d / g) pos };
}
  where
    g : ℕ
    g = gcd d v

    b : Bezout m d v g (cofactors m d v).s (cofactors m d v).t
    b = cofactors_bezout m d v pos

    gpos : 0 < g
    gpos = factor_positive d g b.q b.left dpos

    q_is : d / g ≡ b.q
    q_is = div-eq_of_eq-mul_right gpos b.left

    p_is : v / g ≡ b.p
    p_is = div-eq_of_eq-mul_right gpos b.right

pub step_numbers : (m d v : ℕ) → 0 < m → 0 < d → Numbers m d v (step_of m d v)
unfolding step_of
step_numbers m d v pos dpos = choose (eqb (v % d) 0) (λ h. eqb→eq _ _ (of_true h))
  where
    choose : (b : Bool) → (b ≡ true → v % d ≡ 0) → Numbers m d v (cond b (divided m d v) (reduced m d v))
    choose true h = divided_numbers m d v pos (h refl)
    choose false h = reduced_numbers m d v pos dpos

-- ---- values: d·y + R is the row's, v·y + L the line's

module _ {m d v : ℕ} {x : Step} (N : Numbers m d v x) (y R L : ℕ) where
  row-sum : Congruent m (x.g * y + (x.s * R + x.t * L)) (x.s * (d * y + R) + x.t * (v * y + L))
  row-sum =
      congruent_sym
      (congruent_trans {b = (x.s * N.q + x.t * x.p) * (x.g * y) + (x.s * R + x.t * L)}
      (congruent_of_eq (rw (N.row, N.line) (sorted x.s x.t x.g N.q x.p y R L)))
      (congruent_add
      (congruent_trans (congruent_mul N.unimodular.one congruent_refl) (congruent_of_eq (omega arith)))
      congruent_refl))
    where
      sorted : (s t g q p y R L : ℕ)
          → s * (g * q * y + R) + t * (g * p * y + L) ≡ (s * q + t * p) * (g * y) + (s * R + t * L)
      sorted s t g q p y R L = omega arith

  line-sum : Congruent m (x.p * R + x.n * L) (x.p * (d * y + R) + x.n * (v * y + L))
  line-sum =
      congruent_sym
      (congruent_trans {b = (N.q + x.n) * (x.g * x.p * y) + (x.p * R + x.n * L)}
      (congruent_of_eq (rw (N.row, N.line) (sorted x.n x.g N.q x.p y R L)))
      (congruent_trans
      (congruent_add (congruent_mul N.unimodular.minus (congruent_refl {a = x.g * x.p * y})) congruent_refl)
      (congruent_of_eq (omega arith))))
    where
      sorted : (n g q p y R L : ℕ) → p * (g * q * y + R) + n * (g * p * y + L) ≡ (q + n) * (g * p * y) + (p * R + n * L)
      sorted n g q p y R L = omega arith

module _ {m d v : ℕ} {x : Step} (N : Numbers m d v x) (y : ℕ) (r W Y : List ℕ) (len : length r ≡ length W) where
  pub row-value : Congruent m (x.g * y + dot (combine m x.s x.t r W) Y)
      (x.s * (d * y + dot r Y) + x.t * (v * y + dot W Y))
  row-value =
      congruent_trans (congruent_add congruent_refl (dot-combine m x.s x.t r W Y len))
      (row-sum N y (dot r Y) (dot W Y))

  pub line-value : Congruent m (dot (combine m x.p x.n r W) Y)
      (x.p * (d * y + dot r Y) + x.n * (v * y + dot W Y))
  line-value = congruent_trans (dot-combine m x.p x.n r W Y len) (line-sum N y (dot r Y) (dot W Y))
