-- The step of the elimination can be undone. A row's value R and a line's value L become s·R + t·L and p·R + n·L, where
-- s·q + t·p ≡ 1 and n stands for minus q.
--   row_back, line_back   R and L out of the two new values
--   row_zero, line-zero   so R and L are 0 where the new values are
use mathlib.Core.Path.{◌≡◌, ap}
use Prim.Native.Nat.{ℕ, ◌+◌, ◌*◌}
use native.Mathlib.Omega.{arith}
use Rattle.residue.specs.Congruent.{Congruent}
use Rattle.residue.proofs.Congruent.{congruent_of, congruent_witness, congruent_of_eq, congruent_refl, congruent_sym, congruent_trans, congruent_mul, congruent_combine, congruent_absorb}

pub record Unimodular (m q p s t n : ℕ) : Type 0 where
  pub one : Congruent m (s * q + t * p) 1
  pub minus : Congruent m (q + n) 0

-- ---- the identities, as linear combinations of the two congruences with their witnesses

row_identity : (m q s t p n R L k l k' l' : ℕ) → s * q + t * p + k * m ≡ 1 + l * m → q + n + k' * m ≡ 0 + l' * m
    → q * (s * R + t * L) + t * (p * R + n * L) + (R * k + t * L * k') * m ≡ R + (R * l + t * L * l') * m
row_identity m q s t p n R L k l k' l' h g = omega (arith, ap (λ (z : ℕ). z * R) h, ap (λ (z : ℕ). z * (t * L)) g)

line_identity : (m q s t p n R L k l k' l' : ℕ) → s * q + t * p + k * m ≡ 1 + l * m → q + n + k' * m ≡ 0 + l' * m
    → p * (s * R + t * L) + (L * k + s * L * l') * m ≡ L + s * (p * R + n * L) + (L * l + s * L * k') * m
line_identity m q s t p n R L k l k' l' h g = omega (arith, ap (λ (z : ℕ). z * L) h, ap (λ (z : ℕ). z * (s * L)) g)

-- ---- the values come back

module _ {m q p s t n : ℕ} (R L : ℕ) (u : Unimodular m q p s t n) where
  pub row_back : Congruent m (q * (s * R + t * L) + t * (p * R + n * L)) R
  row_back =
      let h = congruent_witness u.one in let g = congruent_witness u.minus in
      congruent_of _ _ (row_identity m q s t p n R L _ _ _ _ h.eq g.eq)

  pub line_back : Congruent m (p * (s * R + t * L)) (L + s * (p * R + n * L))
  line_back =
      let h = congruent_witness u.one in let g = congruent_witness u.minus in
      congruent_of _ _ (line_identity m q s t p n R L _ _ _ _ h.eq g.eq)

  pub row_zero : Congruent m (s * R + t * L) 0 → Congruent m (p * R + n * L) 0 → Congruent m R 0
  row_zero h g = congruent_trans (congruent_sym row_back) (congruent_combine q t h g)

  pub line-zero : Congruent m (s * R + t * L) 0 → Congruent m (p * R + n * L) 0 → Congruent m L 0
  line-zero h g =
      congruent_trans (congruent_sym (congruent_absorb L s g))
      (congruent_trans (congruent_of_eq (omega arith))
      (congruent_trans (congruent_sym line_back)
      (congruent_trans (congruent_mul (congruent_refl {a = p}) h) (congruent_of_eq (omega arith)))))
