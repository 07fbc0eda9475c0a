-- Vectors under `combine`: sums and multiples mod m.
--   vector-combine       combinations of vectors of n residues are such vectors
--   vector_zeros         the zeros are one
--   combine_comm         a sum's two parts may change places
--   combine_assoc        c + (v + t·w) = (c + v) + t·w
--   combine_zeros        v + 0 = v
--   combine-none         v + 0·w = v
--   combine_undo         (v + s·w) + t·w = v where s + t ≡ 0
--   combine-difference   c + (v - c) = v
--   combine_cancel       v is known from v + t·w
use mathlib.Core.Path.{◌≡◌, refl, sym, ap, ap₂, ◌∙◌}
use mathlib.Core.List.{List, [], ◌∷◌}
use Prim.Native.Nat.{ℕ, zero, suc, ◌+◌, ◌*◌, ◌%◌, ◌<◌}
use native.Mathlib.Nat.{mod-lt, mod-eq_of_lt}
use native.Mathlib.Omega.{arith}
use lib.ListN.{replicate, length-replicate}
use Rattle.residue.specs.Congruent.{Congruent}
use Rattle.residue.specs.Negative.{negative}
use Rattle.residue.proofs.Congruent.{congruent_of_eq, congruent_refl, congruent_sym, congruent_trans, congruent_linear, congruent_mod, congruent_small, congruent_absorb}
use Rattle.residue.proofs.Negative.{negative_is, negative_opposite}
use Rattle.equations.specs.Vectors.{Vector, combine}
use Rattle.equations.proofs.Dot.{length-combine}
use Rattle.equations.proofs.Vectors.{vector-length, vector-same-length, vector_of, below-combine, below_zeros}

pub vector-combine : (m n s t : ℕ) (v w : List ℕ) → 0 < m → Vector m n v → Vector m n w → Vector m n (combine m s t v w)
vector-combine m n s t v w pos a b =
    vector_of m n (combine m s t v w)
    (length-combine m s t v w (vector-same-length m n v w a b) ∙ vector-length m n v a) (below-combine m s t v w pos)

pub vector_zeros : (m n : ℕ) → 0 < m → Vector m n (replicate n 0)
vector_zeros m n pos = vector_of m n (replicate n 0) (length-replicate n 0) (below_zeros m n pos)

pub combine_comm : (m : ℕ) (v w : List ℕ) → combine m 1 1 v w ≡ combine m 1 1 w v
combine_comm m [] [] = refl
combine_comm m [] (y ∷ w) = refl
combine_comm m (x ∷ v) [] = refl
combine_comm m (x ∷ v) (y ∷ w) = ap₂ ◌∷◌ (ap (λ (z : ℕ). z % m) (omega arith)) (combine_comm m v w)

pub combine_assoc : (m t : ℕ) (c v w : List ℕ)
    → combine m 1 t (combine m 1 1 c v) w ≡ combine m 1 1 c (combine m 1 t v w)
combine_assoc m t [] v w = refl
combine_assoc m t (a ∷ c) [] w = refl
combine_assoc m t (a ∷ c) (x ∷ v) [] = refl
combine_assoc m t (a ∷ c) (x ∷ v) (y ∷ w) = ap₂ ◌∷◌ entry.same (combine_assoc m t c v w)
  where
    entry : Congruent m (1 * ((1 * a + 1 * x) % m) + t * y) (1 * a + 1 * ((1 * x + t * y) % m))
    entry =
        congruent_trans
        (congruent_linear 1 t (congruent_mod m (1 * a + 1 * x)) congruent_refl)
        (congruent_trans {b = 1 * a + 1 * (1 * x + t * y)} (congruent_of_eq (omega arith))
        (congruent_linear 1 1 congruent_refl (congruent_sym (congruent_mod m (1 * x + t * y)))))

pub combine_zeros : (m n : ℕ) (v : List ℕ) → Vector m n v → combine m 1 1 v (replicate n 0) ≡ v
combine_zeros m zero [] vec = refl
combine_zeros m zero (x ∷ v) vec = absurd vec
combine_zeros m (suc n) [] vec = absurd vec
combine_zeros m (suc n) (x ∷ v) vec =
    ap₂ ◌∷◌ (ap (λ (z : ℕ). z % m) (omega arith) ∙ mod-eq_of_lt vec.0) (combine_zeros m n v vec.1)

pub combine-none : (m n : ℕ) (v w : List ℕ) → Vector m n v → Vector m n w → combine m 1 0 v w ≡ v
combine-none m zero [] w a b = refl
combine-none m zero (x ∷ v) w a b = absurd a
combine-none m (suc n) [] w a b = absurd a
combine-none m (suc n) (x ∷ v) [] a b = absurd b
combine-none m (suc n) (x ∷ v) (y ∷ w) a b =
    ap₂ ◌∷◌ (ap (λ (z : ℕ). z % m) (omega arith) ∙ mod-eq_of_lt a.0) (combine-none m n v w a.1 b.1)

module _ (m s t : ℕ) (pos : 0 < m) (opposite : Congruent m (s + t) 0) where
  entry_undo : (x y : ℕ) → x < m → (1 * ((1 * x + s * y) % m) + t * y) % m ≡ x
  entry_undo x y lt =
      congruent_small (mod-lt (1 * ((1 * x + s * y) % m) + t * y) pos) lt
      (congruent_trans (congruent_mod m (1 * ((1 * x + s * y) % m) + t * y))
      (congruent_trans
      (congruent_linear 1 t (congruent_mod m (1 * x + s * y)) congruent_refl)
      (congruent_trans {b = x + (s + t) * y} (congruent_of_eq (omega arith)) (congruent_absorb x y opposite))))

pub combine_undo : (m n s t : ℕ) → 0 < m → Congruent m (s + t) 0 → (v w : List ℕ) → Vector m n v → Vector m n w
    → combine m 1 t (combine m 1 s v w) w ≡ v
combine_undo m zero s t pos opposite [] w a b = refl
combine_undo m zero s t pos opposite (x ∷ v) w a b = absurd a
combine_undo m (suc n) s t pos opposite [] w a b = absurd a
combine_undo m (suc n) s t pos opposite (x ∷ v) [] a b = absurd b
combine_undo m (suc n) s t pos opposite (x ∷ v) (y ∷ w) a b =
    ap₂ ◌∷◌ (entry_undo m s t pos opposite x y a.0) (combine_undo m n s t pos opposite v w a.1 b.1)

pub combine-difference : (m n : ℕ) → 0 < m → (v c : List ℕ) → Vector m n v → Vector m n c
    → combine m 1 1 c (combine m 1 (negative m 1) v c) ≡ v
combine-difference m n pos v c a b =
    combine_comm m c (combine m 1 (negative m 1) v c)
    ∙ combine_undo m n (negative m 1) 1 pos (negative_opposite m 1 pos) v c a b

pub combine_cancel : (m n t : ℕ) → 0 < m → (v v' w : List ℕ) → Vector m n v → Vector m n v' → Vector m n w
    → combine m 1 t v w ≡ combine m 1 t v' w → v ≡ v'
combine_cancel m n t pos v v' w a a' b h =
    sym (combine_undo m n t (negative m t) pos (negative_is m t pos) v w a b)
    ∙ ap (λ (z : List ℕ). combine m 1 (negative m t) z w) h
    ∙ combine_undo m n t (negative m t) pos (negative_is m t pos) v' w a' b
