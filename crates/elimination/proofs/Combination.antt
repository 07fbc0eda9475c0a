-- Combinations of steps: their sums of products, and vectors told by those.
--   values                  the sums of products of each step with X
--   length-combination, below-combination   the form of a combination
--   dot-combination         its sum is the start's plus that of coefficients and values
--   same_sums               residues with the same sums of products are equal
use mathlib.Core.Path.{◌≡◌, refl, sym, ◌∙◌}
use mathlib.Core.List.{List, [], ◌∷◌, map}
use Prim.Native.Nat.{ℕ, ◌+◌, ◌<◌}
use native.Mathlib.Nat.{suc_inj}
use native.Mathlib.Omega.{arith}
use lib.ListN.{length}
use Rattle.residue.specs.Congruent.{Congruent}
use Rattle.residue.proofs.Congruent.{congruent_of_eq, congruent_refl, congruent_trans, congruent_linear, congruent_small}
use Rattle.equations.specs.Vectors.{combination, Below}
use Rattle.equations.specs.Equation.{dot}
use Rattle.equations.proofs.Dot.{dot-nil, length-combine, dot-combine}
use Rattle.equations.proofs.Vectors.{below-combine}
use Rattle.elimination.proofs.Basis.{Long}

abbrev pub values : List (List ℕ) → List ℕ → List ℕ
values cs X = map (λ (c : List ℕ). dot c X) cs

module _ (m n : ℕ) (v : List ℕ) (lv : length v ≡ n) where
  pub length-combination : (cs : List (List ℕ)) (ts : List ℕ) → Long n cs → length (combination m v cs ts) ≡ n
  length-combination [] ts long = lv
  length-combination (c ∷ cs) [] long = lv
  length-combination (c ∷ cs) (t ∷ ts) long =
      let rest = length-combination cs ts long.1 in
      length-combine m 1 t (combination m v cs ts) c (rest ∙ sym long.0) ∙ rest

  pub dot-combination : (cs : List (List ℕ)) (ts X : List ℕ) → Long n cs → length ts ≡ length cs
      → Congruent m (dot (combination m v cs ts) X) (dot v X + dot ts (values cs X))
  dot-combination [] ts X long lt = congruent_of_eq (omega (arith, dot-nil ts))
  dot-combination (c ∷ cs) [] X long lt = absurd (omega arith)
  dot-combination (c ∷ cs) (t ∷ ts) X long lt =
      congruent_trans
      (dot-combine m 1 t (combination m v cs ts) c X (length-combination cs ts long.1 ∙ sym long.0))
      (congruent_trans (congruent_linear 1 t (dot-combination cs ts X long.1 (suc_inj lt)) congruent_refl)
      (congruent_of_eq (omega arith)))

pub below-combination : (m : ℕ) (v : List ℕ) (cs : List (List ℕ)) (ts : List ℕ) → 0 < m → Below m v
    → Below m (combination m v cs ts)
below-combination m v [] ts pos below = below
below-combination m v (c ∷ cs) [] pos below = below
below-combination m v (c ∷ cs) (t ∷ ts) pos below = below-combine m 1 t (combination m v cs ts) c pos

pub same_sums : (m : ℕ) (v w : List ℕ) → Below m v → Below m w → length v ≡ length w
    → ((X : List ℕ) → Congruent m (dot v X) (dot w X)) → v ≡ w
same_sums m [] [] p q l h = refl
same_sums m [] (y ∷ w) p q l h = absurd (omega arith)
same_sums m (x ∷ v) [] p q l h = absurd (omega arith)
same_sums m (x ∷ v) (y ∷ w) p q l h =
    let head : x ≡ y =
    congruent_small p.0 q.0
    (congruent_trans (congruent_of_eq (omega (arith, dot-nil v)))
    (congruent_trans (h (1 ∷ [])) (congruent_of_eq (omega (arith, dot-nil w)))))
    in
    let rest : v ≡ w =
    same_sums m v w p.1 q.1 (suc_inj l)
    (λ X. congruent_trans (congruent_of_eq (omega arith)) (congruent_trans (h (0 ∷ X)) (congruent_of_eq (omega arith))))
    in
    cc
