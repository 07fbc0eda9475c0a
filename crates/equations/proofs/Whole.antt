-- Equations of whole numbers, by the residues of these.
--   residues_solve    where one holds mod m, the equation of its residues is solved, and nowhere else
use mathlib.Core.Path.{sym, ap, subst, ◌∙◌}
use mathlib.Core.Logic.{◌↔◌}
use mathlib.Core.List.{List, [], ◌∷◌, map}
use Prim.Native.Nat.{ℕ, zero, suc, ◌<◌}
use borrow.Author.Tests.{eqb-true, eq-eqb}
use lib.Dec.{T}
use lib.IntN.{ℤ, pos}
use lib.ListN.{take, get_or, get_or-map}
use Rattle.residue.specs.Residue.{residue_of}
use Rattle.residue.proofs.Residue.{residue_leaves, minus-zero}
use Rattle.residue.proofs.Whole.{Leaves, leaves_number, leaves_sum, leaves_product, whole_congruent}
use Rattle.equations.specs.Equation.{dot, solves_one}
use Rattle.equations.specs.Lines.{equation_at}
use Rattle.equations.specs.Whole.{dot_whole, HoldsWhole}
use Rattle.equations.proofs.Truth.{true_of, of_true}

module _ (m : ℕ) (positive : 0 < m) where
  leaves_dot : (n : ℕ) (xs : List ℤ) (v : List ℕ) → Leaves m (dot_whole (take n xs) v) (dot (take n (map (residue_of m) xs)) v)
  leaves_dot zero xs v = leaves_number 0
  leaves_dot (suc n) [] v = leaves_number 0
  leaves_dot (suc n) (x ∷ xs) [] = leaves_number 0
  leaves_dot (suc n) (x ∷ xs) (y ∷ v) =
      leaves_sum (leaves_product (residue_leaves m x positive) (leaves_number y)) (leaves_dot n xs v)

  -- past the end of the list stands 0, which is its own residue
  leaves_right : (n : ℕ) (xs : List ℤ) → Leaves m (get_or xs n (pos 0)) (get_or (map (residue_of m) xs) n 0)
  leaves_right n xs =
      subst (Leaves m (get_or xs n (pos 0)))
      (sym (get_or-map (residue_of m) xs n (pos 0)) ∙ ap (get_or (map (residue_of m) xs) n) (minus-zero m))
      (residue_leaves m (get_or xs n (pos 0)) positive)

  pub residues_solve : (n : ℕ) (xs : List ℤ) (v : List ℕ)
      → HoldsWhole m n xs v ↔ T (solves_one m (equation_at n (map (residue_of m) xs)) v)
  residues_solve n xs v =
      let same = whole_congruent m (dot_whole (take n xs) v) (get_or xs n (pos 0)) (leaves_dot n xs v) (leaves_right n xs) in (
        (λ h. of_true (eq-eqb _ _ (same.0 h).same)),
        λ t. same.1 (record { same = eqb-true _ _ (true_of _ t) }),
      )
