-- The answer of document 01, read off the tableau of the equations with any number k of carried columns.
--   row_of, last_row                the tableau's rows; the last one is the constant's
--   answer_start, answer-none       its pivot is m: the starting vector; else nothing solves the equations
--   answer-step, answer_no_step     a pivot above 1: the step at its place; the pivot 1: no step there
-- That a pivot divides m and is not 0 is said in Row.
use mathlib.Core.Path.{◌≡◌, sym, ap, ◌∙◌}
use mathlib.Core.Logic.{◌⊎◌, inl, inr}
use mathlib.Core.List.{List, [], ◌∷◌}
use mathlib.Core.Option.{none, some}
use Prim.Native.Nat.{ℕ, suc, ◌+◌, ◌*◌, ◌/◌, ◌<◌}
use native.Mathlib.Nat.{one-mul}
use native.Mathlib.Omega.{arith}
use lib.ListN.{length, drop, length-drop, drop_of_length-le}
use Rattle.residue.specs.Congruent.{Congruent}
use Rattle.residue.proofs.Congruent.{congruent_of, congruent_of_eq, congruent_trans, congruent_small}
use Rattle.residue.proofs.Divides.{factor_positive, factor_or_below, cofactor_below}
use Rattle.equations.specs.Equation.{Equation, Shaped}
use Rattle.equations.specs.Answer.{start_of, step_at}
use Rattle.equations.proofs.Dot.{dot-nil}
use Rattle.elimination.specs.Basis.{pivot}
use Rattle.elimination.specs.Tableau.{tableau, tableau_start, tableau_step}
use Rattle.elimination.proofs.Zeros.{Sat}
use Rattle.elimination.proofs.Row.{RowAt, row_at, row-quotient}
use Rattle.elimination.proofs.Tableau.{length-tableau, good_tableau}
use Rattle.elimination.proofs.Start.{start_first, start_none}
use Rattle.elimination.proofs.Steps.{step-first, step-none}

module _ (m n k : ℕ) (es : List Equation) (pos : 0 < m) (shaped : Shaped n es) where
  pub row_of : (i : ℕ) → i < n + 1 → RowAt m k i (tableau m n k es)
  row_of i h =
      row_at m k i (tableau m n k es) (good_tableau m n k es pos shaped)
      (omega (arith, length-tableau m n k es pos shaped))

  pub last_row : (a : RowAt m k n (tableau m n k es)) → drop n (tableau m n k es) ≡ (a.d ∷ a.r) ∷ []
  last_row a =
      a.here
      ∙ ap {B = List (List ℕ)} (λ R. (a.d ∷ a.r) ∷ R)
      (drop_of_length-le a.rest {i = 0}
      (omega (arith, ap length a.here, length-drop n (tableau m n k es), length-tableau m n k es pos shaped)))

  -- ---- the start

  pub answer_start : pivot n (tableau m n k es) ≡ m → start_of m n es ≡ some (tableau_start m n k es)
  answer_start h = go (row_of n (omega arith))
    where
      go : RowAt m k n (tableau m n k es) → start_of m n es ≡ some (tableau_start m n k es)
      go a =
          start_first m n k es pos shaped
          (rw (last_row a) (congruent_of 0 1 (omega (arith, a.pivot_is, dot-nil a.r)), tt))

  pub answer-none : (pivot n (tableau m n k es) ≡ m → ⊥) → start_of m n es ≡ none
  answer-none h = go (row_of n (omega arith))
    where
      no_one : (a : RowAt m k n (tableau m n k es)) → (a.d ≡ m) ⊎ (a.d < m) → Sat m ((a.d ∷ a.r) ∷ []) (1 ∷ []) → ⊥
      no_one a (inl e) sat = h (a.pivot_is ∙ e)
      no_one a (inr lt) sat =
          let d≡0 : Congruent m a.d 0 = congruent_trans (congruent_of_eq (omega (arith, dot-nil a.r))) sat.0 in
          let z : a.d ≡ 0 = congruent_small lt pos d≡0 in
          omega (arith, z, factor_positive m a.d a.e a.factor pos)

      go : RowAt m k n (tableau m n k es) → start_of m n es ≡ none
      go a =
          start_none m n k es pos shaped
          (λ sat. no_one a (factor_or_below m a.d a.e pos a.factor) (rw (last_row a) at sat))

  -- ---- the steps

  module _ (i j : ℕ) (places : i + suc j ≡ n) where
    pub answer-step : 1 < pivot i (tableau m n k es)
        → step_at m n es j ≡ some (tableau_step m i j (tableau m n k es) (m / pivot i (tableau m n k es)))
    answer-step h = go (row_of i (omega arith))
      where
        go : RowAt m k i (tableau m n k es)
            → step_at m n es j ≡ some (tableau_step m i j (tableau m n k es) (m / pivot i (tableau m n k es)))
        go a =
            rw (row-quotient m k i (tableau m n k es) pos a)
            (step-first m n k es pos shaped i j places a.d a.e a.r a.rest a.here a.factor
            (cofactor_below m a.d a.e pos a.factor (omega (arith, a.pivot_is))))

    pub answer_no_step : pivot i (tableau m n k es) ≡ 1 → step_at m n es j ≡ none
    answer_no_step h = go (row_of i (omega arith))
      where
        go : RowAt m k i (tableau m n k es) → step_at m n es j ≡ none
        go a =
            step-none m n k es pos shaped i j places a.d a.e a.r a.rest a.here a.factor
            (sym (a.factor ∙ ap (λ (z : ℕ). z * a.e) (sym a.pivot_is ∙ h) ∙ one-mul a.e))
