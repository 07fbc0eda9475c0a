-- What is read off the tableau of a list of equations is the answer of the definitions.
--   step-vector                     a vector that is read off, in the tableau's words
--   read_start                      where the constant's pivot is m, the starting vector
--   read_steps_lem                      the steps at the last i places
--   vectors_solved, vectors-none    starting vector and steps together
--   block_solved, block_refuted     the block, from r vectors and from the multipliers
use mathlib.Core.Path.{◌≡◌, refl, sym, ap, ap₂, ◌∙◌}
use mathlib.Core.Logic.{◌⊎◌, inl, inr}
use mathlib.Core.Bool.{true, false, cond}
use mathlib.Core.List.{List, [], ◌∷◌, flatten}
use mathlib.Core.Option.{Option, none, some}
use Prim.Native.Nat.{ℕ, zero, suc, ◌+◌, ◌-◌, ◌/◌, ◌<◌}
use native.Mathlib.Omega.{arith}
use lib.ListN.{length, replicate}
use lib.Dec.{eqb}
use borrow.Author.Tests.{eqb-true, eqb-false}
use Rattle.equations.specs.Equation.{Equation, Shaped}
use Rattle.equations.specs.Answer.{start_of, step_at, and_then, steps_from, steps_of}
use Rattle.equations.proofs.Truth.{true_or_false}
use Rattle.elimination.specs.Basis.{pivot}
use Rattle.elimination.specs.Substitution.{extend}
use Rattle.elimination.specs.Tableau.{turned, tableau, tableau_start, tableau_step}
use Rattle.elimination.proofs.Row.{pivot_positive}
use Rattle.elimination.proofs.Tableau.{length-tableau, good_tableau}
use Rattle.elimination.proofs.Answer.{answer_start, answer-none, answer-step, answer_no_step}
use Rattle.elimination.specs.Multipliers.{multipliers_of}
use Rattle.system.specs.Block.{block_with, block_of}
use Rattle.system.specs.Model.Reading.{read_vector, read_step, read_steps, read_vectors, vectors_with, answer_vectors}

pub step-vector : (m n i j e : ℕ) (B : List (List ℕ)) → i + suc j ≡ n → tableau_step m i j B e ≡ read_vector m n B i e
unfolding tableau_step read_vector
step-vector m n i j e B h =
    let a : suc j ≡ n - i = omega arith in
    ap₂ (λ (k l : ℕ). turned k (extend m i B (e ∷ replicate l 0)) []) h a

start_vector : (m n k : ℕ) (es : List Equation) → tableau_start m n k es ≡ read_vector m n (tableau m n k es) n 1
unfolding tableau_start read_vector
start_vector m n k es =
    let a : 0 ≡ n - n = omega arith in
    ap (λ (l : ℕ). turned n (extend m n (tableau m n k es) (1 ∷ replicate l 0)) []) a

module _ (m n k : ℕ) (es : List Equation) (pos : 0 < m) (shaped : Shaped n es) where
  abbrev B : List (List ℕ)
  B = tableau m n k es

  pub read_start : pivot n (tableau m n k es) ≡ m → start_of m n es ≡ some (read_vector m n (tableau m n k es) n 1)
  read_start h = answer_start m n k es pos shaped h ∙ ap some (start_vector m n k es)

  read-step : (i j : ℕ) → i + suc j ≡ n → read_step m n B i ≡ step_at m n es j
  unfolding read_step
  read-step i j h = by_test (true_or_false (eqb (pivot i B) 1))
    where
      positive : 0 < pivot i B
      positive =
          pivot_positive m k i B pos (good_tableau m n k es pos shaped)
          (omega (arith, length-tableau m n k es pos shaped))

      by_test : (eqb (pivot i B) 1 ≡ true) ⊎ (eqb (pivot i B) 1 ≡ false)
          → cond (eqb (pivot i B) 1) none (some (read_vector m n B i (m / pivot i B))) ≡ step_at m n es j
      by_test (inl t) = rw t (sym (answer_no_step m n k es pos shaped i j h (eqb-true (pivot i B) 1 t)))
      by_test (inr f) =
          rw f
          (sym (answer-step m n k es pos shaped i j h (above (eqb-false (pivot i B) 1 f))
          ∙ ap some (step-vector m n i j (m / pivot i B) B h)))
        where
          above : (pivot i B ≡ 1 → ⊥) → 1 < pivot i B
          above ne = omega (arith, positive)

  pub read_steps_lem : (i j : ℕ) → i + j ≡ n → read_steps m n (tableau m n k es) i ≡ steps_from m n es j i
  read_steps_lem zero j h = refl
  read_steps_lem (suc i) j h = ap₂ and_then (read-step i j (omega arith)) (read_steps_lem i (suc j) (omega arith))

  pub vectors_solved : pivot n (tableau m n k es) ≡ m → read_vectors m n (tableau m n k es) ≡ answer_vectors m n es
  unfolding read_vectors answer_vectors steps_of
  vectors_solved h =
      rw (read_start h) (ap {B = List (List ℕ)} (λ ss. read_vector m n B n 1 ∷ ss) (read_steps_lem n 0 (omega arith)))

  pub vectors-none : (pivot n (tableau m n k es) ≡ m → ⊥) → answer_vectors m n es ≡ []
  unfolding answer_vectors
  vectors-none h = rw (answer-none m n k es pos shaped h)

-- ---- the block

vectors_head : (o : Option (List ℕ)) (ss : List (List ℕ)) (ks : List ℕ) → 0 < length (vectors_with o ss)
    → length (vectors_with o ss) ∷ flatten (vectors_with o ss) ≡ block_with o ss ks
unfolding flatten
vectors_head none ss ks h = absurd (omega arith)
vectors_head (some v) ss ks h = refl

no_vectors_head : (o : Option (List ℕ)) (ss : List (List ℕ)) (ks : List ℕ) → length (vectors_with o ss) ≡ 0
    → 0 ∷ ks ≡ block_with o ss ks
no_vectors_head none ss ks h = refl
no_vectors_head (some v) ss ks h = absurd (omega arith)

module _ (m n r : ℕ) (es : List Equation) (are : r ≡ length (answer_vectors m n es)) where
  pub block_solved : 0 < r → r ∷ flatten (answer_vectors m n es) ≡ block_of m n es
  unfolding block_of answer_vectors
  block_solved h =
      ap {B = List ℕ} (λ k. k ∷ flatten (answer_vectors m n es)) are
      ∙ vectors_head (start_of m n es) (steps_of m n es) (multipliers_of m n es) (omega arith)

  pub block_refuted : r ≡ 0 → 0 ∷ multipliers_of m n es ≡ block_of m n es
  unfolding block_of answer_vectors
  block_refuted h = no_vectors_head (start_of m n es) (steps_of m n es) (multipliers_of m n es) (sym are ∙ h)
