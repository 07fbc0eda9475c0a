-- The promise of specs/Promises.antt is kept: what a block shows is the answer of the definitions, which keep demand 2.
--   answered
use mathlib.Core.Path.{◌≡◌, refl, ap₂, ◌∙◌}
use mathlib.Core.List.{List, ◌∷◌, ◌++◌, flatten, head-eq_of_cons-eq, tail-eq_of_cons-eq}
use mathlib.Core.Option.{Option, none, some}
use Prim.Native.Nat.{ℕ, suc, ◌-◌, ◌<◌}
use native.Mathlib.Omega.{arith}
use lib.ListN.{length}
use lib.Seq.{take_at, drop_at}
use Rattle.equations.specs.Equation.{Equation, Shaped}
use Rattle.equations.specs.Answer.{start_of, steps_of}
use Rattle.equations.proofs.Vectors.{vector-length}
use Rattle.equations.proofs.Listed.{steps_vectors}
use Rattle.equations.proofs.Answer.{start_solves}
use Rattle.equations.proofs.Promises.{complete, unique, counted, no_start}
use Rattle.elimination.specs.Multipliers.{multipliers_of}
use Rattle.elimination.proofs.Multipliers.{multipliers_refute}
use Rattle.equations.specs.Lines.{equations_of}
use Rattle.system.specs.Block.{block_with, block_of}
use Rattle.system.specs.Claims.{vectors_within}
use Rattle.system.specs.Promises.{shown_start, shown_steps, Answers, Answered}
use Rattle.equations.proofs.Lines.{equations-shaped}
use Rattle.system.proofs.Chunks.{within_flatten}

module _ (m n : ℕ) (es : List Equation) (pos : 0 < m) (shaped : Shaped n es) where
  solved : (c : List ℕ) → start_of m n es ≡ some c
      → Answers m n es (suc (length (steps_of m n es))) (c ++ flatten (steps_of m n es))
  solved c h = record {
    none = (
      (λ p. absurd (omega arith)),
      (λ no. absurd (no c (start_solves m n es c h).0 (start_solves m n es c h).1)),
    );
    multipliers = λ p. absurd (omega arith);
    complete = λ _ v vector. rw (start_is, steps_are) (complete m n es c pos h v vector);
    unique = λ _. rw (start_is, steps_are) (unique m n es c pos h);
    counted = λ _. rw steps_are (counted m n es c pos h);
  }
    where
      long : length c ≡ n
      long = vector-length m n c (start_solves m n es c h).0

      start_is : shown_start n (c ++ flatten (steps_of m n es)) ≡ c
      start_is = take_at c (flatten (steps_of m n es)) n long

      steps_are : shown_steps n (suc (length (steps_of m n es))) (c ++ flatten (steps_of m n es)) ≡ steps_of m n es
      steps_are =
          let k : suc (length (steps_of m n es)) - 1 ≡ length (steps_of m n es) = omega arith in
          ap₂ (λ (j : ℕ) (s : List ℕ). vectors_within j n s) k (drop_at c (flatten (steps_of m n es)) n long)
          ∙ within_flatten m n (steps_of m n es) (steps_vectors m n es)

  refuted : start_of m n es ≡ none → Answers m n es 0 (multipliers_of m n es)
  refuted h = record {
    none = ((λ _. (no_start m n es).0 h), (λ _. refl));
    multipliers = λ _. multipliers_refute m n es pos shaped h;
    complete = λ p. absurd (omega arith);
    unique = λ p. absurd (omega arith);
    counted = λ p. absurd (omega arith);
  }

  by_start : (head : ℕ) (numbers : List ℕ) (o : Option (List ℕ)) → start_of m n es ≡ o
      → head ∷ numbers ≡ block_with o (steps_of m n es) (multipliers_of m n es) → Answers m n es head numbers
  by_start head numbers none e b =
      let h : head ≡ 0 = head-eq_of_cons-eq b in
      let t : numbers ≡ multipliers_of m n es = tail-eq_of_cons-eq b in
      rw (h, t) (refuted e)
  by_start head numbers (some c) e b =
      let h : head ≡ suc (length (steps_of m n es)) = head-eq_of_cons-eq b in
      let t : numbers ≡ c ++ flatten (steps_of m n es) = tail-eq_of_cons-eq b in
      rw (h, t) (solved c e)

pub answered : Answered
unfolding block_of
answered m n head lines numbers posed b =
    by_start m n (equations_of n lines) (omega (arith, posed.modulus)) (equations-shaped n lines) head numbers
    (start_of m n (equations_of n lines)) refl b
