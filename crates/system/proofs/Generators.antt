-- The generators of the relations, in memory, and the superfluous step that they tell.
--   steps_read                  what is read off a basis of lines are the steps of their answer
--   laid_vectors                vectors that were written are found again
--   vectors-count, steps_few    how many steps there are,
--   lines-room                  and how many numbers their system has
--   none_found                  there is none
--   all_needed                  there are at most as many as free unknowns
--   relations-posed             their system may be asked
--   place_found                 the place that its answer tells is that of the first superfluous step
use mathlib.Core.Path.{◌≡◌, refl, sym, ap, ◌∙◌, subst}
use mathlib.Core.List.{List, ◌++◌}
use Prim.Native.Nat.{ℕ, zero, suc, ◌+◌, ◌*◌, ◌/◌, ◌%◌, ◌<◌, ◌≤◌}
use native.Mathlib.Nat.{div-le_of_le-mul, mul-le-mul, mul-mod_left}
use native.Mathlib.Omega.{arith}
use lib.ListN.{length, take, drop}
use lib.Seq.{take_at}
use Rattle.std.specs.Prelude.{None}
use Rattle.slices.proofs.Over.{over-front}
use Rattle.equations.specs.Vectors.{AllVectors, Below}
use Rattle.equations.specs.Equation.{Equation}
use Rattle.equations.specs.Answer.{steps_of}
use Rattle.equations.specs.Claim.{from}
use Rattle.equations.specs.Lines.{equations_of}
use Rattle.equations.specs.Marks.{place_from, superfluous_at}
use Rattle.equations.proofs.Lines.{equations-shaped}
use Rattle.elimination.specs.Tableau.{tableau}
use Rattle.elimination.specs.Relations.{relations, coprime_at, free_for}
use Rattle.elimination.proofs.Free.{free_needed}
use Rattle.elimination.proofs.Relations.{superfluous-place}
use Rattle.system.specs.Posed.{Posed}
use Rattle.system.specs.Claims.{vectors_within, vectors_of}
use Rattle.system.specs.Model.Reading.{rows_in, Laid, read_steps}
use Rattle.system.specs.Places.{placed}
use Rattle.system.specs.Model.Marking.{RightFor, Based}
use Rattle.system.proofs.Answer.{read_steps_lem}
use Rattle.system.proofs.Chunks.{vectors_listed, vectors_flatten}
use Rattle.system.proofs.Relations.{lines-few}

pub steps_read : (m n : ℕ) (lines s : List ℕ) → Posed m n lines → Based m n lines s
    → read_steps m n (rows_in n s) n ≡ steps_of m n (equations_of n lines)
unfolding steps_of
steps_read m n lines s posed based =
    ap (λ (B : List (List ℕ)). read_steps m n B n) based.rows
    ∙ read_steps_lem m n 0 (equations_of n lines) (omega (arith, posed.modulus)) (equations-shaped n lines) n 0 (omega arith)

pub laid_vectors : (m n r : ℕ) (vs : List (List ℕ)) {old new : List ℕ} → 0 < n → AllVectors m n vs → Laid n vs old new r
    → vectors_of n (take (r * n) new) ≡ vs
laid_vectors m n r vs {old} pos all laid =
    ap (vectors_of n) (over-front (r * n) _ old laid.written laid.size) ∙ vectors_flatten m n vs pos all

-- ---- the steps

length-within : (c n : ℕ) (s : List ℕ) → length (vectors_within c n s) ≡ c
length-within zero n s = refl
length-within (suc c) n s = ap suc (length-within c n (drop n s))

pub vectors-count : (n : ℕ) (s : List ℕ) → length (vectors_of n s) ≡ length s / n
unfolding vectors_of
vectors-count n s = length-within (length s / n) n s

pub steps_few : (n : ℕ) (s : List ℕ) → length s ≤ 16 * n → length s / n ≤ 16
steps_few n s few = div-le_of_le-mul n (omega (arith, few))

pub lines-room : (n : ℕ) (s : List ℕ) → n ≤ 16 → length s ≤ 16 * n → n * (length s / n + 1) ≤ 272
lines-room n s n-few few = lines-few n (length s / n) n-few (steps_few n s few)

no_vectors : (m n : ℕ) (vs : List (List ℕ)) → length vs ≡ 0 → 0 ≡ superfluous_at m n vs
unfolding superfluous_at
no_vectors m n vs none = sym (ap (place_from _ 0) none)

pub none_found : (m n : ℕ) (steps : List ℕ) → length steps / n ≡ 0 → None ≡ placed (superfluous_at m n (vectors_of n steps))
none_found m n steps none = ap placed (no_vectors m n (vectors_of n steps) (vectors-count n steps ∙ none))

-- at most as many steps as free unknowns
pub all_needed : (m n free : ℕ) (s steps : List ℕ) → 1 < m → Below m steps → length steps ≤ free * n → free ≡ free_for m (rows_in n s) n
    → (es : List Equation) (start : List ℕ) → RightFor m n es s (from start (vectors_of n steps)) → None ≡ placed (superfluous_at m n (vectors_of n steps))
all_needed m n free s steps modulus below few is es start right =
    let most : length steps / n ≤ free = div-le_of_le-mul n (omega (arith, few)) in
    let same : free ≡ free_for m (tableau m n 0 es) n = is ∙ ap (λ (B : List (List ℕ)). free_for m B n) right.rows in
    ap placed (sym (free_needed m n es start (vectors_of n steps) modulus right.shaped right.formed.0 (vectors_listed m n steps below) right.right
    (omega (arith, most, vectors-count n steps, same))))

-- ---- their system, which is p in the front of a longer list

module _ (m n k : ℕ) (p rest : List ℕ) (size : length p ≡ n * (k + 1)) where
  front : take (n * (k + 1)) (p ++ rest) ≡ p
  front = take_at p rest (n * (k + 1)) size

  pub relations-posed : 1 < m → n ≤ 16 → 0 < k → k ≤ 16 → Below m p → Posed m k (take (n * (k + 1)) (p ++ rest))
  relations-posed modulus n-few k-some k-few below =
      subst (Posed m k) (sym front)
      (record {
        modulus = modulus;
        has_unknowns = k-some;
        unknowns = k-few;
        whole = ap (λ (l : ℕ). l % (k + 1)) size ∙ mul-mod_left n (k + 1);
        equations = omega (arith, size, mul-le-mul {n₁ = n} {m₁ = k + 1} {n₂ = 16} {m₂ = k + 1} n-few (omega arith));
        residues = below;
      })

  pub place_found : (steps : List ℕ) → 0 < m → Below m steps → length (vectors_of n steps) ≡ k
      → equations_of k p ≡ relations n (vectors_of n steps)
      → place_from (coprime_at m (steps_of m k (equations_of k (take (n * (k + 1)) (p ++ rest))))) 0 k ≡ superfluous_at m n (vectors_of n steps)
  place_found steps pos below count is =
      ap (λ (xs : List ℕ). place_from (coprime_at m (steps_of m k (equations_of k xs))) 0 k) front
      ∙ ap (λ (es : List Equation). place_from (coprime_at m (steps_of m k es)) 0 k) is
      ∙ ap (λ (c : ℕ). place_from (coprime_at m (steps_of m c (relations n (vectors_of n steps)))) 0 c) (sym count)
      ∙ sym (superfluous-place m n (vectors_of n steps) pos (vectors_listed m n steps below))
