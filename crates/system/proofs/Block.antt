-- The numbers of an answer block: which they are, and how large and how many.
--   block_none     without solution: a 0, then multipliers that refute the equations
--   block_some     otherwise: a head, then the starting vector and the steps
--   block-below    behind the head stand residues
--   block_head     the head is at most the number of unknowns plus 1
--   block_start    a head that is not 0 has a starting vector behind it
--   block-vectors  there are numbers for all vectors that the head counts
--   block-length   how long a block can be
use mathlib.Core.Path.{◌≡◌, ap}
use mathlib.Core.Logic.{⊎_elim}
use mathlib.Core.List.{List, ◌∷◌, ◌++◌, flatten}
use mathlib.Core.Option.{Option, none, some}
use Prim.Native.Nat.{ℕ, suc, ◌+◌, ◌*◌, ◌<◌, ◌≤◌}
use native.Mathlib.Nat.{mul-le-mul}
use native.Mathlib.Omega.{arith}
use lib.ListN.{length, drop, get_or, length-append}
use lib.Dec.{T}
use Rattle.equations.specs.Vectors.{Below}
use Rattle.equations.specs.Equation.{Equation, Shaped}
use Rattle.equations.specs.Answer.{start_of, steps_of}
use Rattle.equations.specs.Multipliers.{refutes}
use Rattle.equations.proofs.Vectors.{vector-length, vector-below, below-append}
use Rattle.equations.proofs.Answer.{start_solves, start_found}
use Rattle.equations.proofs.Multipliers.{refutes_is}
use Rattle.equations.proofs.Listed.{flat_below, flat_length, steps_vectors, steps_few}
use Rattle.elimination.specs.Multipliers.{multipliers_of}
use Rattle.elimination.proofs.Multipliers.{multipliers_refute}
use Rattle.system.specs.Block.{block_with, block_of}

module _ (m n : ℕ) (es : List Equation) where
  pub block_some : (c : List ℕ) → start_of m n es ≡ some c
      → block_of m n es ≡ suc (length (steps_of m n es)) ∷ (c ++ flatten (steps_of m n es))
  unfolding block_of
  block_some c h = ap (λ (o : Option (List ℕ)). block_with o (steps_of m n es) (multipliers_of m n es)) h

  multipliers-block : start_of m n es ≡ none → block_of m n es ≡ 0 ∷ multipliers_of m n es
  unfolding block_of
  multipliers-block h = ap (λ (o : Option (List ℕ)). block_with o (steps_of m n es) (multipliers_of m n es)) h

  solved_length : (c : List ℕ) → start_of m n es ≡ some c → length (block_of m n es) ≡ 1 + n + length (steps_of m n es) * n
  solved_length c h =
      rw (block_some c h)
      (omega (
        arith,
        length-append c (flatten (steps_of m n es)),
        vector-length m n c (start_solves m n es c h).0,
        flat_length m n (steps_of m n es) (steps_vectors m n es),
      ))

  pub block_head : get_or (block_of m n es) 0 0 ≤ n + 1
  block_head = ⊎_elim unsolved solved (start_found m n es)
    where
      unsolved : start_of m n es ≡ none → get_or (block_of m n es) 0 0 ≤ n + 1
      unsolved h = rw (multipliers-block h) (omega arith)

      solved : (c : List ℕ) × (start_of m n es ≡ some c) → get_or (block_of m n es) 0 0 ≤ n + 1
      solved (c, h) = rw (block_some c h) (omega (arith, steps_few m n es))

  pub block_start : 0 < get_or (block_of m n es) 0 0 → n < length (block_of m n es)
  block_start head = ⊎_elim unsolved solved (start_found m n es)
    where
      unsolved : start_of m n es ≡ none → n < length (block_of m n es)
      unsolved h = absurd (omega (arith, ap (λ (z : List ℕ). get_or z 0 0) (multipliers-block h)))

      solved : (c : List ℕ) × (start_of m n es ≡ some c) → n < length (block_of m n es)
      solved (c, h) = omega (arith, solved_length c h)

  -- for every vector that the head counts there are n numbers behind it
  pub block-vectors : get_or (block_of m n es) 0 0 * n < length (block_of m n es)
  block-vectors = ⊎_elim unsolved solved (start_found m n es)
    where
      unsolved : start_of m n es ≡ none → get_or (block_of m n es) 0 0 * n < length (block_of m n es)
      unsolved h = rw (multipliers-block h) (omega arith)

      solved : (c : List ℕ) × (start_of m n es ≡ some c) → get_or (block_of m n es) 0 0 * n < length (block_of m n es)
      solved (c, h) = rw (ap (λ (z : List ℕ). get_or z 0 0) (block_some c h)) (omega (arith, solved_length c h))

  module _ (pos : 0 < m) (shaped : Shaped n es) where
    pub block_none : start_of m n es ≡ none → (ks : List ℕ) × (block_of m n es ≡ 0 ∷ ks) × T (refutes m n es ks)
    block_none h = (multipliers_of m n es, multipliers-block h, multipliers_refute m n es pos shaped h)

    pub block-below : Below m (drop 1 (block_of m n es))
    block-below = ⊎_elim unsolved solved (start_found m n es)
      where
        unsolved : start_of m n es ≡ none → Below m (drop 1 (block_of m n es))
        unsolved h =
            rw (multipliers-block h)
            ((refutes_is m n es (multipliers_of m n es)).0 (multipliers_refute m n es pos shaped h)).below

        solved : (c : List ℕ) × (start_of m n es ≡ some c) → Below m (drop 1 (block_of m n es))
        solved (c, h) =
            rw (block_some c h)
            (below-append m c (flatten (steps_of m n es)) (vector-below m n c (start_solves m n es c h).0)
            (flat_below m n (steps_of m n es) (steps_vectors m n es)))

    -- "16 equations and 16 unknowns": 17 vectors of 16 entries, and the head
    pub block-length : length es ≤ 16 → n ≤ 16 → length (block_of m n es) ≤ 273
    block-length equations unknowns = ⊎_elim unsolved solved (start_found m n es)
      where
        unsolved : start_of m n es ≡ none → length (block_of m n es) ≤ 273
        unsolved h =
            rw (multipliers-block h)
            (omega (
              arith,
              ((refutes_is m n es (multipliers_of m n es)).0 (multipliers_refute m n es pos shaped h)).one_each,
            ))

        solved : (c : List ℕ) × (start_of m n es ≡ some c) → length (block_of m n es) ≤ 273
        solved (c, h) =
            omega (
              arith,
              solved_length c h,
              mul-le-mul {n₁ = length (steps_of m n es)} {m₁ = n} {n₂ = 16} {m₂ = 16}
                  (omega (arith, steps_few m n es)) unknowns,
            )
