-- Demand 2, and what demand 3 says of an answer, about the numbers of a block, which `solving::solve` returns by its
-- contract. The promise is a type; proofs/Promises.antt keeps it. Definitions only.
use Rattle.std.specs.Prelude.{◌≡◌, ◌↔◌, List, ◌∷◌, ℕ, ◌-◌, ◌<◌, take, drop, T}
use Rattle.equations.specs.Lists.{count}
use Rattle.equations.specs.Vectors.{Vector, vectors, combination}
use Rattle.equations.specs.Equation.{Equation, solves}
use Rattle.equations.specs.Answer.{range_product}
use Rattle.equations.specs.Multipliers.{refutes}
use Rattle.equations.specs.Promises.{Within, Written}
use Rattle.equations.specs.Lines.{equations_of}
use Rattle.system.specs.Posed.{Posed}
use Rattle.system.specs.Block.{block_of}
use Rattle.system.specs.Claims.{vectors_within}

-- the first n numbers
abbrev pub shown_start : ℕ → List ℕ → List ℕ
shown_start n numbers = take n numbers

-- the head counts the starting vector and the steps: behind the starting vector stand head - 1 steps
abbrev pub shown_steps : ℕ → ℕ → List ℕ → List (List ℕ)
shown_steps n head numbers = vectors_within (head - 1) n (drop n numbers)

-- A head with the numbers behind it is an answer to es. `Within` and `Written` ask for one coefficient for each step
-- that is shown, within the step's range 0..m/d-1.
pub record Answers (m n : ℕ) (es : List Equation) (head : ℕ) (numbers : List ℕ) : Type 0 where
  -- 'says "no solution" exactly when no vector of residues solves all those equations'
  pub none : (head ≡ 0) ↔ ((v : List ℕ) → Vector m n v → T (solves m es v) → ⊥)
  -- "In that case it shows multipliers, one for each equation, under which they add
  -- up mod m to 0 = a number that is not 0."
  pub multipliers : head ≡ 0 → T (refutes m n es numbers)
  -- "a vector solves them all if and only if it is the starting vector plus a combination of the steps"
  pub complete : 0 < head → (v : List ℕ) → Vector m n v
      → T (solves m es v) ↔ Written m (shown_start n numbers) (shown_steps n head numbers) v
  -- "and within the stated coefficient ranges it is so in one way"
  pub unique : 0 < head → (ts us : List ℕ) → Within m (shown_steps n head numbers) ts
      → Within m (shown_steps n head numbers) us
      → combination m (shown_start n numbers) (shown_steps n head numbers) ts
      ≡ combination m (shown_start n numbers) (shown_steps n head numbers) us → ts ≡ us
  -- "their number is the product of the m/d"
  pub counted : 0 < head → count (solves m es) (vectors m n) ≡ range_product m (shown_steps n head numbers)

abbrev pub Answered : Type 0
Answered =
    (m n head : ℕ) (lines numbers : List ℕ) → Posed m n lines → head ∷ numbers ≡ block_of m n (equations_of n lines)
    → Answers m n (equations_of n lines) head numbers
