-- What is read off a basis B of equations in n unknowns mod m. The unknowns stand in reverse order in it, so that
-- column i belongs to the place n - 1 - i. Definitions only.
use Rattle.std.specs.Prelude.{◌≡◌, cond, ℕ, zero, suc, ◌+◌, ◌-◌, ◌*◌, ◌/◌, ◌<◌, ◌≤◌, length, replicate, eqb, Option as Optional, Some, None}
use mathlib.Core.List.{List, [], ◌∷◌, flatten}
use Rattle.std.proofs.Math.Option.{Option, none, some}
use Rattle.slices.specs.Over.{over}
use Rattle.equations.specs.Equation.{Equation}
use Rattle.equations.specs.Answer.{and_then, start_of, steps_of}
use Rattle.elimination.specs.Basis.{pivot}
use Rattle.elimination.specs.Substitution.{extend}
use Rattle.elimination.specs.Tableau.{turned}
use Rattle.tableau.specs.Packed.{rows, triangle, Kept}

-- the rows that lie in s, with no carried column
abbrev pub rows_in : ℕ → List ℕ → List (List ℕ)
rows_in n s = rows (n + 1) (n + 1) s

-- they are those of a basis of equations in n unknowns
pub record Readable (m n : ℕ) (s : List ℕ) : Type 0 where
  pub modulus : 1 < m
  pub unknowns : n ≤ 16
  pub size : length s ≡ triangle (n + 1) (n + 1)
  pub kept : Kept m (rows_in n s)

-- the vector with e in column i, zeros in those behind it, and what back substitution puts in front
unfoldable pub read_vector : ℕ → ℕ → List (List ℕ) → ℕ → ℕ → List ℕ
read_vector m n B i e = turned n (extend m i B (e ∷ replicate (n - i) 0)) []

-- the step of column i, if it has one
unfoldable pub read_step : ℕ → ℕ → List (List ℕ) → ℕ → Option (List ℕ)
read_step m n B i = cond (eqb (pivot i B) 1) none (some (read_vector m n B i (m / pivot i B)))

-- the steps of the first i columns, which are those of the last i places
abbrev pub read_steps : ℕ → ℕ → List (List ℕ) → ℕ → List (List ℕ)
read_steps m n B zero = []
read_steps m n B (suc i) = and_then (read_step m n B i) (read_steps m n B i)

-- the starting vector, then all steps
unfoldable pub read_vectors : ℕ → ℕ → List (List ℕ) → List (List ℕ)
read_vectors m n B = read_vector m n B n 1 ∷ read_steps m n B n

-- the vectors of the answer itself; there are none where nothing solves the equations
abbrev pub vectors_with : Option (List ℕ) → List (List ℕ) → List (List ℕ)
vectors_with none steps = []
vectors_with (some start) steps = start ∷ steps

unfoldable pub answer_vectors : ℕ → ℕ → List Equation → List (List ℕ)
answer_vectors m n es = vectors_with (start_of m n es) (steps_of m n es)

-- the r vectors vs, n numbers each, are written one behind the other to the front of s, which held `old`
pub record Laid (n : ℕ) (vs : List (List ℕ)) (old s : List ℕ) (r : ℕ) : Type 0 where
  pub count : r ≡ length vs
  pub size : length (flatten vs) ≡ r * n
  pub written : s ≡ over (flatten vs) old

-- the vectors of the answer are written to the front of s, which held `old`, and r is their number, if there is a solution
abbrev pub Solved : ℕ → ℕ → List Equation → List ℕ → List ℕ → Optional ℕ → Type 0
Solved m n es old s None = Laid n (answer_vectors m n es) old s 0
Solved m n es old s (Some r) = (0 < r) × (r ≤ n + 1) × Laid n (answer_vectors m n es) old s r
