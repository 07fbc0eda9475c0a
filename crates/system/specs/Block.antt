-- The numbers of document 01's answer block. Definitions only.
use mathlib.Core.List.{List, ◌∷◌, ◌++◌, flatten}
use Rattle.std.proofs.Math.Option.{Option, none, some}
use Rattle.std.specs.Prelude.{ℕ, suc, length, drop, get_or, replicate}
use Rattle.slices.specs.Over.{over}
use Rattle.equations.specs.Equation.{Equation}
use Rattle.equations.specs.Answer.{start_of, steps_of}
use Rattle.elimination.specs.Multipliers.{multipliers_of}
use Rattle.system.specs.declared.solving.Answer.{Answer}
use Rattle.system.specs.declared.solving.Written.{Written}

-- the block for a starting vector, if there is one, for steps, and for multipliers
abbrev pub block_with : Option (List ℕ) → List (List ℕ) → List ℕ → List ℕ
block_with none steps ks = 0 ∷ ks
block_with (some start) steps ks = suc (length steps) ∷ (start ++ flatten steps)

-- "Answer block: the same form" as a claim, "a head, then head number times n entries .. a starting
-- vector with its steps"; "the steps follow the starting vector in the same buffer. Without solution:
-- head 0, then one multiplier per equation."
unfoldable pub block_of : ℕ → ℕ → List Equation → List ℕ
block_of m n es = block_with (start_of m n es) (steps_of m n es) (multipliers_of m n es)

-- the head, and the numbers behind it
abbrev pub head_of : ℕ → ℕ → List Equation → ℕ
head_of m n es = get_or (block_of m n es) 0 0

abbrev pub behind_head : ℕ → ℕ → List Equation → List ℕ
behind_head m n es = drop 1 (block_of m n es)

-- What is returned of a block whose numbers go to lent memory: the head, and how many they are.
unfoldable pub written_of : ℕ → ℕ → List Equation → Written
written_of m n es = record { head = head_of m n es; len = length (behind_head m n es) }

-- The same with the numbers, at the front of an array of zeros.
abbrev pub answer_from : List ℕ → Answer
answer_from block = record {
  head = get_or block 0 0;
  len = length (drop 1 block);
  numbers = over (drop 1 block) (replicate 272 0);
}

unfoldable pub answer_of : ℕ → ℕ → List Equation → Answer
answer_of m n es = answer_from (block_of m n es)
