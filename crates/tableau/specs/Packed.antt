-- Rows packed one behind the other in one list of numbers. Row j of a basis has no columns before j, so each row is a number
-- shorter than the one before it, and the rows behind the first are packed in what is left of the list. Definitions only.
use Rattle.std.specs.Prelude.{◌≡◌, List, [], ◌∷◌, ℕ, zero, suc, pred, ◌+◌, ◌<◌, ◌≤◌, length, take, drop, replicate}
use Rattle.equations.specs.Vectors.{Below}

-- w rows, the first of l numbers
abbrev pub rows : ℕ → ℕ → List ℕ → List (List ℕ)
rows zero l s = []
rows (suc w) l s = take l s ∷ rows w (pred l) (drop l s)

-- how many numbers they are
abbrev pub triangle : ℕ → ℕ → ℕ
triangle zero l = 0
triangle (suc w) l = l + triangle w (pred l)

-- what every row of a basis keeps to: a pivot from 1 to m, and residues behind it, which are zeros where the pivot is m
abbrev pub RowKept : ℕ → List ℕ → Type 0
RowKept m [] = Unit {0}
RowKept m (d ∷ r) = (0 < d) × (d ≤ m) × Below m r × (d ≡ m → r ≡ replicate (length r) 0)

abbrev pub Kept : ℕ → List (List ℕ) → Type 0
Kept m [] = Unit {0}
Kept m (r ∷ B) = RowKept m r × Kept m B
