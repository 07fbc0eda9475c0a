-- A basis: a row for each column, kept without the columns before its own, which are 0. A row begins with its
-- pivot, which divides m; the pivot m stands for "nothing there yet". Behind the w columns stand k carried ones,
-- which only follow along. Definitions only.
use Rattle.std.specs.Prelude.{List, [], ◌∷◌, ℕ, zero, suc, ◌+◌, replicate}
use Rattle.equations.specs.Vectors.{combine}
use Rattle.elimination.specs.Step.{step_of}

-- the basis with the line W put in, column by column
abbrev pub insert : ℕ → List (List ℕ) → List ℕ → List (List ℕ)
insert m [] W = []
insert m ([] ∷ B) W = [] ∷ B
insert m ((d ∷ r) ∷ B) [] = (d ∷ r) ∷ B
insert m ((d ∷ r) ∷ B) (zero ∷ W) = (d ∷ r) ∷ insert m B W
insert m ((d ∷ r) ∷ B) (suc v ∷ W) =
    let x = step_of m d (suc v) in
    (x.g ∷ combine m x.s x.t r W) ∷ insert m B (combine m x.p x.n r W)

abbrev pub inserts : ℕ → List (List ℕ) → List (List ℕ) → List (List ℕ)
inserts m B [] = B
inserts m B (l ∷ ls) = inserts m (insert m B l) ls

-- w columns, k carried ones, nothing there yet
abbrev pub empty : ℕ → ℕ → ℕ → List (List ℕ)
empty m k zero = []
empty m k (suc w) = (m ∷ replicate (w + k) 0) ∷ empty m k w

unfoldable pub basis : ℕ → ℕ → ℕ → List (List ℕ) → List (List ℕ)
basis m w k ls = inserts m (empty m k w) ls

abbrev pub pivot : ℕ → List (List ℕ) → ℕ
pivot i [] = 0
pivot zero ([] ∷ B) = 0
pivot zero ((d ∷ r) ∷ B) = d
pivot (suc i) (r ∷ B) = pivot i B
