-- Back substitution: from the last column to the first, the least entry that makes the row 0. Definitions only.
use Rattle.std.specs.Prelude.{List, [], ◌∷◌, ℕ, zero, suc, ◌/◌, ◌%◌}
use Rattle.residue.specs.Negative.{negative}
use Rattle.equations.specs.Equation.{dot}

-- the least x with d·x + r ≡ 0 (mod m), where there is one and d divides m
unfoldable pub place : ℕ → ℕ → ℕ → ℕ
place m d r = negative m r % m / d

abbrev pub fit : ℕ → List ℕ → List ℕ → ℕ
fit m [] Y = 0
fit m (d ∷ r) Y = place m d (dot r Y)

-- the entries of the first j columns put in front of T, which has those behind them
abbrev pub extend : ℕ → ℕ → List (List ℕ) → List ℕ → List ℕ
extend m zero B T = T
extend m (suc j) [] T = T
extend m (suc j) (r ∷ B) T = let Y = extend m j B T in fit m r Y ∷ Y
