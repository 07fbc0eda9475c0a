-- Lines that lie in one list of numbers, n + 1 numbers each, and are put into a basis: as they are, which is called plain,
-- or as equations in n unknowns with k carried columns. Definitions only.
use Rattle.std.specs.Prelude.{◌≡◌, Bool, true, false, List, [], ◌∷◌, ℕ, zero, suc, ◌+◌, ◌/◌, ◌<◌, length, take, drop}
use Rattle.equations.specs.Vectors.{unit}
use Rattle.equations.specs.Lines.{equation_at}
use Rattle.elimination.specs.Tableau.{line}

-- what is asked: a plain line carries nothing, and the 1 that an equation carries is a residue
abbrev pub Loadable : Bool → ℕ → ℕ → Type 0
Loadable true m k = (0 < m) × (k ≡ 0)
Loadable false m k = 1 < m

-- the first of them, which has the number i
abbrev pub line_at : Bool → ℕ → ℕ → ℕ → ℕ → List ℕ → List ℕ
line_at true m n k i s = take (n + 1) s
line_at false m n k i s = line m (equation_at n s) (unit k i)

-- the first c of them
abbrev pub lines_within : ℕ → Bool → ℕ → ℕ → ℕ → ℕ → List ℕ → List (List ℕ)
lines_within zero plain m n k i s = []
lines_within (suc c) plain m n k i s = line_at plain m n k i s ∷ lines_within c plain m n k (suc i) (drop (suc n) s)

-- all of them; numbers behind the last whole line do not count
unfoldable pub lines_of : Bool → ℕ → ℕ → ℕ → ℕ → List ℕ → List (List ℕ)
lines_of plain m n k i s = lines_within (length s / suc n) plain m n k i s
