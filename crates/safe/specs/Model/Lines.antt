-- The equations of a safe, one for each lock: the turns that reach it add up to the negative of its value. Definitions only.
use Rattle.std.specs.Prelude.{cond, List, [], ◌∷◌, ◌++◌, ℕ, zero, suc, ◌%◌}
use Rattle.residue.specs.Negative.{negative}
use Rattle.safe.specs.Locks.{meets}

-- how often the turn at place p counts for the lock at place i
abbrev pub coefficient : ℕ → ℕ → ℕ → ℕ
coefficient columns i p = cond (meets columns p i) 1 0

-- the same of k turns, the first of them at place p
abbrev pub coefficients : ℕ → ℕ → ℕ → ℕ → List ℕ
coefficients columns i p zero = []
coefficients columns i p (suc k) = coefficient columns i p ∷ coefficients columns i (suc p) k

-- the line of the lock at place i, whose value is x, for n turns
abbrev pub line_of : ℕ → ℕ → ℕ → ℕ → ℕ → List ℕ
line_of m columns n i x = coefficients columns i 0 n ++ (negative m x % m ∷ [])

-- the lines of the locks from place i on, one behind the other
abbrev pub lines_from : ℕ → ℕ → ℕ → ℕ → List ℕ → List ℕ
lines_from m columns n i [] = []
lines_from m columns n i (x ∷ values) = line_of m columns n i x ++ lines_from m columns n (suc i) values
