-- The ledger: what a sheet holds, in document 01's terms; in the field's, the abstract state that a list of calls leads to.
-- Definitions only.
use Rattle.std.specs.Prelude.{Bool, true, false, List, [], ℕ}
use Rattle.equations.specs.Line.{Line}

-- 'The ledger is "unopened", or m, n and a list of equations.' Each has a modulus of its own, S-6: they are lines.
pub data Ledger : Type 0 where
  unopened : Ledger
  opened : ℕ → ℕ → List Line → Ledger

-- "its limits, 16 equations and 16 unknowns, belong to it"
abbrev pub most_equations : ℕ
most_equations = 16

abbrev pub most_unknowns : ℕ
most_unknowns = 16

abbrev pub is_opened : Ledger → Bool
is_opened unopened = false
is_opened (opened m n ls) = true

-- m, n and the list; an unopened ledger has none of them, so that they count as 0 and as no lines
abbrev pub modulus_of : Ledger → ℕ
modulus_of unopened = 0
modulus_of (opened m n ls) = m

abbrev pub unknowns_of : Ledger → ℕ
unknowns_of unopened = 0
unknowns_of (opened m n ls) = n

abbrev pub lines_in : Ledger → List Line
lines_in unopened = []
lines_in (opened m n ls) = ls
