-- The locks of a safe in their rows and columns, and what turning does to them. A lock's value is a residue mod m. Locks
-- lie "row after row" in one list; their places count from 0, as do rows and columns. Definitions only.
use Rattle.std.specs.Prelude.{Bool, cond, ◌||◌, List, [], ◌∷◌, ℕ, suc, ◌+◌, ◌/◌, ◌%◌, eqb}

abbrev pub row_of : ℕ → ℕ → ℕ
row_of columns place = place / columns

abbrev pub column_of : ℕ → ℕ → ℕ
column_of columns place = place % columns

-- whether the lock at place i stands in the row or in the column of the lock at place p; the lock at p itself does
abbrev pub meets : ℕ → ℕ → ℕ → Bool
meets columns p i = eqb (row_of columns i) (row_of columns p) || eqb (column_of columns i) (column_of columns p)

-- the locks from place i on, after the lock at place p was turned by t
abbrev pub turned_from : ℕ → ℕ → ℕ → ℕ → ℕ → List ℕ → List ℕ
turned_from m columns p t i [] = []
turned_from m columns p t i (x ∷ locks) = cond (meets columns p i) ((x + t) % m) x ∷ turned_from m columns p t (suc i) locks

-- "Turning a lock by t adds t to each lock in its row and column, itself once": all locks, after the lock at place p
-- was turned by t
abbrev pub turned : ℕ → ℕ → ℕ → ℕ → List ℕ → List ℕ
turned m columns p t locks = turned_from m columns p t 0 locks

-- the locks after several turns: the lock at place p turned by the first number, the lock at the next place by the next
-- number, and so on
abbrev pub after_from : ℕ → ℕ → ℕ → List ℕ → List ℕ → List ℕ
after_from m columns p [] locks = locks
after_from m columns p (t ∷ turns) locks = after_from m columns (suc p) turns (turned m columns p t locks)

-- the locks after turns "row after row", a number for each lock
unfoldable pub after_turns : ℕ → ℕ → List ℕ → List ℕ → List ℕ
after_turns m columns turns locks = after_from m columns 0 turns locks
