-- A sheet is numbers in its caller's memory: the ledger that they read as, whatever they are, and the numbers after an accepted call, by
-- its effect. Definitions only.
use Rattle.std.specs.Prelude.{Bool, cond, ◌&&◌, List, [], ◌∷◌, ◌++◌, ℕ, suc, ◌+◌, ◌-◌, ◌*◌, eqb, leb, length, take, drop, get_or, replicate}
use Rattle.slices.specs.Over.{over}
use Rattle.questions.specs.Questions.{allowed_modulus}
use Rattle.equations.specs.Equation.{Equation}
use Rattle.equations.specs.Lines.{equations_of}
use Rattle.equations.specs.Multipliers.{all_below}
use Rattle.equations.specs.Line.{scaled_one}
use Rattle.lines.specs.Stored.{in_row, all_fit, stored}
use Rattle.ledger.specs.Ledger.{Ledger, unopened, opened, most_equations}
use Rattle.ledger.specs.Questions.{allowed_unknowns}
use Rattle.ledger.specs.History.{Effect, begins, gains, loses}

-- what the memory holds; the code's type of this name has these numbers
abbrev pub Sheet : Type 0
Sheet = List ℕ

-- cells for 16 lines, each with 16 coefficients and a right side
abbrev pub room : ℕ
room = 272

-- where they begin: behind the modulus, the unknowns, how many lines a sheet holds, and a modulus for each of 16 lines
abbrev pub cells_at : ℕ
cells_at = 3 + most_equations

-- how many numbers a sheet has
abbrev pub size : ℕ
size = cells_at + room

abbrev pub modulus_in : Sheet → ℕ
modulus_in s = get_or s 0 0

abbrev pub unknowns_in : Sheet → ℕ
unknowns_in s = get_or s 1 0

abbrev pub held_in : Sheet → ℕ
held_in s = get_or s 2 0

abbrev pub moduli_in : Sheet → List ℕ
moduli_in s = take most_equations (drop 3 s)

abbrev pub cells_in : Sheet → List ℕ
cells_in s = drop cells_at s

abbrev pub sheet_of : ℕ → ℕ → ℕ → List ℕ → List ℕ → Sheet
sheet_of m n held moduli cells = m ∷ n ∷ held ∷ (moduli ++ cells)

-- "A fresh sheet is unopened.": zeroed memory
unfoldable pub fresh : Sheet
fresh = replicate size 0

-- how many cells k lines take
abbrev pub cells_of : Sheet → ℕ → ℕ
cells_of s k = k * (unknowns_in s + 1)

-- the moduli of the lines that it holds
abbrev pub own_in : Sheet → List ℕ
own_in s = take (held_in s) (moduli_in s)

-- the cells that hold them, and the equations that lie in these: each line "with both sides times m/q"
abbrev pub numbers_in : Sheet → List ℕ
numbers_in s = take (cells_of s (held_in s)) (cells_in s)

abbrev pub lying_in : Sheet → List Equation
lying_in s = equations_of (unknowns_in s) (numbers_in s)

-- whether the numbers that count are such as calls put there; memory always has `size` of them
abbrev pub readable : Sheet → Bool
readable s =
    allowed_modulus (modulus_in s) && allowed_unknowns (unknowns_in s) && leb (held_in s) most_equations
    && eqb (length s) size && all_below (modulus_in s) (numbers_in s) && all_fit (modulus_in s) (own_in s) (lying_in s)

-- The ledger that a sheet reads as. Other numbers, such as those of a fresh sheet, read as unopened.
unfoldable pub ledger_of : Sheet → Ledger
ledger_of s = cond (readable s) (opened (modulus_in s) (unknowns_in s) (stored (modulus_in s) (own_in s) (lying_in s))) unopened

-- a list with xs written from place i on
abbrev pub written_at : ℕ → List ℕ → List ℕ → List ℕ
written_at i xs ys = take i ys ++ over xs (drop i ys)

-- the numbers after a call with this effect
abbrev pub record_by : Sheet → Effect → Sheet
record_by s (begins m n) = sheet_of m n 0 (replicate most_equations 0) (replicate room 0)
-- the line behind those that it holds, with both sides times m/q, and its modulus
record_by s (gains line) =
    sheet_of (modulus_in s) (unknowns_in s) (held_in s + 1) (written_at (held_in s) (line.modulus ∷ []) (moduli_in s))
    (written_at (cells_of s (held_in s)) (in_row (scaled_one (modulus_in s) line)) (cells_in s))
-- the lines behind place j one place up; what stands behind them keeps what it held
record_by s (loses j) =
    sheet_of (modulus_in s) (unknowns_in s) (held_in s - 1) (written_at j (drop (suc j) (own_in s)) (moduli_in s))
    (written_at (cells_of s j) (drop (cells_of s (suc j)) (numbers_in s)) (cells_in s))
