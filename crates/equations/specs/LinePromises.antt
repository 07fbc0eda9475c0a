-- Demand 2 about lines, each mod its own q: the promises of Promises.antt once more, with `holds` for `solves`; that the lines may as well be
-- read mod m, with both sides times m/q; and that lines which are all mod m are what equations were before. Each promise is a type;
-- proofs/LinePromises.antt keeps it. Definitions only.
use Rattle.std.specs.Prelude.{◌≡◌, ◌↔◌, Bool, ◌&&◌, List, ℕ, ◌<◌, get_or, T}
use Rattle.std.proofs.Math.Option.{none, some}
use Rattle.residue.specs.Divides.{Divides}
use Rattle.equations.specs.Lists.{count}
use Rattle.equations.specs.Vectors.{Vector, First, vectors, combination}
use Rattle.equations.specs.Equation.{Equation, solves}
use Rattle.equations.specs.Answer.{start_of, leads_at, step_at, steps_of, leading, range_product}
use Rattle.equations.specs.Multipliers.{refutes}
use Rattle.equations.specs.Claim.{Claim, no_solution, from}
use Rattle.equations.specs.Marks.{mark_of}
use Rattle.equations.specs.Reasons.{reason_of}
use Rattle.equations.specs.Promises.{Within, Written}
use Rattle.equations.specs.Line.{Line, Moduli, holds, level, line_start, line_step_at, line_steps, line_is_right, line_mark, scaled, line_refutes, lines_mod}
use Rattle.equations.specs.LineReasons.{line_reason}

-- "Starting vector: the first solution in dictionary order."
abbrev pub LineStartFirst : Type 0
LineStartFirst = (m n : ℕ) (ls : List Line) (c : List ℕ) → (line_start m n ls ≡ some c) ↔ First m n (holds ls) c

-- there is no starting vector exactly when no vector of residues solves all those lines
abbrev pub LineNoStart : Type 0
LineNoStart =
    (m n : ℕ) (ls : List Line)
    → (line_start m n ls ≡ none) ↔ ((v : List ℕ) → Vector m n v → T (holds ls v) → ⊥)

-- it solves the lines "with right sides put to 0", each mod its q, and its "first non-zero entry is at j"
abbrev pub is_line_step : List Line → ℕ → List ℕ → Bool
is_line_step ls j v = holds (level ls) v && leads_at j v

-- "Step at place j: .. the first in dictionary order."
abbrev pub LineStepFirst : Type 0
LineStepFirst =
    (m n j : ℕ) (ls : List Line) (s : List ℕ) → (line_step_at m n ls j ≡ some s) ↔ First m n (is_line_step ls j) s

-- "A place without such a vector has no step.", and every other place has one
abbrev pub LineNoStep : Type 0
LineNoStep =
    (m n j : ℕ) (ls : List Line)
    → (line_step_at m n ls j ≡ none) ↔ ((v : List ℕ) → Vector m n v → T (is_line_step ls j v) → ⊥)

-- "a vector solves them all if and only if it is the starting vector plus a combination of the steps"
abbrev pub LineComplete : Type 0
LineComplete =
    (m n : ℕ) (ls : List Line) (c : List ℕ) → 0 < m → Moduli m ls → line_start m n ls ≡ some c
    → (v : List ℕ) → Vector m n v → T (holds ls v) ↔ Written m c (line_steps m n ls) v

-- "and within the stated coefficient ranges it is so in one way"
abbrev pub LineUnique : Type 0
LineUnique =
    (m n : ℕ) (ls : List Line) (c : List ℕ) → 0 < m → Moduli m ls → line_start m n ls ≡ some c
    → (ts us : List ℕ) → Within m (line_steps m n ls) ts → Within m (line_steps m n ls) us
    → combination m c (line_steps m n ls) ts ≡ combination m c (line_steps m n ls) us → ts ≡ us

-- "If d is the step's entry at its place, d divides m"; and it is the number by which the ranges go
abbrev pub LineStepDivides : Type 0
LineStepDivides =
    (m n j : ℕ) (ls : List Line) (s : List ℕ) → 0 < m → Moduli m ls → line_step_at m n ls j ≡ some s
    → (leading s ≡ get_or s j 0) × Divides (get_or s j 0) m

-- "their number is the product of the m/d"
abbrev pub LineCounted : Type 0
LineCounted =
    (m n : ℕ) (ls : List Line) (c : List ℕ) → 0 < m → Moduli m ls → line_start m n ls ≡ some c
    → count (holds ls) (vectors m n) ≡ range_product m (line_steps m n ls)

-- the answer, handed in as a claim, is right
abbrev pub LineOwnAnswer : Type 0
LineOwnAnswer =
    (m n : ℕ) (ls : List Line) → 0 < m → Moduli m ls
    → ((c : List ℕ) → line_start m n ls ≡ some c → T (line_is_right m n ls (from c (line_steps m n ls))))
    × (line_start m n ls ≡ none → T (line_is_right m n ls no_solution))

-- multipliers that refute the lines, "with both sides times m/q, still mod m", leave no solution
abbrev pub LineRefuted : Type 0
LineRefuted =
    (m n : ℕ) (ls : List Line) (ks : List ℕ) → 0 < m → Moduli m ls → T (line_refutes m n ls ks)
    → line_start m n ls ≡ none

-- the lines with both sides times m/q, read mod m, are solved where the lines hold
abbrev pub ScaledAlike : Type 0
ScaledAlike =
    (m : ℕ) (ls : List Line) → 0 < m → Moduli m ls → (v : List ℕ) → holds ls v ≡ solves m (scaled m ls) v

-- "without it .. q is m": lines that are all mod m say what equations said before
abbrev pub PlainAlike : Type 0
PlainAlike =
    (m n : ℕ) (es : List Equation) → 0 < m
    → ((v : List ℕ) → holds (lines_mod m es) v ≡ solves m es v)
    × (line_start m n (lines_mod m es) ≡ start_of m n es)
    × ((j : ℕ) → line_step_at m n (lines_mod m es) j ≡ step_at m n es j)
    × (line_steps m n (lines_mod m es) ≡ steps_of m n es)
    × ((ks : List ℕ) → line_refutes m n (lines_mod m es) ks ≡ refutes m n es ks)
    × ((claim : Claim) → line_mark m n (lines_mod m es) claim ≡ mark_of m n es claim)
    × ((claim : Claim) → line_reason m n (lines_mod m es) claim ≡ reason_of m n es claim)
