-- What Block and Reasons say of equations mod one m, said of lines with a modulus of their own. Each promise is a type; proofs/Lines.antt
-- keeps it. Definitions only.
use Rattle.std.specs.Prelude.{◌≡◌, List, ℕ, ◌<◌, T}
use Rattle.std.proofs.Math.Option.{none}
use Rattle.equations.specs.Equation.{Equation}
use Rattle.equations.specs.Claim.{Claim}
use Rattle.equations.specs.Reasons.{mark_beside, Formed}
use Rattle.equations.specs.Line.{Line, Moduli, ShapedLines, line_start, line_steps, line_mark, scaled, line_refutes, lines_mod}
use Rattle.equations.specs.LineReasons.{line_reason, LineSays}
use Rattle.elimination.specs.Multipliers.{multipliers_of}
use Rattle.system.specs.Block.{block_with, block_of}
use Rattle.system.specs.Reasons.{shown_for, shown_with}

-- Which multipliers are shown "is left free": "Multipliers apply to the line with both sides times m/q", and ours are those of the lines so
-- multiplied.
abbrev pub line_multipliers : ℕ → ℕ → List Line → List ℕ
line_multipliers m n ls = multipliers_of m n (scaled m ls)

-- the numbers of the answer block to lines
unfoldable pub line_block : ℕ → ℕ → List Line → List ℕ
line_block m n ls = block_with (line_start m n ls) (line_steps m n ls) (line_multipliers m n ls)

-- "Which solution or multipliers are shown, is free": ours are those of the lines with both sides times m/q
unfoldable pub line_shown : ℕ → ℕ → List Line → Claim → List ℕ
line_shown m n ls claim = shown_for m n (scaled m ls) claim (line_reason m n ls claim)

-- "it shows multipliers, one for each equation, under which they add up mod m to 0 = a number that is not 0"
abbrev pub LineMultipliersRefute : Type 0
LineMultipliersRefute =
    (m n : ℕ) (ls : List Line) → 0 < m → Moduli m ls → ShapedLines n ls → line_start m n ls ≡ none
    → T (line_refutes m n ls (line_multipliers m n ls))

-- "each failed one gives a reason that is true as stated", and so does each long one
abbrev pub TrueLineReason : Type 0
TrueLineReason =
    (m n : ℕ) (ls : List Line) (claim : Claim) → 0 < m → Moduli m ls → ShapedLines n ls → Formed m n claim
    → LineSays m n ls claim (line_reason m n ls claim) (line_shown m n ls claim)

-- "A passed claim gives no reason, and each failed one gives a reason"; "for a long claim, the number of its first superfluous step": the
-- reason goes with the mark
abbrev pub SameLineVerdict : Type 0
SameLineVerdict =
    (m n : ℕ) (ls : List Line) (claim : Claim) → 0 < m → Moduli m ls → ShapedLines n ls → Formed m n claim
    → mark_beside (line_reason m n ls claim) ≡ line_mark m n ls claim

-- "without it .. q is m": for lines that are all mod m, block and reason show what they showed before
abbrev pub PlainShown : Type 0
PlainShown =
    (m n : ℕ) (es : List Equation) → 0 < m
    → (line_block m n (lines_mod m es) ≡ block_of m n es)
    × ((claim : Claim) → line_shown m n (lines_mod m es) claim ≡ shown_with m n es claim)
