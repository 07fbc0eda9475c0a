-- Where nothing solves the lines, each mod its own q, the multipliers of the scaled lines refute them:
-- `line_multipliers_refute`. "Multipliers apply to the line with both sides times m/q, still mod m."
use mathlib.Core.Path.{◌≡◌, sym, ◌∙◌}
use mathlib.Core.List.{List}
use mathlib.Core.Option.{none}
use Prim.Native.Nat.{ℕ, ◌<◌}
use lib.Dec.{T}
use Rattle.equations.specs.Line.{Line, Moduli, ShapedLines, line_start, scaled, line_refutes}
use Rattle.equations.proofs.Scaled.{scaled-shaped}
use Rattle.equations.proofs.LineAnswer.{line_start_lem}
use Rattle.elimination.specs.Multipliers.{multipliers_of}
use Rattle.elimination.proofs.Multipliers.{multipliers_refute}

pub line_multipliers_refute : (m n : ℕ) (ls : List Line) → 0 < m → Moduli m ls → ShapedLines n ls
    → line_start m n ls ≡ none → T (line_refutes m n ls (multipliers_of m n (scaled m ls)))
unfolding line_refutes
line_multipliers_refute m n ls pos moduli shaped h =
    multipliers_refute m n (scaled m ls) pos (scaled-shaped m n ls shaped) (sym (line_start_lem m n pos ls moduli) ∙ h)
