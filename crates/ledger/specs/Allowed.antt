-- What an opened ledger holds: m, n and lines as the questions let them in. Definitions only.
use Rattle.std.specs.Prelude.{List, [], ◌∷◌, ℕ, ◌<◌, ◌≤◌, length}
use Rattle.questions.specs.Questions.{largest_modulus}
use Rattle.equations.specs.Vectors.{Below}
use Rattle.equations.specs.Line.{Line, Moduli, ShapedLines}
use Rattle.ledger.specs.Ledger.{most_equations, most_unknowns}

-- "Its numbers become residues mod q.": every coefficient and every right side is below its line's q, which is 2 at least
abbrev pub Residues : List Line → Type 0
Residues [] = Unit {0}
Residues (l ∷ ls) =
    (2 ≤ l.modulus) × Below l.modulus l.equation.coefficients × (l.equation.right < l.modulus) × Residues ls

-- "m in 2..4,294,967,295"; "Unknowns n: 1..16. Equations: 0..16."; each line has "a modulus q that divides the sheet's m"
pub record Allowed (m n : ℕ) (ls : List Line) : Type 0 where
  pub modulus : 2 ≤ m
  pub largest : m ≤ largest_modulus
  pub has_unknowns : 1 ≤ n
  pub unknowns : n ≤ most_unknowns
  pub equations : length ls ≤ most_equations
  pub shaped : ShapedLines n ls
  pub moduli : Moduli m ls
  pub residues : Residues ls
