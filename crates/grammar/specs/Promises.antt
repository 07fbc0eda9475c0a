-- What is promised of typed equations, in the customer's words. Kept in proofs/Promises.antt. Definitions only.
use Rattle.std.specs.Prelude.{◌≡◌, ◌↔◌, List, ℕ, ◌≤◌, ◌<◌, T, length}
use Rattle.std.proofs.Math.Option.{some}
use Rattle.equations.specs.Vectors.{Vector}
use Rattle.equations.specs.Equation.{solves_one}
use Rattle.grammar.specs.Tree.{Sides}
use Rattle.grammar.specs.Grammar.{Typed, largest_text}
use Rattle.grammar.specs.Meaning.{HoldsMod}
use Rattle.grammar.specs.Linear.{sides_within, sides_linear, equation_of}
use Rattle.grammar.specs.Texts.{typed_of}

-- A text is one equation at most: two that it writes are equal.
abbrev pub Unambiguous : Type 0
Unambiguous = (e d : Sides) (text : List ℕ) → Typed e text → Typed d text → e ≡ d

-- A text is read as an equation exactly where it is in the grammar and has "at most 256 bytes".
abbrev pub ReadExactly : Type 0
ReadExactly = (e : Sides) (text : List ℕ) → (typed_of text ≡ some e) ↔ (Typed e text × (length text ≤ largest_text))

-- "an accepted text holds mod m at exactly the vectors that solve the equation added"
abbrev pub HoldsExactly : Type 0
HoldsExactly =
    (m n : ℕ) (e : Sides) → 0 < m → T (sides_within n e) → T (sides_linear e)
    → (v : List ℕ) → HoldsMod m e v ↔ T (solves_one m (equation_of m n e) v)

-- The equation added has n coefficients and a right side, "all mod m".
abbrev pub EquationShaped : Type 0
EquationShaped =
    (m n : ℕ) (e : Sides) → 0 < m → Vector m n (equation_of m n e).coefficients × ((equation_of m n e).right < m)
