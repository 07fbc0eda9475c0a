-- What becomes of a text: the equation that is typed there, if there is one, and what the questions ask of it. Definitions only.
use Rattle.std.specs.Prelude.{Bool, true, false, cond, List, [], ℕ, leb, length}
use Rattle.std.proofs.Math.Option.{Option, none, some}
use Rattle.equations.specs.Equation.{Equation}
use Rattle.grammar.specs.Tree.{Sides}
use Rattle.grammar.specs.Grammar.{largest_text}
use Rattle.grammar.specs.Linear.{sides_within, sides_linear, equation_of}
use Rattle.grammar.specs.Model.Reader.{sides_of, trees, as_sides}

-- The typed equation that a text of at most 256 bytes is. A reader decides this, and need not be believed: the promise `ReadExactly`
-- says all of `typed_of`, in the grammar's words.
unfoldable pub typed_of : List ℕ → Option Sides
typed_of text = cond (leb (length text) largest_text) (as_sides (sides_of trees text)) none

-- whether an equation is typed that passes the test
abbrev pub passes : (Sides → Bool) → Option Sides → Bool
passes test none = false
passes test (some e) = test e

-- "not in the grammar or too long 11"
abbrev pub is_typed : List ℕ → Bool
is_typed text = passes (λ e. true) (typed_of text)

-- "then an unknown beyond n 12"
abbrev pub is_within : ℕ → List ℕ → Bool
is_within n text = passes (sides_within n) (typed_of text)

-- "then not linear 13"
abbrev pub is_linear : List ℕ → Bool
is_linear text = passes sides_linear (typed_of text)

-- the equation that a text adds; where none is typed there is none, and what stands for it is never added
abbrev pub equation_in : ℕ → ℕ → Option Sides → Equation
equation_in m n none = record { coefficients = []; right = 0 }
equation_in m n (some e) = equation_of m n e
