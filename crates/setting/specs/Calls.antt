-- The call that makes a sheet for a claim: what it asks, in which order, what it gives back, and what it leaves in the buffer. Definitions
-- only.
use Rattle.std.specs.Prelude.{List, [], ◌∷◌, ◌++◌, ℕ, ◌+◌, ◌*◌, length, Result, Ok, Err}
use Rattle.questions.specs.Questions.{Question, asks, first_no, unless_refused, allowed_modulus}
use Rattle.questions.specs.Reply.{Reply, gives_in, refuses, result_of, memory_after}
use Rattle.equations.specs.Equation.{Equation}
use Rattle.system.specs.Wanted.{wanted_of}
use Rattle.words.specs.Words.{coefficient_kind, right_kind, words_in, words_of}
use Rattle.ledger.specs.Shapes.{claim_from}
use Rattle.ledger.specs.Questions.{allowed_unknowns, claim_questions}

-- "the only refusals are those of open, then of a claim's kind 13 words, shape and entries"
abbrev pub setting_questions : ℕ → ℕ → List ℕ → List Question
setting_questions m n ws = asks 2 (allowed_modulus m) ∷ asks 3 (allowed_unknowns n) ∷ claim_questions m n ws

-- "then 8 for a buffer of fewer than 2·n·(n+1) words"
abbrev pub sheet_room : ℕ → ℕ
sheet_room n = 2 * n * (n + 1)

-- memory with the words of an equation, as an add takes them: "Equation: n of kind 3, one of kind 4."
abbrev pub equation_memory : Equation → List ℕ
equation_memory e = words_of coefficient_kind e.coefficients ++ words_of right_kind (e.right ∷ [])

-- with those of several equations, one behind the other
abbrev pub sheet_memory : List Equation → List ℕ
sheet_memory [] = []
sheet_memory (e ∷ es) = equation_memory e ++ sheet_memory es

-- "The result carries the number of equations"
abbrev pub made : ℕ → List Equation → Reply (Result ℕ ℕ)
made n es = gives_in (sheet_room n) (Ok (length es)) (sheet_memory es)

-- the equations for the claim that lies in words
abbrev pub equations_for : ℕ → ℕ → List ℕ → List Equation
equations_for m n ws = wanted_of m n (claim_from n (words_in ws))

-- What the call has to say: the equations, or the refusal with its number.
unfoldable pub made_reply : ℕ → ℕ → List ℕ → Reply (Result ℕ ℕ)
made_reply m n ws = unless_refused refuses (first_no (setting_questions m n ws)) (made n (equations_for m n ws))

-- What it gives back, where the buffer holds `old`: 8 is asked last.
unfoldable pub made_of : ℕ → ℕ → List ℕ → List ℕ → Result ℕ ℕ
made_of m n ws old = result_of Err (made_reply m n ws) old

-- What the buffer holds then: "words past them keep their content"; all of it does where the call is refused.
unfoldable pub sheet_after : ℕ → ℕ → List ℕ → List ℕ → List ℕ
sheet_after m n ws old = memory_after (made_reply m n ws) old
