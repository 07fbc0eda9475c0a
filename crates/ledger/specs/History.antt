-- What an accepted call that opens, adds or strikes does to a ledger; the ledger after a call, and after a list of calls. It "is fed the
-- calls alone" and "sees neither the sheet's own record nor what a call gives back". Definitions only.
use Rattle.std.specs.Prelude.{List, [], ◌∷◌, ◌++◌, ℕ, zero, suc, ◌-◌, length}
use Rattle.questions.specs.Questions.{unless_refused}
use Rattle.equations.specs.Lists.{without}
use Rattle.equations.specs.Line.{Line}
use Rattle.words.specs.Words.{words_in}
use Rattle.grammar.specs.Texts.{typed_of, equation_in}
use Rattle.ledger.specs.Ledger.{Ledger, unopened, opened, modulus_of, unknowns_of, lines_in}
use Rattle.ledger.specs.Shapes.{number_at, line_from}
use Rattle.ledger.specs.Calls.{Entry, opens, adds, types, strikes, Call, enters, queries}
use Rattle.ledger.specs.Questions.{refusal_of}

-- m and n with no lines; a line more; the line at this place, counted from 0, gone
pub data Effect : Type 0 where
  begins : ℕ → ℕ → Effect
  gains : Line → Effect
  loses : ℕ → Effect

-- "The strike's number is a place, 1 for the first; 0 means the last.": of so many lines, counted from 0
abbrev pub struck_at : ℕ → ℕ → ℕ
struck_at held zero = held - 1
struck_at held (suc j) = j

abbrev pub effect_of : Ledger → Entry → Effect
effect_of l (opens ws) = begins (number_at (words_in ws) 0) (number_at (words_in ws) 1)
effect_of l (adds ws) = gains (line_from (modulus_of l) (unknowns_of l) (words_in ws))
-- "The unknowns' coefficients, brought to the left, and the plain numbers, brought to the right, all mod m, make the equation added."; "for
-- typed text, q is m"
effect_of l (types text) =
    gains (record { modulus = modulus_of l; equation = equation_in (modulus_of l) (unknowns_of l) (typed_of text) })
-- "Accepted strike: the last equation goes."; "The ledger's strike is amended so": the one at its place goes
effect_of l (strikes place) = loses (struck_at (length (lines_in l)) place)

-- the ledger after it; an unopened one has no list
abbrev pub changed : Ledger → Effect → Ledger
-- "Accepted open: m, n, empty list, whatever was there before."
changed l (begins m n) = opened m n []
-- "Accepted add: the equation goes to the end, also when the list already has no solution."
changed unopened (gains line) = unopened
changed (opened m n ls) (gains line) = opened m n (ls ++ (line ∷ []))
-- "Later lines close up in order"
changed unopened (loses j) = unopened
changed (opened m n ls) (loses j) = opened m n (without j ls)

-- "Answer, mark and refused calls: unchanged."
unfoldable pub enter : Ledger → Call → Ledger
enter l (enters e) = unless_refused (λ (k : ℕ). l) (refusal_of l (enters e)) (changed l (effect_of l e))
enter l (queries q) = l

-- the ledger after more calls
unfoldable pub ledger_from : Ledger → List Call → Ledger
ledger_from l [] = l
ledger_from l (c ∷ calls) = ledger_from (enter l c) calls

-- "It begins unopened and is fed the calls alone"
abbrev pub ledger : List Call → Ledger
ledger calls = ledger_from unopened calls
