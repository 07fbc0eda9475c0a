-- What is promised of the equations that the call writes. Each promise is a type; proofs/Promises.antt keeps it. Definitions only.
use Rattle.std.specs.Prelude.{◌≡◌, ◌⊎◌, List, [], ◌∷◌, ◌++◌, map, ℕ, ◌+◌, ◌≤◌, length}
use Rattle.questions.specs.Questions.{first_no}
use Rattle.equations.specs.declared.Mark.TheVariants.{Pass, Long}
use Rattle.equations.specs.Equation.{Equation}
use Rattle.equations.specs.Line.{lines_mod}
use Rattle.equations.specs.Wanted.{Wants}
use Rattle.words.specs.Words.{words_in}
use Rattle.words.specs.Fronts.{front, behind}
use Rattle.ledger.specs.Ledger.{Ledger, opened}
use Rattle.ledger.specs.Shapes.{claim_from}
use Rattle.ledger.specs.Marking.{claim_mark}
use Rattle.ledger.specs.Calls.{Call, adds, marks, enters, queries}
use Rattle.ledger.specs.Questions.{refusal_of}
use Rattle.ledger.specs.History.{enter, ledger_from}
use Rattle.setting.specs.Calls.{setting_questions, sheet_room, equation_memory, sheet_memory, equations_for}

-- no question of the call turns m, n and the words of the claim away
abbrev pub LetIn : ℕ → ℕ → List ℕ → Type 0
LetIn m n ws = first_no (setting_questions m n ws) ≡ 0

-- "make at most n equations, each mod m, whose solutions are the vectors that the claim describes, and 0 = 1 as the single line where none is
-- claimed"
abbrev pub MadeAsWanted : Type 0
MadeAsWanted = (m n : ℕ) (ws : List ℕ) → LetIn m n ws → Wants m n (claim_from n (words_in ws)) (equations_for m n ws)

-- "8 for a buffer of fewer than 2·n·(n+1) words": so much is enough for every claim
abbrev pub MadeFits : Type 0
MadeFits = (m n : ℕ) (ws : List ℕ) → LetIn m n ws → length (sheet_memory (equations_for m n ws)) ≤ sheet_room n

-- ---- what is made can be added

-- the calls that add these equations, one after another
abbrev pub add_calls : List Equation → List Call
add_calls es = map (λ (e : Equation). enters (adds (equation_memory e))) es

-- each of the calls is accepted where its turn comes
abbrev pub AllAccepted : Ledger → List Call → Type 0
AllAccepted l [] = Unit {0}
AllAccepted l (c ∷ calls) = (refusal_of l c ≡ 0) × AllAccepted (enter l c) calls

-- the next n + 1 words are those of the first equation, whatever memory lies behind the equations
abbrev pub PartsIn : ℕ → List ℕ → List Equation → Type 0
PartsIn n rest [] = Unit {0}
PartsIn n rest (e ∷ es) =
    (front (n + 1) (sheet_memory (e ∷ es) ++ rest) ≡ equation_memory e)
    × (behind (n + 1) (sheet_memory (e ∷ es) ++ rest) ≡ sheet_memory es ++ rest) × PartsIn n rest es

-- What a call wrote, added to a fresh sheet of m and n as it stands: each equation is accepted, the sheet then holds them all and no other, mod m, and the
-- claim passes or is long there.
abbrev pub AddedAsMade : Type 0
AddedAsMade =
    (m n : ℕ) (ws : List ℕ) → LetIn m n ws
    → ((rest : List ℕ) → PartsIn n rest (equations_for m n ws))
    × AllAccepted (opened m n []) (add_calls (equations_for m n ws))
    × (ledger_from (opened m n []) (add_calls (equations_for m n ws)) ≡ opened m n (lines_mod m (equations_for m n ws)))
    × (refusal_of (opened m n (lines_mod m (equations_for m n ws))) (queries (marks ws)) ≡ 0)
    × ((claim_mark (opened m n (lines_mod m (equations_for m n ws))) ws ≡ Pass)
    ⊎ (claim_mark (opened m n (lines_mod m (equations_for m n ws))) ws ≡ Long))
