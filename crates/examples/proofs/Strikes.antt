-- S-7's readings: of three lines, each with a modulus of its own, one is struck. What is left, its answer, and what is turned away, found
-- by computing the definitions that the contracts cite.
use mathlib.Core.List.{List, [], ◌∷◌, ◌++◌, flatten}
use mathlib.Core.Option.{none, some}
use mathlib.Core.Bool.{true}
use mathlib.Core.Path.{◌≡◌, refl}
use Prim.Native.Nat.{ℕ}
use Rattle.words.specs.Fronts.{first_length, front_length}
use Rattle.questions.specs.Reply.{memory_after}
use Rattle.residue.specs.Residue.{residue_of}
use Rattle.equations.specs.Lines.{equations_of}
use Rattle.equations.specs.Multipliers.{refutes}
use Rattle.equations.specs.Line.{Line, line_start, line_steps, line_refutes}
use Rattle.system.specs.Lines.{line_block}
use Rattle.words.specs.Words.{word, words_in, strike_kind, carries, words_for}
use Rattle.ledger.specs.Ledger.{Ledger, unopened, opened}
use Rattle.ledger.specs.Block.{answer_words, answer_room}
use Rattle.ledger.specs.Calls.{adds, strikes, answers_from_tape, Call, enters, queries}
use Rattle.ledger.specs.Questions.{refusal_of}
use Rattle.ledger.specs.History.{enter}
use Rattle.sheet.specs.Record.{fresh, ledger_of}
use Rattle.sheet.specs.Calls.{sheet_after, buffer_after}
use Rattle.sheet.specs.History.{after, sheet_from}
use Rattle.tape.specs.FirstCall.{first_call, behind_first}
use Rattle.examples.proofs.Starred.{opening, block, buffer}
use Rattle.examples.proofs.Clocks.{is, is_words}

-- x = 2 mod 3, x = 3 mod 4, x = 1 mod 2
abbrev three : Ledger
three = opened 12 1 (is 3 2 ∷ is 4 3 ∷ is 2 1 ∷ [])

abbrev leaving : Ledger → ℕ → Ledger
leaving l place = enter l (enters (strikes place))

abbrev asked : Ledger → ℕ → ℕ
asked l place = refusal_of l (enters (strikes place))

-- ---- what is left

-- "Later lines close up in order", each with its modulus
pub one-struck :
    (leaving three 1 ≡ opened 12 1 (is 4 3 ∷ is 2 1 ∷ [])) × (leaving three 2 ≡ opened 12 1 (is 3 2 ∷ is 2 1 ∷ []))
    × (leaving three 3 ≡ opened 12 1 (is 3 2 ∷ is 4 3 ∷ [])) × (leaving three 0 ≡ opened 12 1 (is 3 2 ∷ is 4 3 ∷ []))
unfolding enter refusal_of
one-struck = (refl, refl, refl, refl)

-- the third is the second then, and there is no third
pub two_struck : (leaving (leaving three 2) 2 ≡ opened 12 1 (is 3 2 ∷ [])) × (leaving (leaving three 2) 3 ≡ leaving three 2)
unfolding enter refusal_of
two_struck = (refl, refl)

-- ---- the answer after it, through the calls

abbrev pub three_calls : List Call
three_calls = opening 12 1 ∷ enters (adds (is_words 3 2)) ∷ enters (adds (is_words 4 3)) ∷ enters (adds (is_words 2 1)) ∷ []

abbrev pub middle_calls : List Call
middle_calls = three_calls ++ (enters (strikes 2) ∷ [])

pub middle_held : ledger_of (after middle_calls) ≡ opened 12 1 (is 3 2 ∷ is 2 1 ∷ [])
unfolding sheet_from fresh sheet_after ledger_of refusal_of words_in residue_of equations_of carries words_for
middle_held = refl

-- from 11 before, from 5 by steps of 6 then
pub three_answered : (x y z : ℕ) → buffer three_calls (x ∷ y ∷ z ∷ []) ≡ block 1 (11 ∷ []) ++ (z ∷ [])
unfolding sheet_from fresh sheet_after ledger_of buffer_after memory_after refusal_of words_in residue_of equations_of answer_words line_block
    line_start line_steps flatten carries words_for answer_room
three_answered x y z = refl

pub middle_answered : (x y z : ℕ) → buffer middle_calls (x ∷ y ∷ z ∷ []) ≡ block 2 (5 ∷ 6 ∷ [])
unfolding sheet_from fresh sheet_after ledger_of buffer_after memory_after refusal_of words_in residue_of equations_of answer_words line_block
    line_start line_steps flatten carries words_for answer_room
middle_answered x y z = refl

-- ---- without a solution: x = 0 mod 2, x = 2 mod 3, x = 1 mod 2

abbrev contradicting : List Line
contradicting = is 2 0 ∷ is 3 2 ∷ is 2 1 ∷ []

pub none_first : (line_start 12 1 contradicting ≡ none) × (line_refutes 12 1 contradicting (1 ∷ 0 ∷ 1 ∷ []) ≡ true)
unfolding line_start line_refutes refutes
none_first = (refl, refl)

-- without the first there is one, from 5
pub solvable_again : (leaving (opened 12 1 contradicting) 1 ≡ opened 12 1 (is 3 2 ∷ is 2 1 ∷ []))
    × (line_start 12 1 (is 3 2 ∷ is 2 1 ∷ []) ≡ some (5 ∷ []))
unfolding enter refusal_of line_start
solvable_again = (refl, refl)

-- without the second there is none, and of a multiplier for each line left 1 1 serve: 6x = 0 and 6x = 6 are added up
pub none_still : (leaving (opened 12 1 contradicting) 2 ≡ opened 12 1 (is 2 0 ∷ is 2 1 ∷ []))
    × (line_start 12 1 (is 2 0 ∷ is 2 1 ∷ []) ≡ none)
    × (line_refutes 12 1 (is 2 0 ∷ is 2 1 ∷ []) (1 ∷ 1 ∷ []) ≡ true)
unfolding enter refusal_of line_start line_refutes refutes
none_still = (refl, refl, refl)

-- ---- what is turned away

-- "a place beyond the lines held 16"
pub sixteen : (asked three 4 ≡ 16) × (asked three 17 ≡ 16) × (asked three 268435455 ≡ 16) × (asked three 3 ≡ 0)
unfolding refusal_of
sixteen = (refl, refl, refl, refl)

-- where no equation is there 7, and unopened 4, whatever the place
pub seven : (place : ℕ) → (asked (opened 12 1 []) place ≡ 7) × (asked unopened place ≡ 4)
unfolding refusal_of
seven place = (refl, refl)

-- ---- on tape

-- one word, with its place; an answer's number still is 0
pub strike_first : (ws : List ℕ)
    → (first_call three (word strike_kind 2 ∷ ws) ≡ enters (strikes 2)) × (behind_first three (word strike_kind 2 ∷ ws) ≡ ws)
unfolding first_call behind_first words_in carries words_for first_length front_length
strike_first [] = (refl, refl)
strike_first (w ∷ ws) = (refl, refl)

pub answer-plain :
    (refusal_of three (queries (answers_from_tape 0)) ≡ 0) × (refusal_of three (queries (answers_from_tape 1)) ≡ 1)
unfolding refusal_of
answer-plain = (refl, refl)
