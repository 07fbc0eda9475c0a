-- The questions of documents 01 and 02 about a call, asked of the ledger and the call's arguments, in the paper's order.
-- Definitions only.
use Rattle.std.specs.Prelude.{Bool, false, ◌&&◌, List, [], ◌∷◌, ◌++◌, ℕ, eqb, leb, ltb, length}
use Rattle.questions.specs.Questions.{Question, asks, first_no, allowed_modulus, allowed_own}
use Rattle.questions.specs.Reply.{fits}
use Rattle.equations.specs.Multipliers.{all_below}
use Rattle.words.specs.Words.{words_in, tops_fit}
use Rattle.grammar.specs.Texts.{is_typed, is_within, is_linear}
use Rattle.ledger.specs.Ledger.{Ledger, is_opened, modulus_of, unknowns_of, lines_in, most_equations, most_unknowns}
use Rattle.ledger.specs.Shapes.{number_at, is_opening, is_equation, own_modulus, equation_words, is_claim, entries_of}
use Rattle.ledger.specs.Block.{answer_room}
use Rattle.ledger.specs.Marking.{reason_room}
use Rattle.ledger.specs.Classes.{most_claims, claims_in}
use Rattle.ledger.specs.Calls.{Call, opens, adds, types, strikes, answers, answers_from_tape, marks, reasons, classes, meaningless, misplaced, enters, queries}

-- "n 1..16?"
abbrev pub allowed_unknowns : ℕ → Bool
allowed_unknowns n = leb 1 n && leb n most_unknowns

-- "On tape, number 0? 1."
abbrev pub plain : ℕ → Bool
plain number = eqb number 0

-- "Mark: opened? 4. Shape right? 1. Entries below m? 6."; "Turned away: right before 1, a kind 13 word with number 0 or above 15, or not right
-- before a word of kinds 1, 3, 4, 6, 7, 10, 11 or 12, 17."
abbrev pub mark_questions : Ledger → List ℕ → List Question
mark_questions l ws =
    asks 4 (is_opened l)
    ∷ asks 17 (tops_fit (words_in ws))
    ∷ asks 1 (is_claim (unknowns_of l) (words_in ws))
    ∷ asks 6 (all_below (modulus_of l) (entries_of (words_in ws)))
    ∷ []

-- those of them that are about the claim alone, for n unknowns mod m
abbrev pub claim_questions : ℕ → ℕ → List ℕ → List Question
claim_questions m n ws =
    asks 17 (tops_fit (words_in ws))
    ∷ asks 1 (is_claim n (words_in ws))
    ∷ asks 6 (all_below m (entries_of (words_in ws)))
    ∷ []

abbrev pub questions : Ledger → Call → List Question
-- "Open: two words of kinds 1, 2? 1. m .. ? 2. n 1..16? 3."; 17 "right before 1"
questions l (enters (opens ws)) =
    asks 17 (tops_fit (words_in ws))
    ∷ asks 1 (is_opening (words_in ws))
    ∷ asks 2 (allowed_modulus (number_at (words_in ws) 0))
    ∷ asks 3 (allowed_unknowns (number_at (words_in ws) 1))
    ∷ []
-- "Add: opened? 4. Shape right, length included? 1. Under 16 equations? 5."; "Adding .. no longer refuse[s] with 6"; "Turned away: right
-- after shape and before 5, q below 2 or not dividing m 15."; 17 "right before 1"
questions l (enters (adds ws)) =
    asks 4 (is_opened l)
    ∷ asks 17 (tops_fit (words_in ws))
    ∷ asks 1 (is_equation (unknowns_of l) (equation_words (words_in ws)))
    ∷ asks 15 (allowed_own (modulus_of l) (own_modulus (modulus_of l) (words_in ws)))
    ∷ asks 5 (ltb (length (lines_in l)) most_equations)
    ∷ []
-- "after 4, not in the grammar or too long 11; then an unknown beyond n 12; then not linear 13; then 5"
questions l (enters (types text)) =
    asks 4 (is_opened l)
    ∷ asks 11 (is_typed text)
    ∷ asks 12 (is_within (unknowns_of l) text)
    ∷ asks 13 (is_linear text)
    ∷ asks 5 (ltb (length (lines_in l)) most_equations)
    ∷ []
-- "Strike: opened? 4. .. An equation there? 7."; "A strike word's number need no longer be 0. Turned away: after 7, a place beyond the
-- lines held 16."
questions l (enters (strikes place)) =
    asks 4 (is_opened l)
    ∷ asks 7 (ltb 0 (length (lines_in l)))
    ∷ asks 16 (leb place (length (lines_in l)))
    ∷ []
-- "Answer: opened? 4. On tape, number 0? 1. Buffer long enough for this block? 8; on tape it always is."
questions l (queries (answers buffer)) = asks 4 (is_opened l) ∷ asks 8 (fits (answer_room l) buffer) ∷ []
questions l (queries (answers_from_tape number)) = asks 4 (is_opened l) ∷ asks 1 (plain number) ∷ []
questions l (queries (marks ws)) = mark_questions l ws
-- "The questions are those of marking, then 8 for a buffer too short for this reason's words."
questions l (queries (reasons ws buffer)) = mark_questions l ws ++ (asks 8 (fits (reason_room l ws) buffer) ∷ [])
-- "Turned away: after 4, over 64 claims 14; then too few bytes 8."
questions l (queries (classes ws bytes)) =
    asks 4 (is_opened l)
    ∷ asks 14 (leb (length (claims_in (unknowns_of l) ws)) most_claims)
    ∷ asks 8 (leb (length (claims_in (unknowns_of l) ws)) (length bytes))
    ∷ []
-- "A first word of kind 0, 2, 4, 6, 7 or 10..15 is refused with 1, opened or not.": all of these but 10 and 12, which begin an add, and 13
questions l (queries (meaningless ws)) = asks 1 false ∷ []
-- "as first word it is a call of one word, refused with 17, opened or not"
questions l (queries (misplaced ws)) = asks 17 false ∷ []

-- the number of the question that turns the call away, or 0 where it is accepted
unfoldable pub refusal_of : Ledger → Call → ℕ
refusal_of l c = first_no (questions l c)
