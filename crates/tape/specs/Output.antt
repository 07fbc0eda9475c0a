-- The lines that a tape prints: document 01's meaning of a tape, from its bytes to the bytes of its lines. Definitions only.
use Rattle.std.specs.Prelude.{cond, List, [], ◌∷◌, ◌++◌, ℕ, zero, suc, ◌%◌, eqb, leb, length, take, drop}
use Rattle.questions.specs.Questions.{unless_refused}
use Rattle.equations.specs.declared.Mark.{Mark}
use Rattle.equations.specs.declared.Mark.TheVariants.{Pass, Long, Fail}
use Rattle.words.specs.Words.{words_in}
use Rattle.system.specs.Lines.{line_block}
use Rattle.system.specs.Claims.{vectors_within}
use Rattle.ledger.specs.Ledger.{Ledger, unopened, modulus_of, unknowns_of, lines_in}
use Rattle.ledger.specs.Shapes.{number_at}
use Rattle.ledger.specs.Marking.{claim_mark}
use Rattle.ledger.specs.Calls.{Entry, opens, adds, types, strikes, answers, answers_from_tape, marks, reasons, classes, meaningless, misplaced}
use Rattle.ledger.specs.Calls.{Call, enters, queries}
use Rattle.ledger.specs.Questions.{refusal_of}
use Rattle.ledger.specs.History.{enter}
use Rattle.tape.specs.Bytes.{words_on}
use Rattle.tape.specs.Text.{line}
use Rattle.tape.specs.Calls.{calls_on}

-- "refused r"
abbrev pub refused_line : ℕ → List ℕ
refused_line r = line "refused" (r ∷ [])

abbrev pub step_lines : List (List ℕ) → List ℕ
step_lines [] = []
step_lines (s ∷ ss) = line "step" s ++ step_lines ss

-- the lines of an answer block: "An answer is `from` and the n entries, then a `step` line with n entries for each
-- step; or `none` and the multipliers."
abbrev pub block_lines : ℕ → List ℕ → List ℕ
block_lines n [] = []
block_lines n (zero ∷ ks) = line "none" ks
block_lines n (suc k ∷ xs) = line "from" (take n xs) ++ step_lines (vectors_within k n (drop n xs))

abbrev pub answer_lines : Ledger → List ℕ
answer_lines l = block_lines (unknowns_of l) (line_block (modulus_of l) (unknowns_of l) (lines_in l))

-- "with the equations then held"
abbrev pub held_after : Ledger → Entry → List ℕ
held_after l e = length (lines_in (enter l (enters e))) ∷ []

-- "`pass`, `fail`"; "`long` on the printer"
abbrev pub mark_line : Mark → List ℕ
mark_line Pass = line "pass" []
mark_line Long = line "long" []
mark_line Fail = line "fail" []

-- the lines of an accepted call, where the ledger before it is l
abbrev pub accepted_lines : Ledger → Call → List ℕ
accepted_lines l (enters (opens ws)) = line "open" (number_at (words_in ws) 0 ∷ number_at (words_in ws) 1 ∷ [])
accepted_lines l (enters (adds ws)) = line "added" (held_after l (adds ws))
-- on tape there is no text; it would be an add
accepted_lines l (enters (types text)) = line "added" (held_after l (types text))
accepted_lines l (enters (strikes place)) = line "struck" (held_after l (strikes place))
accepted_lines l (queries (answers buffer)) = answer_lines l
accepted_lines l (queries (answers_from_tape number)) = answer_lines l
accepted_lines l (queries (marks ws)) = mark_line (claim_mark l ws)
-- a reason and a class have no words on tape
accepted_lines l (queries (reasons ws buffer)) = []
accepted_lines l (queries (classes ws bytes)) = []
-- these are never accepted
accepted_lines l (queries (meaningless ws)) = []
accepted_lines l (queries (misplaced ws)) = []

-- "Each call gives a line": its own, or that of its refusal
unfoldable pub call_lines : Ledger → Call → List ℕ
call_lines l c = unless_refused refused_line (refusal_of l c) (accepted_lines l c)

-- the lines of more calls
unfoldable pub lines_from : Ledger → List Call → List ℕ
lines_from l [] = []
lines_from l (c ∷ calls) = call_lines l c ++ lines_from (enter l c) calls

-- "Whole words? 9, after the last call; it turns away the 1 to 3 left-over bytes only"
abbrev pub left_over_line : List ℕ → List ℕ
left_over_line bytes = cond (eqb (length bytes % 4) 0) [] (refused_line 9)

-- "at most 65,536 bytes?"
abbrev pub most_bytes : ℕ
most_bytes = 65536

-- The lines that a tape prints. "Printer and C call begin on a fresh sheet"; "An empty tape prints nothing."
unfoldable pub lines : List ℕ → List ℕ
lines bytes =
    cond (leb (length bytes) most_bytes)
    (lines_from unopened (calls_on unopened (words_on bytes)) ++ left_over_line bytes) (refused_line 10)
