-- What each call gives back, and what it leaves of the sheet and of lent memory. But for the sheet's new numbers, all of it is
-- said of the ledger that the sheet reads as. Definitions only.
use Rattle.std.specs.Prelude.{List, [], ◌∷◌, map, ℕ, ◌+◌, leb, length, Result, Ok, Err}
use Rattle.questions.specs.Questions.{asks, first_no, unless_refused}
use Rattle.questions.specs.Reply.{Reply, gives_in, gives, refuses, result_of, memory_after}
use Rattle.equations.specs.declared.Reason.{Reason}
use Rattle.equations.specs.declared.Mark.{Mark}
use Rattle.equations.specs.Marks.{mark_number}
use Rattle.system.specs.declared.solving.Answer.{Answer}
use Rattle.system.specs.Block.{answer_from}
use Rattle.system.specs.Lines.{line_block}
use Rattle.ledger.specs.Ledger.{Ledger, is_opened, modulus_of, unknowns_of, lines_in}
use Rattle.ledger.specs.Block.{answer_words, answer_room}
use Rattle.ledger.specs.Marking.{claim_mark, claim_reason, reason_words, reason_room}
use Rattle.ledger.specs.Classes.{most_claims, claims_in}
use Rattle.ledger.specs.Calls.{Entry, answers_from_tape, marks, enters, queries}
use Rattle.ledger.specs.Questions.{mark_questions, refusal_of}
use Rattle.ledger.specs.History.{effect_of, enter}
use Rattle.sheet.specs.declared.reasoning.Reasoned.{Reasoned}
use Rattle.sheet.specs.Record.{Sheet, ledger_of, record_by}

-- Open, add and strike: "the equations then held", or the number of the question that turned the call away.
unfoldable pub entered_of : Ledger → Entry → Result ℕ ℕ
entered_of l e = unless_refused Err (refusal_of l (enters e)) (Ok (length (lines_in (enter l (enters e)))))

-- The sheet after them: the new numbers, or the old ones where the call is refused.
unfoldable pub sheet_after : Sheet → Entry → Sheet
sheet_after s e = unless_refused (λ (k : ℕ). s) (refusal_of (ledger_of s) (enters e)) (record_by s (effect_of (ledger_of s) e))

-- Answer: the block's words, and how many memory words they are. "Answer: opened? 4."; 8 is asked of every reply.
abbrev pub answer_reply : Ledger → Reply (Result ℕ ℕ)
answer_reply l =
    unless_refused refuses (first_no (asks 4 (is_opened l) ∷ []))
    (gives_in (answer_room l) (Ok (length (answer_words l))) (answer_words l))

-- what it gives back and what it leaves in a buffer that held `old`
unfoldable pub answered_of : Ledger → List ℕ → Result ℕ ℕ
answered_of l old = result_of Err (answer_reply l) old

unfoldable pub buffer_after : Ledger → List ℕ → List ℕ
buffer_after l old = memory_after (answer_reply l) old

-- Answer from tape, with its word's number: the numbers of the block, or the refusal.
unfoldable pub shown_of : Ledger → ℕ → Result Answer ℕ
shown_of l number =
    unless_refused Err (refusal_of l (queries (answers_from_tape number)))
    (Ok (answer_from (line_block (modulus_of l) (unknowns_of l) (lines_in l))))

-- Mark: the mark, or the number of the question that turned the claim away.
unfoldable pub marked_of : Ledger → List ℕ → Result Mark ℕ
marked_of l ws = unless_refused Err (refusal_of l (queries (marks ws))) (Ok (claim_mark l ws))

-- Reason: the reason, and how many memory words are written beside it. "The questions are those of marking"; 8 is asked of every reply.
abbrev pub said : Reason → ℕ → Result Reasoned ℕ
said reason words = Ok (record { reason = reason; words = words })

abbrev pub show_reply : ℕ → Reason → List ℕ → Reply (Result Reasoned ℕ)
show_reply room reason words = gives_in room (said reason (length words)) words

abbrev pub reason_reply : Ledger → List ℕ → Reply (Result Reasoned ℕ)
reason_reply l ws =
    unless_refused refuses (first_no (mark_questions l ws)) (show_reply (reason_room l ws) (claim_reason l ws) (reason_words l ws))

-- what it gives back and what it leaves in a buffer that held `old`
unfoldable pub reasoned_of : Ledger → List ℕ → List ℕ → Result Reasoned ℕ
reasoned_of l ws old = result_of Err (reason_reply l ws) old

unfoldable pub shown_after : Ledger → List ℕ → List ℕ → List ℕ
shown_after l ws old = memory_after (reason_reply l ws) old

-- A class. "a byte per claim receives 0 fail, 1 pass or the refusal number plus 100"; `long` is "2 in the class bytes"
abbrev pub mark_byte : Result Mark ℕ → ℕ
mark_byte (Ok mark) = mark_number mark
mark_byte (Err k) = 100 + k

-- the claims of a class on this ledger, and their bytes: "those that marking each claim singly would give, in that order"
abbrev pub claims_of : Ledger → List ℕ → List (List ℕ)
claims_of l ws = claims_in (unknowns_of l) ws

abbrev pub class_bytes : Ledger → List ℕ → List ℕ
class_bytes l ws = map (λ (claim : List ℕ). mark_byte (marked_of l claim)) (claims_of l ws)

-- The bytes, and how many claims there are. "Turned away: after 4, over 64 claims 14"; 8 is asked of every reply.
abbrev pub class_reply : Ledger → List ℕ → Reply (Result ℕ ℕ)
class_reply l ws =
    unless_refused refuses (first_no (asks 4 (is_opened l) ∷ asks 14 (leb (length (claims_of l ws)) most_claims) ∷ []))
    (gives (Ok (length (claims_of l ws))) (class_bytes l ws))

-- what it gives back and what it leaves of bytes that held `old`
unfoldable pub classed_of : Ledger → List ℕ → List ℕ → Result ℕ ℕ
classed_of l ws old = result_of Err (class_reply l ws) old

unfoldable pub marks_after : Ledger → List ℕ → List ℕ → List ℕ
marks_after l ws old = memory_after (class_reply l ws) old
