-- What a call that neither opens, adds nor strikes sees of a sheet, what one of the others says that it holds, and what is found of a claim
-- before anything is written. Definitions only.
use Rattle.std.specs.Prelude.{List, [], ℕ, ◌+◌, ◌*◌, length, take, Result, Ok, Err}
use Rattle.questions.specs.Questions.{unless_refused}
use Rattle.questions.specs.Reply.{Reply}
use Rattle.equations.specs.declared.Reason.{Reason}
use Rattle.system.specs.Ready.{Ready}
use Rattle.words.specs.Words.{words_of}
use Rattle.ledger.specs.Ledger.{Ledger}
use Rattle.ledger.specs.Block.{counts_for}
use Rattle.ledger.specs.Marking.{claim_reason, reason_numbers, shown_kind}
use Rattle.ledger.specs.Calls.{marks, queries}
use Rattle.ledger.specs.Questions.{refusal_of}
use Rattle.system.specs.declared.explaining.Finding.{Finding}
use Rattle.sheet.specs.declared.reasoning.Reasoned.{Reasoned}
use Rattle.sheet.specs.declared.viewing.View.{View}
use Rattle.sheet.specs.Calls.{show_reply}
use Rattle.sheet.specs.Record.{cells_in, ledger_of}

-- the ledger that the sheet of a view reads as
abbrev pub ledger_in : View → Ledger
ledger_in v = ledger_of v.sheet.now

-- the numbers of its lines
abbrev pub lines_of : View → List ℕ
lines_of v = take (v.seen.held * (v.seen.unknowns + 1)) (cells_in v.sheet.now)

-- memory that the marks of claims about these lines share
abbrev pub ReadyFor : View → List ℕ → Type 0
ReadyFor v rows = Ready v.seen.modulus v.seen.unknowns (lines_of v) rows

-- the equations held, if a call says so
abbrev pub held_by : Result ℕ ℕ → ℕ
held_by (Ok k) = k
held_by (Err k) = 0

-- a claim explained: the reason and how many numbers are shown beside it, or the refusal; and these numbers
unfoldable pub explained_of : Ledger → List ℕ → Result Finding ℕ
explained_of l ws =
    unless_refused Err (refusal_of l (queries (marks ws))) (Ok (record { reason = claim_reason l ws; len = length (reason_numbers l ws) }))

unfoldable pub explained_numbers : Ledger → List ℕ → List ℕ
explained_numbers l ws = unless_refused (λ (k : ℕ). []) (refusal_of l (queries (marks ws))) (reason_numbers l ws)

-- a reason shown with these numbers
abbrev pub shown_by : ℕ → Reason → List ℕ → Reply (Result Reasoned ℕ)
shown_by m reason numbers = show_reply (length numbers * counts_for m) reason (words_of (shown_kind reason) numbers)
