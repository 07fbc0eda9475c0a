-- What the reader of one call gives, said of the ledger that the sheet reads as. Definitions only.
use Rattle.std.specs.Prelude.{List, ℕ, ◌*◌, length}
use Rattle.words.specs.Fronts.{first_word, front}
use Rattle.ledger.specs.Ledger.{Ledger}
use Rattle.ledger.specs.Calls.{Call}
use Rattle.sheet.specs.Record.{Sheet, ledger_of}
use Rattle.tape.specs.declared.calling.Step.{Step}
use Rattle.tape.specs.Bytes.{words_on}
use Rattle.tape.specs.FirstCall.{wanted, first_call}
use Rattle.tape.specs.Output.{call_lines}

-- bytes enough for the lines of any call: a starting vector and 16 steps, each of 16 entries with up to 10 digits
abbrev pub call_room : ℕ
call_room = 4096

-- what a call on a sheet prints
abbrev pub lines_on : Sheet → Call → List ℕ
lines_on s c = call_lines (ledger_of s) c

-- the first call on the rest of a tape
abbrev pub first_on : Sheet → List ℕ → Call
first_on s rest = first_call (ledger_of s) (words_on rest)

-- the memory of the words that it takes
abbrev pub taken_from : Ledger → List ℕ → List ℕ
taken_from l ws = front (wanted l (first_word ws)) ws

-- the reader's step: the bytes of that call's words, and of its lines
unfoldable pub step_of : Sheet → List ℕ → Step
step_of s rest =
    record {
      used = 4 * length (taken_from (ledger_of s) (words_on rest));
      written = length (lines_on s (first_on s rest));
    }
