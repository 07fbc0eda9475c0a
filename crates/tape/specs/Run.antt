-- What a run over a tape has still to print. Definitions only.
use Rattle.std.specs.Prelude.{◌≡◌, List, [], ◌++◌, ℕ, ◌<◌, length, MatchOption, Option}
use Rattle.std.specs.Borrow.{Fml, Bor, MutBor}
use Rattle.std.specs.Io.BufRead.{Rests}
use mir.Syntax.{named}
use Rattle.ledger.specs.Ledger.{Ledger}
use Rattle.sheet.specs.Record.{ledger_of}
use Rattle.tape.specs.declared.running.Run.{Run}
use Rattle.tape.specs.contracts.running.Run.{the_row}
use Rattle.tape.specs.Bytes.{words_on}
use Rattle.tape.specs.Calls.{calls_on}
use Rattle.tape.specs.Output.{lines_from, left_over_line}

-- the lines of the calls on the rest of a tape, from the ledger before it, and the line of the bytes left over
abbrev pub remaining : Ledger → List ℕ → List ℕ
remaining l rest = lines_from l (calls_on l (words_on rest)) ++ left_over_line rest

abbrev pub to_print : Run → List ℕ
to_print run = remaining (ledger_of run.sheet) run.rest.now

-- the run once the lines that it gave are no longer looked at: they are off what it has to print
abbrev pub PrintsOn : MutBor Run → Option (Bor (List ℕ)) → Fml
PrintsOn run told =
    Rests (the_row (record { mir = named 1; lft = [] })) run (λ after. MatchOption told (to_print run.now ≡ [])
    (λ lines. (to_print run.now ≡ lines.now ++ to_print after) × (length after.rest.now < length run.now.rest.now)))
