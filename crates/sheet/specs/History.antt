-- The sheet after a list of calls. "The first call gets a fresh sheet, each later one the sheet that the call before
-- it returned or left, refused or not." Definitions only.
use Rattle.std.specs.Prelude.{List, [], ◌∷◌}
use Rattle.ledger.specs.Calls.{Call, enters, queries}
use Rattle.sheet.specs.Record.{Sheet, fresh}
use Rattle.sheet.specs.Calls.{sheet_after}

-- The sheet that a call left. A query only reads it, and so does a word on tape that picks no call.
abbrev pub left : Sheet → Call → Sheet
left s (enters e) = sheet_after s e
left s (queries q) = s

-- the sheet after more calls
unfoldable pub sheet_from : Sheet → List Call → Sheet
sheet_from s [] = s
sheet_from s (c ∷ calls) = sheet_from (left s c) calls

-- The sheet after the calls, the first of them on a fresh sheet. "Each call gets the sheet as the one before left it, and
-- nobody else writes it meanwhile": its memory is the caller's.
abbrev pub after : List Call → Sheet
after calls = sheet_from fresh calls
