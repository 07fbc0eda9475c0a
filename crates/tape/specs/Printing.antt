-- What a loop writes that prints a tape a call at a time: a piece for each call of `next`, which is given the sheet that the call
-- before it left and the rest of the tape behind it, and a last piece for the bytes left over. A write that fails ends the loop: what
-- is written then is a front part of this.
use Rattle.std.specs.Prelude.{◌≡◌, ℕ, ◌≤◌, ◌<◌, length, drop}
use mathlib.Core.List.{List, [], ◌∷◌, flatten}
use Rattle.sheet.specs.Record.{Sheet, fresh}
use Rattle.sheet.specs.History.{left}
use Rattle.tape.specs.Output.{left_over_line, most_bytes, lines}
use Rattle.tape.specs.Reader.{lines_on, first_on, step_of}

-- from a sheet and the rest of a tape, the pieces written
pub data Prints : Sheet → List ℕ → List (List ℕ) → Type 0 where
  -- no whole word is left
  ends : {s : Sheet} {rest : List ℕ} → length rest < 4 → Prints s rest (left_over_line rest ∷ [])
  -- a call is made and its lines are written
  calls : {s : Sheet} {rest : List ℕ} {pieces : List (List ℕ)} → 4 ≤ length rest
      → Prints (left s (first_on s rest)) (drop (step_of s rest).used rest) pieces
      → Prints s rest (lines_on s (first_on s rest) ∷ pieces)

-- Of every tape some pieces are written, however long it is, and no others.
abbrev pub PrintsOnce : Type 0
PrintsOnce =
    (tape : List ℕ)
    → ((pieces : List (List ℕ)) × Prints fresh tape pieces)
    × ((pieces others : List (List ℕ)) → Prints fresh tape pieces → Prints fresh tape others → pieces ≡ others)

-- Joined, they are the tape's lines.
abbrev pub PrintsLines : Type 0
PrintsLines =
    (tape : List ℕ) (pieces : List (List ℕ)) → length tape ≤ most_bytes → Prints fresh tape pieces → flatten pieces ≡ lines tape
