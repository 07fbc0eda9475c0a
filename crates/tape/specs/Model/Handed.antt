-- Room for a line, a block that can be printed, the line of what a call on a sheet says, and a call told. Definitions only.
use Rattle.std.specs.Prelude.{◌≡◌, List, [], ◌∷◌, ℕ, ◌*◌, ◌≤◌, ◌<◌, length, Result, Ok, Err}
use Rattle.slices.specs.Over.{over}
use Rattle.ledger.specs.Ledger.{most_unknowns}
use Rattle.ledger.specs.Shapes.{largest_head}
use Rattle.ledger.specs.Block.{longest_block}
use Rattle.ledger.specs.Calls.{Call}
use Rattle.equations.specs.declared.Mark.{Mark}
use Rattle.sheet.specs.Record.{Sheet}
use Rattle.sheet.specs.History.{left}
use Rattle.tape.specs.Text.{line_of}
use Rattle.tape.specs.Output.{refused_line, mark_line}
use Rattle.tape.specs.Reader.{lines_on}

-- bytes enough for a line of 16 numbers behind a word of four letters: 4 + 16 · 11 + 1
abbrev pub line_room : ℕ
line_room = 181

-- a head with numbers behind it that can be an answer block for n unknowns
pub record Block (n head : ℕ) (numbers : List ℕ) : Type 0 where
  pub unknowns : n ≤ most_unknowns
  pub short : length numbers < longest_block
  pub largest : head ≤ largest_head
  pub vectors : head * n ≤ length numbers

-- the line of what an add or a strike says
abbrev pub entered_line : List ℕ → Result ℕ ℕ → List ℕ
entered_line name (Ok k) = line_of name (k ∷ [])
entered_line name (Err r) = refused_line r

-- the line of what a mark says
abbrev pub marked_line : Result Mark ℕ → List ℕ
marked_line (Ok mark) = mark_line mark
marked_line (Err r) = refused_line r

-- a call told: the sheet that it left, how many bytes its lines are, and the lines at the front of a buffer
pub record Tells (s : Sheet) (c : Call) (after : Sheet) (old new : List ℕ) (written : ℕ) : Type 0 where
  pub sheet : after ≡ left s c
  pub count : written ≡ length (lines_on s c)
  pub lines : new ≡ over (lines_on s c) old
