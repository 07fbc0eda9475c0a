-- The calls on a sheet. Definitions only.
use Rattle.std.specs.Prelude.{List, ℕ}

-- The calls that open, add or strike, each "with its arguments other than the sheet". Words and buffers are given by what "their
-- memory holds at that call". "A typed equation is an add": it has the bytes of its text. "The strike's number is a place": that of its
-- word on tape, or the one that a C caller names.
pub data Entry : Type 0 where
  opens : List ℕ → Entry
  adds : List ℕ → Entry
  types : List ℕ → Entry
  strikes : ℕ → Entry

-- "those that neither open, add nor strike". "An answer word on tape with a number other than 0 is a refused call": an answer from
-- tape has its word's number. A reason has the words of a claim and a buffer, a class its words and the bytes that are lent for its marks.
-- Meaningless: a first word on tape that picks no call. Misplaced: a first word of kind 13 that breaks the rule, "a call of one word".
pub data Query : Type 0 where
  answers : List ℕ → Query
  answers_from_tape : ℕ → Query
  marks : List ℕ → Query
  reasons : List ℕ → List ℕ → Query
  classes : List ℕ → List ℕ → Query
  meaningless : List ℕ → Query
  misplaced : List ℕ → Query

pub data Call : Type 0 where
  enters : Entry → Call
  queries : Query → Call
