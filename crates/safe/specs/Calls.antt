-- What the safe's call asks, in which order, what it gives back, and what it leaves in the buffer. Definitions only.
use Rattle.std.specs.Prelude.{Bool, ◌&&◌, List, [], ◌∷◌, ℕ, ◌*◌, leb, length, replicate, Err}
use Rattle.std.proofs.Math.Option.{Option, none, some}
use Rattle.questions.specs.Questions.{Question, asks, first_no, unless_refused, allowed_modulus}
use Rattle.questions.specs.Reply.{Reply, gives, refuses, result_of, memory_after}
use Rattle.equations.specs.Multipliers.{all_below}
use Rattle.words.specs.Words.{entry_kind, words_in, tops_fit, numbers_of, words_of, have_kinds}
use Rattle.safe.specs.Turned.{Turned, gives_turns, gives_none}
use Rattle.safe.specs.Turns.{turns_of}

-- "Rows times columns at most 16, both at least 1"
abbrev pub most_locks : ℕ
most_locks = 16

abbrev pub allowed_size : ℕ → ℕ → Bool
allowed_size rows columns = leb 1 rows && leb 1 columns && leb (rows * columns) most_locks

-- "Questions: m? 2. Size? 3. Kind 6, right count? 1. Below m? 6."; 17 "right before 1"
abbrev pub argument_questions : ℕ → ℕ → ℕ → List ℕ → List Question
argument_questions m rows columns values =
    asks 2 (allowed_modulus m)
    ∷ asks 3 (allowed_size rows columns)
    ∷ asks 17 (tops_fit (words_in values))
    ∷ asks 1 (have_kinds (words_in values) (replicate (rows * columns) entry_kind))
    ∷ asks 6 (all_below m (numbers_of (words_in values)))
    ∷ []

-- "the dictionary-first turns (.. kind 6) .., or none with the buffer untouched": how many memory words they are, and the words.
-- "Where there are turns, buffer long enough for them? 8." Where there are none nothing is written: 8 is never given then.
abbrev pub found : Option (List ℕ) → Reply Turned
found none = gives gives_none []
found (some turns) = gives (gives_turns (length (words_of entry_kind turns))) (words_of entry_kind turns)

-- What the call has to say: the turns or none, or the refusal with its number.
unfoldable pub turns_reply : ℕ → ℕ → ℕ → List ℕ → Reply Turned
turns_reply m rows columns values =
    unless_refused refuses (first_no (argument_questions m rows columns values))
    (found (turns_of m rows columns (numbers_of (words_in values))))

-- What it gives back, where the buffer holds `old`: 8 is asked last.
unfoldable pub turned_of : ℕ → ℕ → ℕ → List ℕ → List ℕ → Turned
turned_of m rows columns values old = result_of Err (turns_reply m rows columns values) old

-- What the buffer holds then. "Buffer words past the turns keep their content."; all of it does where the call is refused.
unfoldable pub buffer_after : ℕ → ℕ → ℕ → List ℕ → List ℕ → List ℕ
buffer_after m rows columns values old = memory_after (turns_reply m rows columns values) old
