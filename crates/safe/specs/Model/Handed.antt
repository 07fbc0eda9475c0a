-- What the code's functions hand on to one another. Definitions only.
use Rattle.std.specs.Prelude.{List, ◌≡◌, ℕ, ◌+◌, ◌*◌, ◌<◌, ◌≤◌, length, take, Err}
use Rattle.std.proofs.Math.Option.{Option, none, some}
use Rattle.questions.specs.Questions.{largest_modulus}
use Rattle.questions.specs.Reply.{Reply, result_of, memory_after}
use Rattle.equations.specs.Vectors.{Below}
use Rattle.safe.specs.Turned.{Turned}
use Rattle.safe.specs.Calls.{most_locks}

-- so many words of the values are seen: one more than locks, which shows that there are too many
abbrev pub values_room : ℕ
values_room = most_locks + 1

-- a safe that every question lets in
pub record Lockable (m rows columns : ℕ) (values : List ℕ) : Type 0 where
  pub modulus : 1 < m
  pub largest : m ≤ largest_modulus
  pub row : 0 < columns
  pub count : rows * columns ≡ length values
  pub has_locks : 0 < length values
  pub few : length values ≤ most_locks
  pub residues : Below m values

-- what an answer's head and numbers say of n turns: there are none, or they stand in front
abbrev pub Found : ℕ → Option (List ℕ) → ℕ → List ℕ → Type 0
Found n none head numbers = head ≡ 0
Found n (some turns) head numbers = (0 < head) × (take n numbers ≡ turns)

-- a result, and what the buffer holds then, are those of a reply
abbrev pub Gives : Reply Turned → List ℕ → Turned → List ℕ → Type 0
Gives reply old r new = (r ≡ result_of Err reply old) × (new ≡ memory_after reply old)
