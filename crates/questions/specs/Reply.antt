-- A call that writes to lent memory: what it has to say, what it returns, and what the memory then holds. Definitions only.
use Rattle.std.specs.Prelude.{◌≡◌, Bool, cond, List, ℕ, leb, length}
use Rattle.slices.specs.Over.{over}

-- a result, with the numbers that go to the front of the memory, and how much room question 8 asks for; or a refusal with its number
pub data Reply (A : Type 0) : Type 0 where
  gives_in : ℕ → A → List ℕ → Reply A
  refuses : ℕ → Reply A

-- where the room is that of the numbers
abbrev pub gives : {A : Type 0} → A → List ℕ → Reply A
gives result xs = gives_in (length xs) result xs

-- "Buffer long enough for this block? 8": for so much room, where the memory holds `old`
abbrev pub fits : ℕ → List ℕ → Bool
fits room old = leb room (length old)

-- What the call returns: its result, or the refusal in the form that the caller gets. 8 is asked last.
unfoldable pub result_of : {A : Type 0} → (ℕ → A) → Reply A → List ℕ → A
result_of refuse (gives_in room result xs) old = cond (fits room old) result (refuse 8)
result_of refuse (refuses k) old = refuse k

-- What the memory holds then. "Buffer words past the block keep their content"; at a refusal all of it does.
unfoldable pub memory_after : {A : Type 0} → Reply A → List ℕ → List ℕ
memory_after (gives_in room result xs) old = cond (fits room old) (over xs old) old
memory_after (refuses k) old = old

-- a result, and what the memory holds then, are those of a reply
abbrev pub Gives : {A : Type 0} → (ℕ → A) → Reply A → List ℕ → A → List ℕ → Type 0
Gives refuse reply old r new = (r ≡ result_of refuse reply old) × (new ≡ memory_after reply old)
