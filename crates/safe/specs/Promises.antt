-- What document 01 says of the safe, of the definitions of turning. Each promise is a type; proofs/Promises.antt keeps it.
-- Definitions only.
use Rattle.std.specs.Prelude.{cond, List, [], ◌∷◌, ◌↔◌, ◌≡◌, ℕ, suc, ◌+◌, ◌*◌, ◌%◌, ◌<◌, T, length, get_or}
use Rattle.std.proofs.Math.Option.{none, some}
use Rattle.equations.specs.Vectors.{Vector, Below, First}
use Rattle.safe.specs.Locks.{meets, after_turns}
use Rattle.safe.specs.Turns.{opens, turns_of}

-- the sum of those turns, the first of them at place p, whose locks stand in the row or column of the lock at place i
abbrev pub sum_from : ℕ → ℕ → ℕ → List ℕ → ℕ
sum_from columns i p [] = 0
sum_from columns i p (t ∷ turns) = cond (meets columns p i) t 0 + sum_from columns i (suc p) turns

-- the turns that reach the lock at place i, added up
abbrev pub sum_at : ℕ → ℕ → List ℕ → ℕ
sum_at columns i turns = sum_from columns i 0 turns

-- After the turns each lock is its value plus the turns in its row and column, its own counted once, mod m.
abbrev pub EachTurned : Type 0
EachTurned =
    (m columns i : ℕ) (values turns : List ℕ) → Below m values → i < length values
    → get_or (after_turns m columns turns values) i 0 ≡ (get_or values i 0 + sum_at columns i turns) % m

-- Turns open the safe if and only if all these sums are 0 mod m.
abbrev pub EachOpened : Type 0
EachOpened =
    (m columns : ℕ) (values turns : List ℕ) → Below m values
    → T (opens m columns values turns)
    ↔ ((i : ℕ) → i < length values → (get_or values i 0 + sum_at columns i turns) % m ≡ 0)

-- "the dictionary-first turns .. that bring all to 0"
abbrev pub Wanted : Type 0
Wanted =
    (m rows columns : ℕ) (values turns : List ℕ)
    → (turns_of m rows columns values ≡ some turns) ↔ First m (rows * columns) (opens m columns values) turns

-- "or none": exactly where no turns open the safe
abbrev pub NoneOpens : Type 0
NoneOpens =
    (m rows columns : ℕ) (values : List ℕ)
    → (turns_of m rows columns values ≡ none)
    ↔ ((v : List ℕ) → Vector m (rows * columns) v → T (opens m columns values v) → ⊥)
