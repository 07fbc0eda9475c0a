-- Which turns open a safe, and which of them are wanted: found by trying all. Definitions only.
use Rattle.std.specs.Prelude.{Bool, List, ℕ, ◌*◌, eqb}
use Rattle.std.proofs.Math.Option.{Option}
use Rattle.equations.specs.Lists.{first, every}
use Rattle.equations.specs.Vectors.{vectors}
use Rattle.safe.specs.Locks.{after_turns}

-- the turns "bring all to 0"
unfoldable pub opens : ℕ → ℕ → List ℕ → List ℕ → Bool
opens m columns values turns = every (λ x. eqb x 0) (after_turns m columns turns values)

-- "Wanted: the dictionary-first turns (row after row ..) that bring all to 0, or none"
unfoldable pub turns_of : ℕ → ℕ → ℕ → List ℕ → Option (List ℕ)
turns_of m rows columns values = first (opens m columns values) (vectors m (rows * columns))
