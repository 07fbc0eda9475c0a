-- The answer of a set of vectors: document 01's start, steps and marking for any test on vectors, where Answer and Claim
-- say them for the solutions of a list of equations. Definitions only.
use Rattle.std.specs.Prelude.{List, [], Bool, ◌&&◌, ℕ, zero, suc}
use Rattle.std.proofs.Math.Option.{Option}
use Rattle.std.specs.Bool.{beq}
use Rattle.equations.specs.Lists.{first, every}
use Rattle.equations.specs.Vectors.{vectors}
use Rattle.equations.specs.Answer.{leads_at, and_then}
use Rattle.equations.specs.Claim.{Claim, describes}

-- the first vector of n residues that passes p
abbrev pub start_among : ℕ → ℕ → (List ℕ → Bool) → Option (List ℕ)
start_among m n p = first p (vectors m n)

-- the first that passes p and whose "first non-zero entry is at j"
abbrev pub step_among : ℕ → ℕ → (List ℕ → Bool) → ℕ → Option (List ℕ)
step_among m n p j = first (λ v. p v && leads_at j v) (vectors m n)

-- those at the k places from j on
abbrev pub steps_among_from : ℕ → ℕ → (List ℕ → Bool) → ℕ → ℕ → List (List ℕ)
steps_among_from m n p j zero = []
steps_among_from m n p j (suc k) = and_then (step_among m n p j) (steps_among_from m n p (suc j) k)

-- those at all n places, by rising place
abbrev pub steps_among : ℕ → ℕ → (List ℕ → Bool) → List (List ℕ)
steps_among m n p = steps_among_from m n p 0 n

-- the vectors of n residues that the claim describes are those that pass p
abbrev pub is_right_among : ℕ → ℕ → (List ℕ → Bool) → Claim → Bool
is_right_among m n p claim = every (λ v. beq (describes m claim v) (p v)) (vectors m n)
