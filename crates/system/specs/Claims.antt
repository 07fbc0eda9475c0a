-- A claim that lies in one list of numbers: the entries of its vectors, one vector behind the other, without the head.
-- Definitions only.
use Rattle.std.specs.Prelude.{◌≡◌, List, [], ◌∷◌, ℕ, zero, suc, ◌*◌, ◌/◌, ◌%◌, ◌≤◌, length, take, drop}
use Rattle.equations.specs.Claim.{Claim, no_solution, from}
use Rattle.equations.specs.Vectors.{Below}

-- the first c vectors of n entries
abbrev pub vectors_within : ℕ → ℕ → List ℕ → List (List ℕ)
vectors_within zero n s = []
vectors_within (suc c) n s = take n s ∷ vectors_within c n (drop n s)

-- all of them; numbers behind the last whole vector do not count
unfoldable pub vectors_of : ℕ → List ℕ → List (List ℕ)
vectors_of n s = vectors_within (length s / n) n s

-- "a head, then head number times n entries; 0 claims no solution and describes no vector,
-- 1..17 is a starting vector with its steps"
unfoldable pub claim_of : ℕ → List ℕ → Claim
claim_of n [] = no_solution
claim_of n (x ∷ s) = from (take n (x ∷ s)) (vectors_of n (drop n (x ∷ s)))

-- "It is well-formed if its shape is right and its entries are below m."
pub record Claimed (m n : ℕ) (claim : List ℕ) : Type 0 where
  pub whole : length claim % n ≡ 0
  -- "1..17 is a starting vector with its steps"
  pub vectors : length claim ≤ 17 * n
  pub residues : Below m claim
