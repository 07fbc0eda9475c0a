-- A student's claim, what it describes, and when that is right. Definitions only.
use Rattle.std.specs.Prelude.{List, Bool, false, ℕ, length}
use Rattle.std.specs.Bool.{beq}
use Rattle.equations.specs.Lists.{every, someone}
use Rattle.equations.specs.Vectors.{vectors, same_vector, combination}
use Rattle.equations.specs.Equation.{Equation, solves}

-- "0 claims no solution and describes no vector, 1..17 is a starting vector with its steps."
pub data Claim : Type 0 where
  no_solution : Claim
  from : List ℕ → List (List ℕ) → Claim

-- "A claim describes its start plus all combinations of its steps, coefficients 0..m-1.": in the field's words, the coset of
-- the module that its steps generate.
unfoldable pub describes : ℕ → Claim → List ℕ → Bool
describes m no_solution v = false
describes m (from start steps) v =
    someone (λ ts. same_vector (combination m start steps ts) v) (vectors m (length steps))

-- "the described vectors are those that solve the ledger's equations": "right set", in document 02's words
unfoldable pub is_right : ℕ → ℕ → List Equation → Claim → Bool
is_right m n es claim = every (λ v. beq (describes m claim v) (solves m es v)) (vectors m n)
