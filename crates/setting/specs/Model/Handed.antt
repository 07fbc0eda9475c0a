-- What the code's functions hand on to one another. Definitions only.
use Rattle.std.specs.Prelude.{List, ℕ, ◌<◌, ◌≤◌}
use Rattle.system.specs.Claims.{Claimed}
use Rattle.ledger.specs.Ledger.{most_unknowns}

-- a claim, in numbers, that every question lets in
pub record Wantable (m n : ℕ) (claim : List ℕ) : Type 0 where
  pub modulus : 1 < m
  pub has_unknowns : 0 < n
  pub unknowns : n ≤ most_unknowns
  pub claimed : Claimed m n claim
