-- One column of the insertion: the row R and the line W before it, R' and W' after it. The line keeps its first entry, which
-- the next column does not see.
use Rattle.std.specs.Prelude.{◌≡◌, List, ◌∷◌, ℕ, drop}
use Rattle.equations.specs.Vectors.{Below}
use Rattle.elimination.specs.Basis.{insert}
use Rattle.tableau.specs.Packed.{RowKept}

pub record Inserted (m : ℕ) (R W R' W' : List ℕ) : Type 0 where
  -- whatever rows B stand behind R
  pub same : (B : List (List ℕ)) → insert m (R ∷ B) W ≡ R' ∷ insert m B (drop 1 W')
  pub kept : RowKept m R'
  pub below : Below m W'

-- nothing is left of the line W for the rows B behind R: they stay
pub record UsedUp (m : ℕ) (R W R' : List ℕ) : Type 0 where
  pub same : (B : List (List ℕ)) → insert m (R ∷ B) W ≡ R' ∷ B
  pub kept : RowKept m R'
