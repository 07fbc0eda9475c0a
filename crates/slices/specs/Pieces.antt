-- A list taken piece by piece from its front, such as a tape call by call: `first` is what comes of the first piece, `next` the state behind
-- it, `rest` the list behind it. The two laws say all of `pieces`; the counter by which it is seen to end stands in Counted/Pieces.
use Rattle.std.specs.Prelude.{◌≡◌, List, [], ◌∷◌, ◌≤◌, ◌<◌, length}
use Rattle.std.proofs.Math.Path.{refl}
use Rattle.slices.specs.Counted.Pieces.{pieces_within, within_step}

module _ {S E A : Type 0} (first : S → List E → A) (next : S → List E → S) (rest : S → List E → List E) where
  unfoldable pub pieces : S → List E → List A
  pieces s xs = pieces_within first next rest (length xs) s xs

  pub pieces_none : (s : S) → pieces s [] ≡ []
  unfolding pieces
  pieces_none s = refl

  -- where each piece takes an element at least
  pub pieces_step : ((s : S) (x : E) (xs : List E) → length (rest s (x ∷ xs)) ≤ length xs)
      → (s : S) (xs : List E) → 0 < length xs → pieces s xs ≡ first s xs ∷ pieces (next s xs) (rest s xs)
  unfolding pieces
  pieces_step = within_step first next rest
