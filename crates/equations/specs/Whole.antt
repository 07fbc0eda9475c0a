-- Equations whose coefficients and right side are whole numbers, which may be negative: what it is to hold mod m. Definitions only.
use Rattle.std.specs.Prelude.{List, [], ◌∷◌, ℕ, ℤ, pos, ◌+ℤ◌, ◌*ℤ◌, take, get_or}
use Rattle.residue.specs.Whole.{CongruentWhole}

-- "the sum of coefficient times entry"; nothing is reduced here
abbrev pub dot_whole : List ℤ → List ℕ → ℤ
dot_whole [] v = pos 0
dot_whole (a ∷ as') [] = pos 0
dot_whole (a ∷ as') (x ∷ v) = a *ℤ pos x +ℤ dot_whole as' v

-- the equation that lies in xs, n coefficients and a right side, holds mod m at v: the sum "leaves the right side mod m"
abbrev pub HoldsWhole : ℕ → ℕ → List ℤ → List ℕ → Type 0
HoldsWhole m n xs v = CongruentWhole m (dot_whole (take n xs) v) (get_or xs n (pos 0))
