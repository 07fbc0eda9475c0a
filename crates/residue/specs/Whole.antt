-- Congruence of whole numbers, which may be negative. Definitions only.
use Rattle.std.specs.Prelude.{◌≡◌, ℕ, ℤ, pos, ◌+ℤ◌, ◌*ℤ◌}

-- x ≡ y (mod m) in the textbook's writing: they differ by a multiple of m
pub record CongruentWhole (m : ℕ) (x y : ℤ) : Type 0 where
  pub times : ℤ
  pub eq : x ≡ y +ℤ times *ℤ pos m
