-- The residue of a whole number, which may be negative. Definitions only.
use Rattle.std.specs.Prelude.{ℕ, suc, ◌%◌, ℤ, pos, negsuc}
use Rattle.residue.specs.Negative.{negative}

-- "is brought to its residue, 0..m-1": the remainder of a, and the negative of a + 1, since `negsuc a` is -(a + 1). `Promises.ResidueOf` says
-- it without cases.
unfoldable pub residue_of : ℕ → ℤ → ℕ
residue_of m (pos a) = a % m
residue_of m (negsuc a) = negative m (suc a) % m
