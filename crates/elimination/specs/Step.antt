-- The numbers of one step of the elimination, for a row's pivot d and a line's entry v in the same column:
--   row  ← s·row + t·line     its entry becomes g, the divisor of d and v
--   line ← p·row + n·line     its entry becomes 0, since p = v / g and n is minus d / g
-- Where d divides v already, the row stays as it is. Definitions only.
use Rattle.std.specs.Prelude.{cond, ℕ, ◌/◌, ◌%◌, eqb}
use Rattle.residue.specs.Gcd.{gcd}
use Rattle.residue.specs.Bezout.{cofactors}
use Rattle.residue.specs.Negative.{negative}

pub record Step : Type 0 where
  pub g : ℕ
  pub s : ℕ
  pub t : ℕ
  pub p : ℕ
  pub n : ℕ

abbrev pub divided : ℕ → ℕ → ℕ → Step
divided m d v = record { g = d; s = 1; t = 0; p = v / d; n = negative m 1 % m }

abbrev pub reduced : ℕ → ℕ → ℕ → Step
reduced m d v = record {
  g = gcd d v;
  s = (cofactors m d v).s;
  t = (cofactors m d v).t;
  p = v / gcd d v;
  n = negative m (d / gcd d v) % m;
}

unfoldable pub step_of : ℕ → ℕ → ℕ → Step
step_of m d v = cond (eqb (v % d) 0) (divided m d v) (reduced m d v)
