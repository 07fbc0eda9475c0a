-- Cofactors as residues: for the quotients q = a / g and p = b / g of a pair by its divisor g, numbers s and t with
-- s·q + t·p ≡ 1 (mod m). Which ones they are is left free, so the name is shut: its body is no promise. What must hold of
-- them is its one law, `cofactors_bezout` of proofs/Bezout.antt. Steps is for that law and for the code that computes them.
use Rattle.std.specs.Prelude.{ℕ, ◌+◌, ◌-◌, ◌*◌, ◌/◌, ◌%◌}
use Rattle.residue.specs.Euclid.{euclid}
pub mod Steps

pub record Cofactors : Type 0 where
  pub s : ℕ
  pub t : ℕ

abbrev last : ℕ → ℕ → Cofactors
last m a = record { s = 1 % m; t = 0 }

-- those of (a, b) from those of (b, a mod b)
abbrev next : ℕ → ℕ → ℕ → Cofactors → Cofactors
next m a b c = record { s = c.t; t = (c.s + (a / b) * (m - c.t)) % m }

pub cofactors : ℕ → ℕ → ℕ → Cofactors
cofactors m = euclid (last m) (next m)
