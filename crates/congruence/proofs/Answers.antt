-- The answer to one congruence, by whether m is allowed.
--   modulus_some           an allowed m is above 0
--   answer_is              where m is allowed, the answer is that for the residues, and else 2
--   answer_of_lem              so it is with the solutions of numbers that are the residues
use mathlib.Core.Path.{◌≡◌, sym, ap, ap₂, ◌∙◌}
use mathlib.Core.Bool.{Bool, true, false, cond}
use Prim.Native.Nat.{ℕ, ◌<◌}
use native.Mathlib.Omega.{arith}
use lib.Dec.{T}
use lib.IntN.{ℤ}
use Rattle.std.specs.Prelude.{Option, Ok, Err}
use Rattle.questions.specs.Questions.{allowed_modulus, largest_modulus}
use Rattle.questions.proofs.Questions.{within_range}
use Rattle.residue.specs.Residue.{residue_of}
use Rattle.residue.specs.Congruence.{solutions_of}
use Rattle.residue.specs.declared.congruence.Solutions.{Solutions}
use Rattle.congruence.specs.Congruence.{congruence_of}

pub modulus_some : (m : ℕ) → T (allowed_modulus m) → 0 < m
modulus_some m allowed = omega (arith, ((within_range 2 m largest_modulus).0 allowed).0)

module _ (a b : ℤ) (m : ℕ) where
  abbrev pub found : Option Solutions
  found = solutions_of (residue_of m a) (residue_of m b) m

  pub answer_is : (test : Bool) → allowed_modulus m ≡ test → congruence_of a b m ≡ cond test (Ok found) (Err 2)
  unfolding congruence_of
  answer_is true e = rw e
  answer_is false e = rw e

  pub answer_of_lem : allowed_modulus m ≡ true → {r s : ℕ} → r ≡ residue_of m a → s ≡ residue_of m b → {is : Option Solutions}
      → is ≡ solutions_of r s m → Ok is ≡ congruence_of a b m
  answer_of_lem e left right solves =
      ap Ok (solves ∙ ap₂ (λ (x y : ℕ). solutions_of x y m) left right) ∙ sym (answer_is true e)
