-- What makes `residue_of` the residue of a whole number, and how it is had from its size and its sign.
--   residue_below, residue_leaves   it is below m, and x leaves it mod m
--   residue_of_lem                      it is the only number of which that is so
--   solving_residues                a·u ≡ b (mod m) between whole numbers is the congruence between their residues
--   minus_one_lem, minus-zero           -1 is m - 1, and -0 is 0
--   residue_sized                   the remainder of the size of x, or the negative of the size
use mathlib.Core.Logic.{◌↔◌}
use mathlib.Core.Bool.{cond}
use mathlib.Core.Path.{◌≡◌, refl, sym, ap, subst, ◌∙◌}
use Prim.Native.Nat.{ℕ, suc, ◌-◌, ◌*◌, ◌%◌, ◌<◌}
use native.Mathlib.Nat.{add_comm, add-zero, mod-lt, mod-eq_of_lt, zero-mod}
use native.Mathlib.Decide.{dec_lt}
use native.Mathlib.Omega.{arith}
use borrow.Author.Tests.{le-ltb}
use lib.IntN.{ℤ, pos, negsuc, nat_abs, ◌*ℤ◌}
use lib.Signed.{lt_z}
use Rattle.residue.specs.Congruent.{Congruent}
use Rattle.residue.specs.Whole.{CongruentWhole}
use Rattle.residue.specs.Negative.{negative}
use Rattle.residue.specs.Residue.{residue_of}
use Rattle.residue.proofs.Congruent.{congruent_of_eq, congruent_sym, congruent_trans, congruent_mod}
use Rattle.residue.proofs.Negative.{negative-reduced}
use Rattle.residue.proofs.Whole.{Leaves, leaves_number, leaves_product, whole_congruent}

pub residue_below : (m : ℕ) (x : ℤ) → 0 < m → residue_of m x < m
unfolding residue_of
residue_below m (pos a) h = mod-lt a h
residue_below m (negsuc a) h = mod-lt (negative m (suc a)) h

pub residue_leaves : (m : ℕ) (x : ℤ) → 0 < m → Leaves m x (residue_of m x)
unfolding residue_of
residue_leaves m (pos a) h =
    record { same = congruent_sym (congruent_trans (congruent_of_eq (add-zero (a % m))) (congruent_mod m a)) }
residue_leaves m (negsuc a) h =
    record {
      same =
          congruent_sym
          (congruent_trans (congruent_of_eq (add_comm (negative m (suc a) % m) (suc a))) (negative-reduced m (suc a) h));
    }

pub residue_of_lem : (m : ℕ) (x : ℤ) (r : ℕ) → 0 < m → (r ≡ residue_of m x) ↔ ((r < m) × CongruentWhole m (pos r) x)
residue_of_lem m x r h =
    let leaves = whole_congruent m (pos r) x (leaves_number r) (residue_leaves m x h) in (
      (λ is. (subst (λ (k : ℕ). k < m) (sym is) (residue_below m x h), leaves.1 (congruent_of_eq is))),
      λ (below, congruent).
          sym (mod-eq_of_lt below) ∙ (leaves.0 congruent).same ∙ mod-eq_of_lt (residue_below m x h),
    )

pub solving_residues : (m : ℕ) (a b : ℤ) (u : ℕ) → 0 < m
    → CongruentWhole m (a *ℤ pos u) b ↔ Congruent m (residue_of m a * u) (residue_of m b)
solving_residues m a b u h =
    whole_congruent m (a *ℤ pos u) b (leaves_product (residue_leaves m a h) (leaves_number u)) (residue_leaves m b h)

pub minus_one_lem : (m : ℕ) → 0 < m → residue_of m (negsuc 0) ≡ m - 1
unfolding residue_of negative
minus_one_lem m h = go (dec_lt 1 m)
  where
    go : Dec (1 < m) → (m - 1 % m) % m ≡ m - 1
    go (yes l) = ap (λ (k : ℕ). (m - k) % m) (mod-eq_of_lt l) ∙ mod-eq_of_lt (omega arith)
    go (no n) = let e : m ≡ 1 = omega arith in rw e refl

pub minus-zero : (m : ℕ) → residue_of m (pos 0) ≡ 0
unfolding residue_of
minus-zero m = zero-mod m

pub residue_sized : (m : ℕ) (x : ℤ) → cond (lt_z x (pos 0)) (negative m (nat_abs x) % m) (nat_abs x % m) ≡ residue_of m x
unfolding residue_of
residue_sized m (pos a) = rw (le-ltb a 0 (omega arith))
residue_sized m (negsuc a) = refl
