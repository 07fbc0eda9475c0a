-- What a mark tells.
--   Apart            a way to show the three marks apart
--   mark_tells       so shown, a mark tells whether the set is right and whether a step is superfluous
--   right_but_long   so it is with the mark itself, by the definitions
use mathlib.Core.Path.{◌≡◌, refl, sym}
use mathlib.Core.Logic.{◌↔◌, inl, inr, ⊎_elim}
use mathlib.Core.Bool.{Bool, true, false}
use mathlib.Core.List.{List}
use Prim.Native.Nat.{ℕ, zero, suc}
use native.Mathlib.Omega.{arith}
use lib.Dec.{T}
use Rattle.equations.specs.declared.Mark.{Mark}
use Rattle.equations.specs.declared.Mark.TheVariants.{Pass, Long, Fail}
use Rattle.equations.specs.Equation.{Equation}
use Rattle.equations.specs.Claim.{Claim, is_right}
use Rattle.equations.specs.Marks.{superfluous_in, mark_with, mark_of, HasSuperfluous, MarkTells}
use Rattle.equations.proofs.Superfluous.{has_superfluous, none-superfluous}

pub record Apart {A : Type 0} (shown : Mark → A) : Type 0 where
  pub pass_fail : shown Pass ≡ shown Fail → ⊥
  pub long_fail : shown Long ≡ shown Fail → ⊥
  pub pass-long : shown Pass ≡ shown Long → ⊥

module _ {A : Type 0} (shown : Mark → A) (apart : Apart shown) where
  by_parts : {Right Has : Type 0} (b : Bool) (k : ℕ) → T b ↔ Right → (k ≡ 0 → Has → ⊥) → ((j : ℕ) → k ≡ suc j → Has)
      → MarkTells shown Right Has (shown (mark_with b k))
  by_parts false k same never has = record {
    right = (⊎_elim (λ e. absurd (apart.pass_fail (sym e))) (λ e. absurd (apart.long_fail (sym e))), λ right. absurd (same.1 right));
    failed = ((λ e. same.1), λ wrong. refl);
    long = ((λ e. absurd (apart.long_fail (sym e))), λ both. absurd (same.1 both.0));
    passed = ((λ e. absurd (apart.pass_fail (sym e))), λ both. absurd (same.1 both.0));
  }
  by_parts true zero same never has = record {
    right = ((λ e. same.0 tt), λ right. inl refl);
    failed = ((λ e. absurd (apart.pass_fail e)), λ wrong. absurd (wrong (same.0 tt)));
    long = ((λ e. absurd (apart.pass-long e)), λ both. absurd (never refl both.1));
    passed = ((λ e. (same.0 tt, never refl)), λ both. refl);
  }
  by_parts true (suc j) same never has = record {
    right = ((λ e. same.0 tt), λ right. inr refl);
    failed = ((λ e. absurd (apart.long_fail e)), λ wrong. absurd (wrong (same.0 tt)));
    long = ((λ e. (same.0 tt, has j refl)), λ both. refl);
    passed = ((λ e. absurd (apart.pass-long (sym e))), λ both. absurd (both.1 (has j refl)));
  }

  -- by the test of whether the set is right
  pub mark_tells : (m n : ℕ) (claim : Claim) {Right : Type 0} (b : Bool) → T b ↔ Right
      → MarkTells shown Right (HasSuperfluous m n claim) (shown (mark_with b (superfluous_in m n claim)))
  mark_tells m n claim b same = by_parts b (superfluous_in m n claim) same (none-superfluous m n claim) (has_superfluous m n claim)

marks-apart : Apart (λ mark. mark)
marks-apart = record {
  pass_fail = λ same. let z : ◌≡◌ {A = ℕ} 0 1 = cc in omega arith;
  long_fail = λ same. let z : ◌≡◌ {A = ℕ} 0 1 = cc in omega arith;
  pass-long = λ same. let z : ◌≡◌ {A = ℕ} 0 1 = cc in omega arith;
}

pub right_but_long : (m n : ℕ) (es : List Equation) (claim : Claim)
    → MarkTells (λ mark. mark) (T (is_right m n es claim)) (HasSuperfluous m n claim) (mark_of m n es claim)
unfolding mark_of
right_but_long m n es claim = mark_tells (λ mark. mark) marks-apart m n claim (is_right m n es claim) ((λ t. t), λ t. t)
