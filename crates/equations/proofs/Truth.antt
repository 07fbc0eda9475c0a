-- Tests and the facts that they stand for: `T b` says that the test b came out true.
--   true_of, false_of     from a fact to the test's value
--   of_true, of_false     and back
--   true_or_false         one of the two
--   same_of_both          tests that imply each other have one value
--   cond_tells            of two different values, the one that a test picks tells the test's outcome
-- The kit's mir.Facts has the tests that are made of two (`and_yes`, `yes_and`) and those of numbers (`yes_eqb`).
use mathlib.Core.Path.{◌≡◌, refl, sym, subst}
use mathlib.Core.Logic.{◌↔◌, ◌⊎◌, inl, inr}
use mathlib.Core.Bool.{Bool, true, false, cond}
use lib.Dec.{T}

pub true_of : (b : Bool) → T b → b ≡ true
true_of true t = refl
true_of false t = absurd t

pub false_of : (b : Bool) → (T b → ⊥) → b ≡ false
false_of true f = absurd (f tt)
false_of false f = refl

pub of_true : {b : Bool} → b ≡ true → T b
of_true h = subst T (sym h) tt

pub of_false : {b : Bool} → b ≡ false → T b → ⊥
of_false h t = subst T h t

pub true_or_false : (b : Bool) → (b ≡ true) ⊎ (b ≡ false)
true_or_false true = inl refl
true_or_false false = inr refl

pub same_of_both : (a b : Bool) → (T a → T b) → (T b → T a) → a ≡ b
same_of_both true b f g = sym (true_of b (f tt))
same_of_both false b f g = sym (false_of b g)

pub cond_tells : {A : Type 0} (x y : A) → (x ≡ y → ⊥) → {P : Type 0} (b : Bool) → T b ↔ P
    → ((cond b x y ≡ x) ↔ P) × ((cond b x y ≡ y) ↔ (P → ⊥))
cond_tells x y differ true same =
    (((λ e. same.0 tt), λ p. refl), ((λ e. absurd (differ e)), λ no. absurd (no (same.0 tt))))
cond_tells x y differ false same =
    (((λ e. absurd (differ (sym e))), λ p. absurd (same.1 p)), ((λ e. same.1), λ no. refl))
