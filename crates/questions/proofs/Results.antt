-- What a call gives, told apart.
--   gives-ok    where it gives its answer, no question turned it away,
--   gives-err   and where it gives a refusal, the question with this number did
use mathlib.Core.Path.{◌≡◌, ◌∙◌}
use mathlib.Core.Logic.{◌⊎◌, inl, inr}
use Prim.Native.Nat.{ℕ}
use native.Mathlib.Omega.{arith}
use Rattle.std.specs.Prelude.{Result, Ok, Err}
use Rattle.questions.specs.Questions.{unless_refused}
use Rattle.questions.proofs.Questions.{unless_either}

module _ {A : Type 0} (number : ℕ) (answer : A) where
  pub gives-ok : {x : A} → unless_refused Err number (Ok answer) ≡ Ok x → (number ≡ 0) × (x ≡ answer)
  gives-ok {x} is = by (unless_either Err number (Ok answer) (Ok x) is)
    where
      by : ((number ≡ 0) × (◌≡◌ {A = Result A ℕ} (Ok answer) (Ok x))) ⊎ ((number ≡ 0 → ⊥) × (◌≡◌ {A = Result A ℕ} (Err number) (Ok x)))
          → (number ≡ 0) × (x ≡ answer)
      by (inl (none, same)) = (none, cc)
      by (inr (some, same)) = let z : ◌≡◌ {A = ℕ} 0 1 = cc in absurd (omega arith)

  pub gives-err : {k : ℕ} → unless_refused Err number (Ok answer) ≡ Err k → (number ≡ k) × (k ≡ 0 → ⊥)
  gives-err {k} is = by (unless_either Err number (Ok answer) (Err k) is)
    where
      by : ((number ≡ 0) × (◌≡◌ {A = Result A ℕ} (Ok answer) (Err k))) ⊎ ((number ≡ 0 → ⊥) × (◌≡◌ {A = Result A ℕ} (Err number) (Err k)))
          → (number ≡ k) × (k ≡ 0 → ⊥)
      by (inl (none, same)) = let z : ◌≡◌ {A = ℕ} 0 1 = cc in absurd (omega arith)
      by (inr (some, same)) = let e : number ≡ k = cc in (e, λ z. some (e ∙ z))
