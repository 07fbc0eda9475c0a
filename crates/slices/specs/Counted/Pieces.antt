-- A list taken piece by piece, with a counter of pieces. As many as the list has elements are enough, since each takes one: `within_step`
-- says it without the counter.
use Rattle.std.specs.Prelude.{◌≡◌, refl, List, [], ◌∷◌, ℕ, zero, suc, ◌≤◌, ◌<◌, length}
use Rattle.std.proofs.Common.{ap, le_refl, arith}

module _ {S E A : Type 0} (first : S → List E → A) (next : S → List E → S) (rest : S → List E → List E) where
  abbrev pub pieces_within : ℕ → S → List E → List A
  pieces_within zero s xs = []
  pieces_within (suc f) s [] = []
  pieces_within (suc f) s (x ∷ xs) = first s (x ∷ xs) ∷ pieces_within f (next s (x ∷ xs)) (rest s (x ∷ xs))

  module _ (fewer : (s : S) (x : E) (xs : List E) → length (rest s (x ∷ xs)) ≤ length xs) where
    enough : (f f' : ℕ) (s : S) (xs : List E) → length xs ≤ f → length xs ≤ f' → pieces_within f s xs ≡ pieces_within f' s xs
    enough zero zero s xs h g = refl
    enough zero (suc f') s [] h g = refl
    enough zero (suc f') s (x ∷ xs) h g = absurd (omega arith)
    enough (suc f) zero s [] h g = refl
    enough (suc f) zero s (x ∷ xs) h g = absurd (omega arith)
    enough (suc f) (suc f') s [] h g = refl
    enough (suc f) (suc f') s (x ∷ xs) h g =
        ap (λ (z : List A). first s (x ∷ xs) ∷ z)
        (enough f f' (next s (x ∷ xs)) (rest s (x ∷ xs)) (omega (arith, fewer s x xs)) (omega (arith, fewer s x xs)))

    pub within_step : (s : S) (xs : List E) → 0 < length xs
        → pieces_within (length xs) s xs ≡ first s xs ∷ pieces_within (length (rest s xs)) (next s xs) (rest s xs)
    within_step s [] some = absurd (omega arith)
    within_step s (x ∷ xs) some =
        ap (λ (z : List A). first s (x ∷ xs) ∷ z)
        (enough (length xs) (length (rest s (x ∷ xs))) (next s (x ∷ xs)) (rest s (x ∷ xs)) (fewer s x xs) (le_refl _))
