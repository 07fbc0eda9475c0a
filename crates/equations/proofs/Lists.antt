-- Tests over the list of all vectors, said by for-all and exists.
--   every-vector, every_of       every vector passes
--   someone-vector, someone_of   some vector passes
--   eq_of_same, same_of_eq       `same_vector` is equality
use mathlib.Core.Path.{◌≡◌, refl, ap, ap₂, subst}
use mathlib.Core.Logic.{inl, inr}
use mathlib.Core.List.{List, [], ◌∷◌}
use mathlib.Core.Option.{none, some, none-ne-some, some-ne-none}
use mathlib.Core.Bool.{Bool, true, false, ◌&&◌, ◌||◌, cond, not}
use Prim.Native.Nat.{ℕ}
use lib.Dec.{T, eqb, eqb→eq, eqb_refl}
use mir.Facts.{and_yes, yes_and}
use Rattle.equations.specs.Lists.{first, every, someone}
use Rattle.equations.specs.Vectors.{Vector, vectors, same_vector}
use Rattle.equations.proofs.Truth.{true_of, of_false}
use Rattle.equations.proofs.First.{first-none}
use Rattle.equations.proofs.Search.{Search, search_vectors, first_of, none_means_none}

-- ---- every one passes, some one passes

module _ (p : List ℕ → Bool) where
  first_of_every : (vs : List (List ℕ)) → T (every p vs) → first (λ v. not (p v)) vs ≡ none
  first_of_every [] t = refl
  first_of_every (v ∷ vs) t = go (p v) t (first_of_every vs)
    where
      go : (b : Bool) → T (b && every p vs) → (T (every p vs) → first (λ v. not (p v)) vs ≡ none)
          → cond (not b) (some v) (first (λ v. not (p v)) vs) ≡ none
      go true t f = f t
      go false t f = absurd t

  every_of_first : (vs : List (List ℕ)) → first (λ v. not (p v)) vs ≡ none → T (every p vs)
  every_of_first [] h = tt
  every_of_first (v ∷ vs) h = go (p v) h (every_of_first vs)
    where
      go : (b : Bool) → cond (not b) (some v) (first (λ v. not (p v)) vs) ≡ none
          → (first (λ v. not (p v)) vs ≡ none → T (every p vs)) → T (b && every p vs)
      go true h f = f h
      go false h f = absurd (some-ne-none v h)

  first_of_someone : (vs : List (List ℕ)) → T (someone p vs) → first p vs ≡ none → ⊥
  first_of_someone [] t h = t
  first_of_someone (v ∷ vs) t h = go (p v) t h (first_of_someone vs)
    where
      go : (b : Bool) → T (b || someone p vs) → cond b (some v) (first p vs) ≡ none
          → (T (someone p vs) → first p vs ≡ none → ⊥) → ⊥
      go true t h f = some-ne-none v h
      go false t h f = f t h

  someone_of_first : (vs : List (List ℕ)) (w : List ℕ) → first p vs ≡ some w → T (someone p vs)
  someone_of_first [] w h = none-ne-some w h
  someone_of_first (v ∷ vs) w h = go (p v) h (someone_of_first vs w)
    where
      go : (b : Bool) → cond b (some v) (first p vs) ≡ some w → (first p vs ≡ some w → T (someone p vs))
          → T (b || someone p vs)
      go true h f = tt
      go false h f = f h

module _ (m n : ℕ) (p : List ℕ → Bool) where
  pub every-vector : T (every p (vectors m n)) → (v : List ℕ) → Vector m n v → T (p v)
  every-vector t v vec =
      of_not (p v) (none_means_none m n (λ v. not (p v)) (first_of_every p (vectors m n) t) v vec)
    where
      of_not : (b : Bool) → (T (not b) → ⊥) → T b
      of_not true f = tt
      of_not false f = f tt

  pub every_of : ((v : List ℕ) → Vector m n v → T (p v)) → T (every p (vectors m n))
  every_of f =
      every_of_first p (vectors m n)
      (first-none m n (λ v. not (p v)) (λ v vec. ap not (true_of (p v) (f v vec))))

  pub someone-vector : T (someone p (vectors m n)) → (v : List ℕ) × Vector m n v × T (p v)
  someone-vector t = go (search_vectors m n p)
    where
      go : Search m n p → (v : List ℕ) × Vector m n v × T (p v)
      go (inl (v, f)) = (v, f.vector, f.holds)
      go (inr fails) = absurd (first_of_someone p (vectors m n) t (first-none m n p fails))

  pub someone_of : (v : List ℕ) → Vector m n v → T (p v) → T (someone p (vectors m n))
  someone_of v vec t = go (search_vectors m n p)
    where
      go : Search m n p → T (someone p (vectors m n))
      go (inl (w, f)) = someone_of_first p (vectors m n) w (first_of m n p w f)
      go (inr fails) = absurd (of_false (fails v vec) t)

-- ---- the same vector

pub eq_of_same : (v w : List ℕ) → T (same_vector v w) → v ≡ w
eq_of_same [] [] t = refl
eq_of_same [] (y ∷ w) t = absurd t
eq_of_same (x ∷ v) [] t = absurd t
eq_of_same (x ∷ v) (y ∷ w) t =
    let b = and_yes (eqb x y) (same_vector v w) t in ap₂ ◌∷◌ (eqb→eq x y b.0) (eq_of_same v w b.1)

pub same_of_eq : (v w : List ℕ) → v ≡ w → T (same_vector v w)
same_of_eq v w h = subst (λ (w : List ℕ). T (same_vector v w)) h (same v)
  where
    same : (v : List ℕ) → T (same_vector v v)
    same [] = tt
    same (x ∷ v) = yes_and (eqb x x) (same_vector v v) (eqb_refl x) (same v)
