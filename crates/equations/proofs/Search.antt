-- One of the vectors is the first that passes a test, or none passes; hence what `first` tells.
--   Search, search_vectors     there is a first one in dictionary order, or none passes
--   first_of, first_some       what `first` finds is the first one
--   first_holds, first-least   its parts
--   none_means_none            where it finds nothing, no vector passes
--   found_none                 and the other way round
--   first_cong                 tests that agree on all vectors have the same first
use mathlib.Core.Path.{◌≡◌, sym, ◌∙◌, subst}
use mathlib.Core.Logic.{◌↔◌, ◌⊎◌, inl, inr}
use mathlib.Core.List.{List, [], ◌∷◌}
use mathlib.Core.Option.{none, some, none-ne-some, some-ne-none, some-injective}
use mathlib.Core.Bool.{Bool, true, false}
use Prim.Native.Nat.{ℕ, zero, suc, ◌+◌, ◌<◌}
use native.Mathlib.Omega.{arith}
use lib.Dec.{T}
use borrow.Author.Count.{below_more}
use Rattle.equations.specs.Lists.{first}
use Rattle.equations.specs.Vectors.{Vector, Before, First, vectors}
use Rattle.equations.proofs.Truth.{true_of, false_of, of_true, of_false, true_or_false}
use Rattle.equations.proofs.Vectors.{nothing_before_zeros}
use Rattle.equations.proofs.First.{first-none, first_is}

abbrev pub Search : ℕ → ℕ → (List ℕ → Bool) → Type 0
Search m n p = ((v : List ℕ) × First m n p v) ⊎ ((w : List ℕ) → Vector m n w → p w ≡ false)

by_head : (m n : ℕ) (p : List ℕ → Bool) → ((y : ℕ) (w : List ℕ) → y < m → Vector m n w → p (y ∷ w) ≡ false)
    → (w : List ℕ) → Vector m (suc n) w → p w ≡ false
by_head m n p f [] vec = absurd vec
by_head m n p f (y ∷ w) vec = f y w vec.0 vec.1

-- no vector with a head below x passes; k heads are left to try
scan : (m n : ℕ) (p : List ℕ → Bool) → ((x : ℕ) → Search m n (λ v. p (x ∷ v))) → (x k : ℕ) → x + k ≡ m
    → ((y : ℕ) (w : List ℕ) → y < x → Vector m n w → p (y ∷ w) ≡ false) → Search m (suc n) p
scan m n p at x zero e below = inr (by_head m n p (λ y w lt. below y w (omega arith)))
scan m n p at x (suc k) e below = go (at x) (scan m n p at (suc x) k (omega arith))
  where
    least : (v : List ℕ) → First m n (λ v. p (x ∷ v)) v → (w : List ℕ) → Vector m (suc n) w → Before w (x ∷ v)
        → T (p w) → ⊥
    least v f [] vec b = absurd vec
    least v f (y ∷ w) vec (inl lt) = of_false (below y w lt vec.1)
    least v f (y ∷ w) vec (inr b) = rw b.0 (f.least w vec.1 b.1)

    go : Search m n (λ v. p (x ∷ v))
        → (((y : ℕ) (w : List ℕ) → y < suc x → Vector m n w → p (y ∷ w) ≡ false) → Search m (suc n) p)
        → Search m (suc n) p
    go (inl (v, f)) next =
        inl (x ∷ v, record { vector = (omega arith, f.vector); holds = f.holds; least = least v f })
    go (inr fails) next =
        next
        (λ y w lt. below_more (λ y. (w : List ℕ) → Vector m n w → p (y ∷ w) ≡ false) x (λ y lt w. below y w lt) fails y
        (omega arith) w)

pub search_vectors : (m n : ℕ) (p : List ℕ → Bool) → Search m n p
search_vectors m zero p = go (true_or_false (p []))
  where
    fails : p [] ≡ false → (w : List ℕ) → Vector m zero w → p w ≡ false
    fails h [] vec = h
    fails h (x ∷ w) vec = absurd vec

    go : (p [] ≡ true) ⊎ (p [] ≡ false) → Search m zero p
    go (inl h) = inl ([], record { vector = tt; holds = of_true h; least = λ w vec b. absurd (nothing_before_zeros 0 w b) })
    go (inr h) = inr (fails h)
search_vectors m (suc n) p =
    scan m n p (λ x. search_vectors m n (λ v. p (x ∷ v))) 0 m (omega arith) (λ y w lt vec. absurd (omega arith))

-- ---- the first vector that passes

pub first_of : (m n : ℕ) (p : List ℕ → Bool) (v : List ℕ) → First m n p v → first p (vectors m n) ≡ some v
first_of m n p v f =
    first_is m n p v f.vector (true_of (p v) f.holds) (λ w vec b. false_of (p w) (f.least w vec b))

pub first_some : (m n : ℕ) (p : List ℕ → Bool) (v : List ℕ) → first p (vectors m n) ≡ some v → First m n p v
first_some m n p v h = go (search_vectors m n p)
  where
    go : Search m n p → First m n p v
    go (inl (w, f)) = subst (First m n p) (some-injective w v (sym (first_of m n p w f) ∙ h)) f
    go (inr fails) = absurd (none-ne-some v (sym (first-none m n p fails) ∙ h))

pub first_holds : (m n : ℕ) (p : List ℕ → Bool) (v : List ℕ) → first p (vectors m n) ≡ some v → Vector m n v × T (p v)
first_holds m n p v h = let f = first_some m n p v h in (f.vector, f.holds)

pub first-least : (m n : ℕ) (p : List ℕ → Bool) (v : List ℕ) → first p (vectors m n) ≡ some v
    → (w : List ℕ) → Vector m n w → Before w v → T (p w) → ⊥
first-least m n p v h = (first_some m n p v h).least

pub none_means_none : (m n : ℕ) (p : List ℕ → Bool) → first p (vectors m n) ≡ none
    → (w : List ℕ) → Vector m n w → T (p w) → ⊥
none_means_none m n p h w vec = go (search_vectors m n p)
  where
    go : Search m n p → T (p w) → ⊥
    go (inl (v, f)) t = some-ne-none v (sym (first_of m n p v f) ∙ h)
    go (inr fails) t = of_false (fails w vec) t

pub found_none : (m n : ℕ) (p : List ℕ → Bool)
    → (first p (vectors m n) ≡ none) ↔ ((v : List ℕ) → Vector m n v → T (p v) → ⊥)
found_none m n p = (none_means_none m n p, λ no. first-none m n p (λ v vec. false_of (p v) (no v vec)))

pub first_cong : (m n : ℕ) (p q : List ℕ → Bool) → ((v : List ℕ) → Vector m n v → p v ≡ q v)
    → first p (vectors m n) ≡ first q (vectors m n)
first_cong m n p q same = go (search_vectors m n p)
  where
    go : Search m n p → first p (vectors m n) ≡ first q (vectors m n)
    go (inl (v, f)) =
        first_of m n p v f
        ∙ sym (first_of m n q v record {
          vector = f.vector;
          holds = subst T (same v f.vector) f.holds;
          least = λ w vec b t. f.least w vec b (subst T (sym (same w vec)) t);
        })
    go (inr fails) = first-none m n p fails ∙ sym (first-none m n q (λ w vec. sym (same w vec) ∙ fails w vec))
