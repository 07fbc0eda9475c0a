-- How many vectors pass a test, by the heads of the vectors; and that the number does
-- not change when all vectors are shifted.
--   count-vectors   the vectors with head 0, with head 1, and so on
--   count_same      tests that agree on all vectors
--   count_none      a test that no vector passes
--   count_shift     t·s added to every vector
use mathlib.Core.Path.{◌≡◌, refl, ap, ◌∙◌, sym}
use mathlib.Core.List.{List, [], ◌∷◌, ◌++◌, map}
use mathlib.Core.Bool.{Bool, true, false, cond}
use Prim.Native.Nat.{ℕ, zero, suc, ◌+◌, ◌*◌, ◌%◌, ◌<◌}
use native.Mathlib.Omega.{arith}
use Rattle.equations.specs.Lists.{count}
use Rattle.equations.specs.Vectors.{Vector, headed, vectors, combine}
use Rattle.equations.proofs.Sums.{sum, sum_cong, sum_rotate}

count-append : (p : List ℕ → Bool) (vs ws : List (List ℕ)) → count p (vs ++ ws) ≡ count p vs + count p ws
count-append p [] ws = omega arith
count-append p (v ∷ vs) ws =
    ap (λ (z : ℕ). cond (p v) (suc z) z) (count-append p vs ws) ∙ one_more (p v)
  where
    one_more : (b : Bool)
        → cond b (suc (count p vs + count p ws)) (count p vs + count p ws)
        ≡ cond b (suc (count p vs)) (count p vs) + count p ws
    one_more true = omega arith
    one_more false = refl

count_map : (p : List ℕ → Bool) (x : ℕ) (vs : List (List ℕ))
    → count p (map (λ (v : List ℕ). x ∷ v) vs) ≡ count (λ v. p (x ∷ v)) vs
count_map p x [] = refl
count_map p x (v ∷ vs) = ap (λ (z : ℕ). cond (p (x ∷ v)) (suc z) z) (count_map p x vs)

count-headed : (p : List ℕ → Bool) (vs : List (List ℕ)) (x k : ℕ)
    → count p (headed vs x k) ≡ sum (λ y. count (λ v. p (y ∷ v)) vs) x k
count-headed p vs x zero = refl
count-headed p vs x (suc k) =
    count-append p (map (λ (v : List ℕ). x ∷ v) vs) (headed vs (suc x) k)
    ∙ omega (arith, count_map p x vs, count-headed p vs (suc x) k)

-- the vectors that pass and have head x
abbrev pub count_at : ℕ → ℕ → (List ℕ → Bool) → ℕ → ℕ
count_at m n p x = count (λ v. p (x ∷ v)) (vectors m n)

pub count-vectors : (m n : ℕ) (p : List ℕ → Bool) → count p (vectors m (suc n)) ≡ sum (count_at m n p) 0 m
count-vectors m n p = count-headed p (vectors m n) 0 m

pub count_same : (m n : ℕ) (p q : List ℕ → Bool) → ((v : List ℕ) → Vector m n v → p v ≡ q v)
    → count p (vectors m n) ≡ count q (vectors m n)
count_same m zero p q h = ap (λ (b : Bool). cond b 1 0) (h [] tt)
count_same m (suc n) p q h =
    count-vectors m n p
    ∙ sum_cong (count_at m n p) (count_at m n q) 0 m
    (λ x low high. count_same m n (λ v. p (x ∷ v)) (λ v. q (x ∷ v)) (λ v vec. h (x ∷ v) (omega arith, vec)))
    ∙ sym (count-vectors m n q)

pub count_none : (m n : ℕ) (p : List ℕ → Bool) → ((v : List ℕ) → Vector m n v → p v ≡ false) → count p (vectors m n) ≡ 0
count_none m n p h = count_same m n p (λ v. false) h ∙ nothing (vectors m n)
  where
    nothing : (vs : List (List ℕ)) → count (λ v. false) vs ≡ 0
    nothing [] = refl
    nothing (v ∷ vs) = nothing vs

pub count_shift : (m n t : ℕ) (s : List ℕ) → 0 < m → Vector m n s → (p : List ℕ → Bool)
    → count (λ v. p (combine m 1 t v s)) (vectors m n) ≡ count p (vectors m n)
count_shift m zero t [] pos vec p = refl
count_shift m zero t (y ∷ s) pos vec p = absurd vec
count_shift m (suc n) t [] pos vec p = absurd vec
count_shift m (suc n) t (y ∷ s) pos vec p =
    count-vectors m n (λ v. p (combine m 1 t v (y ∷ s)))
    ∙ sum_cong (count_at m n (λ v. p (combine m 1 t v (y ∷ s)))) (λ x. count_at m n p ((x + t * y) % m)) 0 m
    (λ x low high. count_shift m n t s pos vec.1 (λ v. p ((1 * x + t * y) % m ∷ v))
    ∙ ap (λ (z : ℕ). count_at m n p (z % m)) (omega arith))
    ∙ sum_rotate (count_at m n p) m (t * y) pos
    ∙ sym (count-vectors m n p)
