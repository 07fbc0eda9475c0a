-- Vectors and their points: a point is a vector in reverse order with something behind it.
--   dot-reverse                       the sum of products does not mind
--   drop-reverse, reverse_inj         what stands behind, and the vector, can be read off
--   length-turned, below-turned, reverse-turned   `turned` makes the vector of a point
--   extend_point, extend-vector       and so of a point found by back substitution
--   colex_reverse                     the order of points is the dictionary order of vectors
--   first_colex                       so the least point gives the first vector
use mathlib.Core.Path.{◌≡◌, refl, sym, ap, ◌∙◌, subst}
use mathlib.Core.Logic.{◌⊎◌, inl, inr}
use mathlib.Core.List.{List, [], ◌∷◌, reverse_aux}
use mathlib.Core.Option.{some}
use mathlib.Core.Bool.{Bool}
use Prim.Native.Nat.{ℕ, zero, suc, ◌+◌, ◌≤◌, ◌<◌}
use native.Mathlib.Nat.{suc_inj}
use native.Mathlib.Omega.{arith}
use lib.ListN.{length, take, drop, length-drop}
use lib.Dec.{T}
use Rattle.equations.specs.Lists.{first}
use Rattle.equations.specs.Vectors.{Vector, Before, vectors, Below}
use Rattle.equations.specs.Equation.{dot}
use Rattle.equations.proofs.Truth.{true_of, false_of}
use Rattle.equations.proofs.Vectors.{vector-length, vector_of, before_asym, before_irrefl}
use Rattle.equations.proofs.First.{first_is}
use Rattle.elimination.specs.Substitution.{extend}
use Rattle.elimination.specs.Tableau.{turned}
use Rattle.elimination.proofs.Substitution.{length-extend, drop-extend, below-extend, Colex}

-- ---- reversed lists

pub dot-reverse : (v x S R : List ℕ) → length v ≡ length x → dot (reverse_aux v S) (reverse_aux x R) ≡ dot v x + dot S R
dot-reverse [] [] S R h = omega arith
dot-reverse [] (y ∷ x) S R h = absurd (omega arith)
dot-reverse (a ∷ v) [] S R h = absurd (omega arith)
dot-reverse (a ∷ v) (y ∷ x) S R h = dot-reverse v x (a ∷ S) (y ∷ R) (suc_inj h) ∙ omega arith

pub drop-reverse : (j c : ℕ) (v S : List ℕ) → j ≡ length v + c → drop j (reverse_aux v S) ≡ drop c S
drop-reverse j c [] S h = let e : j ≡ c = omega arith in rw e
drop-reverse j c (x ∷ v) S h = drop-reverse j (suc c) v (x ∷ S) (omega arith)

pub reverse_inj : (v w S R : List ℕ) → length v ≡ length w → reverse_aux v S ≡ reverse_aux w R → (v ≡ w) × (S ≡ R)
reverse_inj [] [] S R h e = (refl, e)
reverse_inj [] (y ∷ w) S R h e = absurd (omega arith)
reverse_inj (x ∷ v) [] S R h e = absurd (omega arith)
reverse_inj (x ∷ v) (y ∷ w) S R h e =
    let rest = reverse_inj v w (x ∷ S) (y ∷ R) (suc_inj h) e in
    let p = rest.0 in let q = rest.1 in let a : x ≡ y = cc in (cc, cc)

-- ---- the vector of a point

pub length-turned : (n : ℕ) (Y acc : List ℕ) → n ≤ length Y → length (turned n Y acc) ≡ n + length acc
length-turned zero Y acc h = omega arith
length-turned (suc n) [] acc h = absurd (omega arith)
length-turned (suc n) (y ∷ Y) acc h = length-turned n Y (y ∷ acc) (omega arith) ∙ omega arith

pub below-turned : (m n : ℕ) (Y acc : List ℕ) → Below m (take n Y) → Below m acc → Below m (turned n Y acc)
below-turned m zero Y acc below a = a
below-turned m (suc n) [] acc below a = a
below-turned m (suc n) (y ∷ Y) acc below a = below-turned m n Y (y ∷ acc) below.1 (below.0, a)

pub reverse-turned : (n : ℕ) (Y acc : List ℕ) → n ≤ length Y → reverse_aux (turned n Y acc) (drop n Y) ≡ reverse_aux acc Y
reverse-turned zero Y acc h = refl
reverse-turned (suc n) [] acc h = absurd (omega arith)
reverse-turned (suc n) (y ∷ Y) acc h = reverse-turned n Y (y ∷ acc) (omega arith)

-- the vector of an extended point: i entries found, t given ones, and c behind them
module _ (m n i t c : ℕ) (B : List (List ℕ)) (S : List ℕ) (pos : 0 < m) (fits : i ≤ length B) (places : n ≡ i + t)
    (last : drop t S ≡ c ∷ []) where
  enough : n ≤ length (extend m i B S)
  enough = omega (arith, length-extend m i B S fits, length-drop t S, ap length last)

  pub extend_point : reverse_aux (turned n (extend m i B S) []) (c ∷ []) ≡ extend m i B S
  extend_point =
      ap (reverse_aux (turned n (extend m i B S) [])) (sym (drop-extend m i t n B S fits places ∙ last))
      ∙ reverse-turned n (extend m i B S) [] enough

  pub extend-vector : Below m (take t S) → Vector m n (turned n (extend m i B S) [])
  extend-vector below =
      vector_of m n _ (length-turned n (extend m i B S) [] enough ∙ omega arith)
      (below-turned m n (extend m i B S) [] (below-extend m i t n B S pos fits places below) tt)

-- ---- the two orders

pub colex_reverse : (v w S R : List ℕ) → length v ≡ length w → Colex (reverse_aux v S) (reverse_aux w R)
    → Colex S R ⊎ ((S ≡ R) × Before v w)
colex_reverse [] [] S R h c = inl c
colex_reverse [] (y ∷ w) S R h c = absurd (omega arith)
colex_reverse (x ∷ v) [] S R h c = absurd (omega arith)
colex_reverse (x ∷ v) (y ∷ w) S R h c = go (colex_reverse v w (x ∷ S) (y ∷ R) (suc_inj h) c)
  where
    go : Colex (x ∷ S) (y ∷ R) ⊎ ((◌≡◌ {A = List ℕ} (x ∷ S) (y ∷ R)) × Before v w)
        → Colex S R ⊎ ((S ≡ R) × Before (x ∷ v) (y ∷ w))
    go (inl (inl c)) = inl c
    go (inl (inr p)) = inr (p.0, inl p.1)
    go (inr p) = let e = p.0 in let a : x ≡ y = cc in let b : S ≡ R = cc in inr (b, inr (a, p.1))

module _ (m n : ℕ) (p : List ℕ → Bool) (v : List ℕ) (c : ℕ) (vec : Vector m n v) (is_right : T (p v))
    (least : (w : List ℕ) → Vector m n w → T (p w)
    → (reverse_aux v (c ∷ []) ≡ reverse_aux w (c ∷ [])) ⊎ Colex (reverse_aux v (c ∷ [])) (reverse_aux w (c ∷ []))) where
  pub first_colex : first p (vectors m n) ≡ some v
  first_colex =
      first_is m n p v vec (true_of _ is_right)
      (λ w wv lt. false_of _ (λ t. go w (vector-length m n v vec ∙ sym (vector-length m n w wv)) lt (least w wv t)))
    where
      not_both : (w : List ℕ) → Before w v
          → Colex (c ∷ []) (c ∷ []) ⊎ ((◌≡◌ {A = List ℕ} (c ∷ []) (c ∷ [])) × Before v w) → ⊥
      not_both w lt (inl (inl q)) = q
      not_both w lt (inl (inr q)) = omega arith
      not_both w lt (inr q) = before_asym w v lt q.1

      go : (w : List ℕ) → length v ≡ length w → Before w v
          → (reverse_aux v (c ∷ []) ≡ reverse_aux w (c ∷ [])) ⊎ Colex (reverse_aux v (c ∷ [])) (reverse_aux w (c ∷ [])) → ⊥
      go w lw lt (inl e) = before_irrefl w (subst (Before w) (reverse_inj v w (c ∷ []) (c ∷ []) lw e).0 lt)
      go w lw lt (inr q) = not_both w lt (colex_reverse v w (c ∷ []) (c ∷ []) lw q)
