-- A list has no more images than members, so a claim describes at most m^k vectors, for its k steps.
--   images_few         how many vectors are the image of one in a list
--   vectors-number     there are m^k vectors of k residues
--   described_few      how many vectors a claim describes
--   solutions_few      and how many solutions there are where it is right
--   right-found        there is at least one, since a claim of a start describes something
use mathlib.Core.Path.{◌≡◌, refl, ap, ◌∙◌, sym}
use mathlib.Core.List.{List, [], ◌∷◌, map}
use mathlib.Core.Logic.{inl, inr}
use mathlib.Core.Option.{some}
use mathlib.Core.Bool.{Bool, true, false, cond, ◌&&◌, ◌||◌}
use Prim.Native.Nat.{ℕ, zero, suc, ◌+◌, ◌*◌, ◌^◌, ◌≤◌, ◌<◌}
use native.Mathlib.Nat.{pow-zero, pow-succ'}
use native.Mathlib.Omega.{arith}
use lib.ListN.{length, replicate, length-append, length-map}
use lib.Dec.{T, eqb}
use borrow.Author.Tests.{eq-eqb, ne_eqb}
use Rattle.equations.specs.Lists.{someone, count}
use Rattle.equations.specs.Vectors.{Vector, AllVectors, headed, vectors, same_vector, combination}
use Rattle.equations.specs.Equation.{Equation, solves}
use Rattle.equations.specs.Answer.{start_of}
use Rattle.equations.specs.Claim.{from, describes, is_right}
use Rattle.equations.proofs.Truth.{same_of_both}
use Rattle.equations.proofs.Claim.{describes_exists, right-all}
use Rattle.equations.proofs.Combine.{vector_zeros}
use Rattle.equations.proofs.Listed.{vector-combination}
use Rattle.equations.proofs.Answer.{Found, start_found, start_none}
use Rattle.equations.proofs.Sums.{sum_single}
use Rattle.equations.proofs.Count.{count_at, count-vectors, count_same, count_none}

-- ---- images

count_or : (p q : List ℕ → Bool) (vs : List (List ℕ)) → count (λ v. p v || q v) vs ≤ count p vs + count q vs
count_or p q [] = omega arith
count_or p q (v ∷ vs) = go (p v) (q v) (count_or p q vs)
  where
    go : (a b : Bool) → count (λ v. p v || q v) vs ≤ count p vs + count q vs
        → cond (a || b) (suc (count (λ v. p v || q v) vs)) (count (λ v. p v || q v) vs)
        ≤ cond a (suc (count p vs)) (count p vs) + cond b (suc (count q vs)) (count q vs)
    go true true h = omega arith
    go true false h = omega arith
    go false true h = omega arith
    go false false h = omega arith

-- a vector is there once at most
count-same-vector : (m n : ℕ) (w : List ℕ) → count (same_vector w) (vectors m n) ≤ 1
count-same-vector m zero w = go (same_vector w [])
  where
    go : (b : Bool) → cond b 1 0 ≤ 1
    go true = omega arith
    go false = omega arith
count-same-vector m (suc n) [] = omega (arith, count_none m (suc n) (same_vector []) nothing)
  where
    nothing : (v : List ℕ) → Vector m (suc n) v → same_vector [] v ≡ false
    nothing [] vec = absurd vec
    nothing (y ∷ v) vec = refl
count-same-vector m (suc n) (x ∷ w) =
    omega (
      arith,
      count-vectors m n (same_vector (x ∷ w)),
      sum_single (count_at m n (same_vector (x ∷ w))) x 0 m
          (λ y other. count_none m n (λ v. eqb x y && same_vector w v) (λ v vec. rw (ne_eqb x y (λ e. other (sym e))))),
      count_same m n (λ v. eqb x x && same_vector w v) (same_vector w) (λ v vec. rw (eq-eqb x x refl)),
      count-same-vector m n w,
    )

pub images_few : (m n : ℕ) (f : List ℕ → List ℕ) (ts : List (List ℕ))
    → count (λ v. someone (λ t. same_vector (f t) v) ts) (vectors m n) ≤ length ts
images_few m n f [] = omega (arith, count_none m n (λ v. false) (λ v vec. refl))
images_few m n f (t ∷ ts) =
    omega (
      arith,
      count_or (same_vector (f t)) (λ v. someone (λ t. same_vector (f t) v) ts) (vectors m n),
      count-same-vector m n (f t),
      images_few m n f ts,
    )

-- ---- how many vectors there are

length-headed : (vs : List (List ℕ)) (x k : ℕ) → length (headed vs x k) ≡ k * length vs
length-headed vs x zero = omega arith
length-headed vs x (suc k) =
    length-append (map (λ (v : List ℕ). x ∷ v) vs) (headed vs (suc x) k)
    ∙ omega (arith, length-map vs (λ (v : List ℕ). x ∷ v), length-headed vs (suc x) k)

pub vectors-number : (m k : ℕ) → length (vectors m k) ≡ m ^ k
vectors-number m zero = sym (pow-zero m)
vectors-number m (suc k) =
    length-headed (vectors m k) 0 m ∙ ap (λ (z : ℕ). m * z) (vectors-number m k) ∙ sym (pow-succ' m k)

-- ---- claims

pub described_few : (m n : ℕ) (c : List ℕ) (ss : List (List ℕ))
    → count (describes m (from c ss)) (vectors m n) ≤ m ^ length ss
unfolding describes
described_few m n c ss =
    omega (arith, images_few m n (combination m c ss) (vectors m (length ss)), vectors-number m (length ss))

pub solutions_few : (m n : ℕ) (es : List Equation) (c : List ℕ) (ss : List (List ℕ)) → T (is_right m n es (from c ss))
    → count (solves m es) (vectors m n) ≤ m ^ length ss
solutions_few m n es c ss right = omega (arith, same, described_few m n c ss)
  where
    same : count (describes m (from c ss)) (vectors m n) ≡ count (solves m es) (vectors m n)
    same =
        count_same m n (describes m (from c ss)) (solves m es)
        (λ v vec. let both = (right-all m n es (from c ss)).0 right v vec in
        same_of_both (describes m (from c ss) v) (solves m es v) both.0 both.1)

pub right-found : (m n : ℕ) (es : List Equation) (c : List ℕ) (ss : List (List ℕ)) → 0 < m → Vector m n c → AllVectors m n ss
    → T (is_right m n es (from c ss)) → (v : List ℕ) × (start_of m n es ≡ some v)
right-found m n es c ss pos vec vs right = go (start_found m n es)
  where
    zeros : List ℕ
    zeros = replicate (length ss) 0

    go : Found m n es → (v : List ℕ) × (start_of m n es ≡ some v)
    go (inr found) = found
    go (inl h) =
        let v = combination m c ss zeros in
        let vv = vector-combination m n pos c vec ss vs zeros in
        absurd
        ((start_none m n es).0 h v vv
        (((right-all m n es (from c ss)).0 right v vv).0
        ((describes_exists m c ss v).1 (zeros, vector_zeros m (length ss) pos, refl))))
