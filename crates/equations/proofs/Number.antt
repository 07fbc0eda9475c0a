-- The number of members of a closed set, and of the solutions, is the product of the ranges. The members with the head
-- t·d are the members with head 0, shifted by t times the step; and there is no other head.
--   count_members     of a closed set
--   count_solutions   of the solutions
use mathlib.Core.Path.{◌≡◌, refl, ap, ap₂, ◌∙◌, sym, subst}
use mathlib.Core.List.{List, [], ◌∷◌, map}
use mathlib.Core.Option.{Option, some}
use mathlib.Core.Bool.{Bool, cond}
use Prim.Native.Nat.{ℕ, zero, suc, ◌*◌, ◌%◌, ◌<◌}
use native.Mathlib.Nat.{mul_comm, mod-eq_of_lt, zero-mul, mul-lt-mul_of_pos_right}
use native.Mathlib.Omega.{arith}
use lib.Dec.{T}
use Rattle.residue.specs.Negative.{negative}
use Rattle.residue.proofs.Negative.{negative_is}
use Rattle.equations.specs.Lists.{count}
use Rattle.equations.specs.Vectors.{Vector, vectors, combine}
use Rattle.equations.specs.Equation.{Equation, solves, homogeneous}
use Rattle.equations.specs.Answer.{and_then, range_of, range_product, start_of, steps_of}
use Rattle.equations.proofs.Truth.{true_of, false_of, same_of_both}
use Rattle.equations.proofs.Vectors.{vector-same-length}
use Rattle.equations.proofs.Solving.{difference-solves, sum-solves}
use Rattle.equations.proofs.Combine.{vector-combine, combine_comm, combine_undo}
use Rattle.equations.proofs.Closed.{Closed, closed_rest, HeadStep, Head, stepped, unstepped, head_of}
use Rattle.equations.proofs.Steps.{steps_in, zero_first, steps_of_in}
use Rattle.equations.proofs.Ranges.{range_head, take_step}
use Rattle.equations.proofs.Answer.{solutions_closed, start_solves}
use Rattle.equations.proofs.Sums.{sum, sum-multiples}
use Rattle.equations.proofs.Count.{count_at, count-vectors, count_same, count_none, count_shift}

product-map : (m : ℕ) (ss : List (List ℕ)) → range_product m (map zero_first ss) ≡ range_product m ss
product-map m [] = refl
product-map m (s ∷ ss) = ap (λ (z : ℕ). range_of m s * z) (product-map m ss)

module _ (m n : ℕ) (p : List ℕ → Bool) (pos : 0 < m) (closed : Closed m (suc n) p) where
  -- as many members have the head i·d as have the head 0
  count_head : {d : ℕ} {r : List ℕ} → HeadStep m n p d r → (i : ℕ) → i * d < m → count_at m n p (i * d) ≡ count_at m n p 0
  count_head {d} {r} s i lt =
      sym (count_shift m n i r pos s.rest (λ v. p (i * d ∷ v)))
      ∙ count_same m n (λ v. p (i * d ∷ combine m 1 i v r)) (λ v. p (0 ∷ v))
      (λ v vec. same_of_both (p (i * d ∷ combine m 1 i v r)) (p (0 ∷ v)) (down v vec) (up v vec))
    where
      up : (v : List ℕ) → Vector m n v → T (p (0 ∷ v)) → T (p (i * d ∷ combine m 1 i v r))
      up v vec t =
          subst (λ (z : ℕ). T (p (z ∷ combine m 1 i v r))) (ap (λ (z : ℕ). z % m) (omega arith) ∙ mod-eq_of_lt lt)
          (closed.combined 1 i (0 ∷ v) (d ∷ r) (pos, vec) (s.below, s.rest) t s.holds)

      down : (v : List ℕ) → Vector m n v → T (p (i * d ∷ combine m 1 i v r)) → T (p (0 ∷ v))
      down v vec t =
          subst (λ (z : List ℕ). T (p (0 ∷ z)))
          (combine_undo m n i (negative m i) pos (negative_is m i pos) v r vec s.rest)
          (take_step m n p pos closed s i (negative m i) (i * d) (combine m 1 i v r) (negative_is m i pos)
          (mul_comm i d) lt (vector-combine m n 1 i v r pos vec s.rest) t)

  count_no_head : (y : ℕ) → ((v : List ℕ) → Vector m n v → T (p (y ∷ v)) → ⊥) → count_at m n p y ≡ 0
  count_no_head y f = count_none m n (λ v. p (y ∷ v)) (λ v vec. false_of (p (y ∷ v)) (f v vec))

  product_head : {o : Option (List ℕ)} → Head m n p o → (ss : List (List ℕ)) → count_at m n p 0 ≡ range_product m ss
      → sum (count_at m n p) 0 m ≡ range_product m (and_then o (map zero_first ss))
  product_head (unstepped f) ss h =
      -- the only head is 0, the one multiple of m below m
      sum-multiples (count_at m n p) m (count_at m n p 0) pos 1 m (omega arith)
      (λ i lt. let e : i ≡ 0 = omega arith in ap (λ (z : ℕ). count_at m n p (z * m)) e ∙ ap (count_at m n p) (zero-mul m))
      (λ y lt others. count_no_head y (λ v vec t. others 0 (f y v lt vec t ∙ sym (zero-mul m))))
      ∙ omega (arith, h, product-map m ss)
  product_head (stepped d r s) ss h =
      let whole : m ≡ s.modulus.quotient * d = s.modulus.eq ∙ mul_comm d s.modulus.quotient in
      sum-multiples (count_at m n p) d (count_at m n p 0) s.positive s.modulus.quotient m whole
      (λ i lt. count_head s i (subst (λ (z : ℕ). i * d < z) (sym whole) (mul-lt-mul_of_pos_right lt s.positive)))
      (λ y lt others. count_no_head y
      (λ v vec t. let q = s.heads y v lt vec t in others q.quotient (q.eq ∙ mul_comm d q.quotient)))
      ∙ ap₂ ◌*◌ (sym (range_head s)) (h ∙ sym (product-map m ss))

pub count_members : (m n : ℕ) (p : List ℕ → Bool) → 0 < m → Closed m n p
    → count p (vectors m n) ≡ range_product m (steps_in m n p)
count_members m zero p pos closed = ap (λ (b : Bool). cond b 1 0) (true_of (p []) closed.zeros)
count_members m (suc n) p pos closed =
    count-vectors m n p
    ∙ product_head m n p pos closed (head_of m n p pos closed) (steps_in m n (λ v. p (0 ∷ v)))
    (count_members m n (λ v. p (0 ∷ v)) pos (closed_rest m n p pos closed))

-- the solutions are the solutions with right sides 0, shifted by one of them
pub count_solutions : (m n : ℕ) (es : List Equation) (c : List ℕ) → 0 < m → start_of m n es ≡ some c
    → count (solves m es) (vectors m n) ≡ range_product m (steps_of m n es)
count_solutions m n es c pos h =
    sym (count_shift m n 1 c pos start.0 (solves m es))
    ∙ count_same m n (λ v. solves m es (combine m 1 1 v c)) (solves m (homogeneous es))
    (λ v vec. same_of_both (solves m es (combine m 1 1 v c)) (solves m (homogeneous es) v) (down v vec) (up v vec))
    ∙ count_members m n (solves m (homogeneous es)) pos (solutions_closed m n es)
    ∙ ap (range_product m) (sym (steps_of_in m n es pos))
  where
    start : Vector m n c × T (solves m es c)
    start = start_solves m n es c h

    up : (v : List ℕ) → Vector m n v → T (solves m (homogeneous es) v) → T (solves m es (combine m 1 1 v c))
    up v vec t =
        subst (λ (z : List ℕ). T (solves m es z)) (combine_comm m c v)
        (sum-solves m 1 c v (vector-same-length m n c v start.0 vec) es start.1 t)

    down : (v : List ℕ) → Vector m n v → T (solves m es (combine m 1 1 v c)) → T (solves m (homogeneous es) v)
    down v vec t =
        difference-solves m c v (vector-same-length m n c v start.0 vec) es start.1
        (subst (λ (z : List ℕ). T (solves m es z)) (combine_comm m v c) t)
