-- Each member of a closed set is a combination of the set's steps, and within the coefficients' ranges in one way only.
-- The coefficient of a place's step is settled by the entry at that place; what is left has one place less.
--   Member              a vector that passes the set's test
--   combination-holds   every combination of the steps is a member
--   writing             every member is one
--   one_writing         in one way
use mathlib.Core.Path.{◌≡◌, refl, ap, ap₂, ◌∙◌, sym, subst}
use mathlib.Core.List.{List, [], ◌∷◌, map, head-eq_of_cons-eq, tail-eq_of_cons-eq}
use mathlib.Core.Option.{Option, some}
use mathlib.Core.Bool.{Bool}
use Prim.Native.Nat.{ℕ, zero, suc, ◌*◌, ◌%◌, ◌<◌}
use native.Mathlib.Nat.{mod-eq_of_lt, eq_of_mul-eq-mul_left}
use native.Mathlib.Omega.{arith}
use lib.ListN.{replicate}
use lib.Dec.{T}
use Rattle.residue.specs.Negative.{negative}
use Rattle.residue.proofs.Negative.{negative_is, negative_opposite}
use Rattle.equations.specs.Vectors.{Vector, combine}
use Rattle.equations.specs.Answer.{and_then}
use Rattle.equations.specs.Promises.{Within, Written}
use Rattle.equations.proofs.Combine.{vector-combine, vector_zeros, combine_undo, combine_cancel}
use Rattle.equations.proofs.Closed.{Closed, closed_rest, HeadStep, Head, stepped, unstepped, head_of}
use Rattle.equations.proofs.Steps.{steps_in, zero_first}
use Rattle.equations.proofs.Ranges.{multiple_below, within_of_multiple, within-map, within_unmap, spanned, spanned_map, take_step}

-- ---- one place: the step there, if any, over the steps ss of the rest

abbrev pub Member : ℕ → ℕ → (List ℕ → Bool) → List ℕ → Type 0
Member m n p v = Vector m n v × T (p v)

module _ (m n : ℕ) (p : List ℕ → Bool) (pos : 0 < m) (closed : Closed m (suc n) p) (ss : List (List ℕ)) where
  abbrev Steps : Option (List ℕ) → List (List ℕ)
  Steps o = and_then o (map zero_first ss)

  add_step : {d : ℕ} {r : List ℕ} (s : HeadStep m n p d r) (t : ℕ) (ts : List ℕ) → d * t < m
      → spanned m (suc n) (Steps (some (d ∷ r))) (t ∷ ts)
      ≡ d * t ∷ combine m 1 t (spanned m n ss ts) r
  add_step {d} {r} s t ts lt =
      ap (λ (z : List ℕ). combine m 1 t z (d ∷ r)) (spanned_map m n ss ts)
      ∙ ap (λ (z : ℕ). z ∷ combine m 1 t (spanned m n ss ts) r)
      (ap (λ (z : ℕ). z % m) (omega arith) ∙ mod-eq_of_lt lt)

  write_head : {o : Option (List ℕ)} → Head m n p o → (x : ℕ) (w : List ℕ) → x < m → Vector m n w → T (p (x ∷ w))
      → ((w : List ℕ) → Vector m n w → T (p (0 ∷ w)) → Written m (replicate n 0) ss w)
      → Written m (replicate (suc n) 0) (Steps o) (x ∷ w)
  write_head (unstepped f) x w lt vec t rest =
      let e = f x w lt vec t in
      let u = rest w vec (subst (λ (z : ℕ). T (p (z ∷ w))) e t) in
      (u.0, within-map m ss u.0 u.1, spanned_map m n ss u.0 ∙ ap₂ ◌∷◌ (sym e) u.2)
  write_head (stepped d r s) x w lt vec t rest =
      let q = (s.heads x w lt vec t).quotient in
      let e : x ≡ d * q = (s.heads x w lt vec t).eq in
      let k = negative m q in
      let left = take_step m n p pos closed s q k x w (negative_is m q pos) e lt vec t in
      let u = rest (combine m 1 k w r) (vector-combine m n 1 k w r pos vec s.rest) left in
      let back = combine_undo m n k q pos (negative_opposite m q pos) w r vec s.rest in
      let small : d * q < m = omega arith in (
        q ∷ u.0,
        (within_of_multiple s q small, within-map m ss u.0 u.1),
        add_step s q u.0 small ∙ ap₂ ◌∷◌ (sym e) (ap (λ (z : List ℕ). combine m 1 q z r) u.2 ∙ back),
      )

  one_head : {o : Option (List ℕ)} → Head m n p o → ((ts : List ℕ) → Vector m n (spanned m n ss ts))
      → (ts us : List ℕ) → Within m (Steps o) ts → Within m (Steps o) us
      → spanned m (suc n) (Steps o) ts ≡ spanned m (suc n) (Steps o) us
      → ((ts us : List ℕ) → Within m ss ts → Within m ss us
      → spanned m n ss ts ≡ spanned m n ss us → ts ≡ us)
      → ts ≡ us
  one_head (unstepped f) vec ts us a b h rest =
      rest ts us (within_unmap m ss ts a) (within_unmap m ss us b)
      (tail-eq_of_cons-eq
      (sym (spanned_map m n ss ts) ∙ h ∙ spanned_map m n ss us))
  one_head (stepped d r s) vec [] us a b h rest = absurd a
  one_head (stepped d r s) vec (t ∷ ts) [] a b h rest = absurd b
  one_head (stepped d r s) vec (t ∷ ts) (u ∷ us) a b h rest =
      let same = sym (add_step s t ts (multiple_below s t a.0)) ∙ h ∙ add_step s u us (multiple_below s u b.0) in
      let e : t ≡ u = eq_of_mul-eq-mul_left d s.positive t u (head-eq_of_cons-eq same) in
      let tails = tail-eq_of_cons-eq same ∙ ap (λ (z : ℕ). combine m 1 z (spanned m n ss us) r) (sym e) in
      ap₂ ◌∷◌ e
      (rest ts us (within_unmap m ss ts a.1) (within_unmap m ss us b.1)
      (combine_cancel m n t pos (spanned m n ss ts) (spanned m n ss us) r (vec ts) (vec us) s.rest tails))

  holds_head : {o : Option (List ℕ)} → Head m n p o
      → ((ts : List ℕ) → Member m n (λ v. p (0 ∷ v)) (spanned m n ss ts))
      → (ts : List ℕ) → Member m (suc n) p (spanned m (suc n) (Steps o) ts)
  holds_head (unstepped f) rest ts =
      subst (Member m (suc n) p) (sym (spanned_map m n ss ts)) ((pos, (rest ts).0), (rest ts).1)
  holds_head (stepped d r s) rest [] = (vector_zeros m (suc n) pos, closed.zeros)
  holds_head (stepped d r s) rest (t ∷ ts) =
      let v : List ℕ = 0 ∷ spanned m n ss ts in
      subst (λ (z : List ℕ). Member m (suc n) p (combine m 1 t z (d ∷ r))) (sym (spanned_map m n ss ts)) (
        vector-combine m (suc n) 1 t v (d ∷ r) pos (pos, (rest ts).0) (s.below, s.rest),
        closed.combined 1 t v (d ∷ r) (pos, (rest ts).0) (s.below, s.rest) (rest ts).1 s.holds,
      )

-- ---- all places

pub combination-holds : (m n : ℕ) (p : List ℕ → Bool) → 0 < m → Closed m n p → (ts : List ℕ)
    → Member m n p (spanned m n (steps_in m n p) ts)
combination-holds m zero p pos closed ts = (tt, closed.zeros)
combination-holds m (suc n) p pos closed ts =
    holds_head m n p pos closed (steps_in m n (λ v. p (0 ∷ v))) (head_of m n p pos closed)
    (combination-holds m n (λ v. p (0 ∷ v)) pos (closed_rest m n p pos closed)) ts

pub writing : (m n : ℕ) (p : List ℕ → Bool) → 0 < m → Closed m n p → (v : List ℕ) → Vector m n v → T (p v)
    → Written m (replicate n 0) (steps_in m n p) v
writing m zero p pos closed [] vec t = ([], tt, refl)
writing m zero p pos closed (x ∷ v) vec t = absurd vec
writing m (suc n) p pos closed [] vec t = absurd vec
writing m (suc n) p pos closed (x ∷ v) vec t =
    write_head m n p pos closed (steps_in m n (λ v. p (0 ∷ v))) (head_of m n p pos closed) x v vec.0 vec.1 t
    (writing m n (λ v. p (0 ∷ v)) pos (closed_rest m n p pos closed))

pub one_writing : (m n : ℕ) (p : List ℕ → Bool) → 0 < m → Closed m n p → (ts us : List ℕ)
    → Within m (steps_in m n p) ts → Within m (steps_in m n p) us
    → spanned m n (steps_in m n p) ts ≡ spanned m n (steps_in m n p) us → ts ≡ us
one_writing m zero p pos closed [] [] a b h = refl
one_writing m zero p pos closed [] (u ∷ us) a b h = absurd b
one_writing m zero p pos closed (t ∷ ts) us a b h = absurd a
one_writing m (suc n) p pos closed ts us a b h =
    one_head m n p pos closed (steps_in m n (λ v. p (0 ∷ v))) (head_of m n p pos closed)
    (λ ts. (combination-holds m n (λ v. p (0 ∷ v)) pos (closed_rest m n p pos closed) ts).0) ts us a b h
    (one_writing m n (λ v. p (0 ∷ v)) pos (closed_rest m n p pos closed))
