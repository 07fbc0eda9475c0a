-- The answer: the solutions are the starting vector plus the solutions with right
-- sides 0, and those are written by the steps.
--   solutions_closed      the solutions with right sides 0 are closed under combination
--   combination_start     a combination from c is c plus the combination from the zeros
--   start_solves          the starting vector is a solution
--   first-solution        it is the first of them in dictionary order
--   start_none            there is no start exactly when nothing solves
--   first_step, step-none   so with the step at a place
--   Found, start_found    there is a start, or there is none
--   answer_sound          start plus any combination of the steps is a solution
--   answer-written        a solution is one, within the ranges
--   answer-complete, answer-unique   demand 2
--   level-written         a solution with right sides 0 is a combination of the steps
use mathlib.Core.Path.{◌≡◌, refl, ap, ◌∙◌, sym, subst}
use mathlib.Core.Logic.{◌↔◌, ◌⊎◌, inl, inr}
use mathlib.Core.List.{List, [], ◌∷◌}
use mathlib.Core.Option.{Option, none, some}
use Prim.Native.Nat.{ℕ, ◌<◌}
use lib.ListN.{replicate}
use lib.Dec.{T}
use Rattle.residue.specs.Negative.{negative}
use Rattle.equations.specs.Vectors.{Vector, First, combine, combination}
use Rattle.equations.specs.Equation.{Equation, solves, homogeneous}
use Rattle.equations.specs.Answer.{start_of, is_step, step_at, steps_of}
use Rattle.equations.specs.Promises.{Within, Written}
use Rattle.equations.proofs.Vectors.{vector-same-length}
use Rattle.equations.proofs.Search.{first_of, first_some, first_holds, found_none}
use Rattle.equations.proofs.Solving.{combine-solves, zeros_solve, difference-solves, sum-solves}
use Rattle.equations.proofs.Combine.{vector-combine, combine_comm, combine_assoc, combine_zeros, combine-difference, combine_cancel}
use Rattle.equations.proofs.Closed.{Closed}
use Rattle.equations.proofs.Steps.{steps_in, steps_of_in}
use Rattle.equations.proofs.Ranges.{spanned}
use Rattle.equations.proofs.Writing.{combination-holds, writing, one_writing}

pub solutions_closed : (m n : ℕ) (es : List Equation) → Closed m n (solves m (homogeneous es))
solutions_closed m n es = record {
  zeros = zeros_solve m n es;
  combined = λ s t v w a b. combine-solves m s t v w (vector-same-length m n v w a b) es;
}

pub combination_start : (m n : ℕ) (c : List ℕ) → Vector m n c → (ss : List (List ℕ)) (ts : List ℕ)
    → combination m c ss ts ≡ combine m 1 1 c (spanned m n ss ts)
combination_start m n c vec [] ts = sym (combine_zeros m n c vec)
combination_start m n c vec (s ∷ ss) [] = sym (combine_zeros m n c vec)
combination_start m n c vec (s ∷ ss) (t ∷ ts) =
    ap (λ (z : List ℕ). combine m 1 t z s) (combination_start m n c vec ss ts)
    ∙ combine_assoc m t c (spanned m n ss ts) s

pub start_solves : (m n : ℕ) (es : List Equation) (c : List ℕ) → start_of m n es ≡ some c
    → Vector m n c × T (solves m es c)
unfolding start_of
start_solves m n es c h = first_holds m n (solves m es) c h

pub first-solution : (m n : ℕ) (es : List Equation) (c : List ℕ)
    → (start_of m n es ≡ some c) ↔ First m n (solves m es) c
unfolding start_of
first-solution m n es c = (first_some m n (solves m es) c, first_of m n (solves m es) c)

pub start_none : (m n : ℕ) (es : List Equation)
    → (start_of m n es ≡ none) ↔ ((v : List ℕ) → Vector m n v → T (solves m es v) → ⊥)
unfolding start_of
start_none m n es = found_none m n (solves m es)

pub first_step : (m n j : ℕ) (es : List Equation) (s : List ℕ)
    → (step_at m n es j ≡ some s) ↔ First m n (is_step m es j) s
unfolding step_at
first_step m n j es s = (first_some m n (is_step m es j) s, first_of m n (is_step m es j) s)

pub step-none : (m n j : ℕ) (es : List Equation)
    → (step_at m n es j ≡ none) ↔ ((v : List ℕ) → Vector m n v → T (is_step m es j v) → ⊥)
unfolding step_at
step-none m n j es = found_none m n (is_step m es j)

abbrev pub Found : ℕ → ℕ → List Equation → Type 0
Found m n es = (start_of m n es ≡ none) ⊎ ((c : List ℕ) × (start_of m n es ≡ some c))

pub start_found : (m n : ℕ) (es : List Equation) → Found m n es
start_found m n es = go (start_of m n es) refl
  where
    go : (o : Option (List ℕ)) → start_of m n es ≡ o → Found m n es
    go none h = inl h
    go (some c) h = inr (c, h)

-- c is a solution; the steps are those of the solutions with right sides 0
module _ (m n : ℕ) (es : List Equation) (pos : 0 < m) (c : List ℕ) (start : Vector m n c)
    (solved : T (solves m es c)) where
  abbrev steps : List (List ℕ)
  steps = steps_in m n (solves m (homogeneous es))

  span_solves : (ts : List ℕ) → Vector m n (spanned m n steps ts) × T (solves m (homogeneous es) (spanned m n steps ts))
  span_solves = combination-holds m n (solves m (homogeneous es)) pos (solutions_closed m n es)

  all_solve : (ts : List ℕ) → T (solves m es (combination m c steps ts))
  all_solve ts =
      let h = span_solves ts in
      subst (λ (v : List ℕ). T (solves m es v)) (sym (combination_start m n c start steps ts))
      (sum-solves m 1 c (spanned m n steps ts) (vector-same-length m n c (spanned m n steps ts) start h.0) es
      solved h.1)

  all-written : (v : List ℕ) → Vector m n v → T (solves m es v) → Written m c steps v
  all-written v vec t =
      let h = combine m 1 (negative m 1) v c in
      let sum = combine-difference m n pos v c vec start in
      let vec-h = vector-combine m n 1 (negative m 1) v c pos vec start in
      let solves-h =
      difference-solves m c h (vector-same-length m n c h start vec-h) es solved
      (subst (λ (v : List ℕ). T (solves m es v)) (sym sum) t)
      in
      let u = writing m n (solves m (homogeneous es)) pos (solutions_closed m n es) h vec-h solves-h in (
        u.0,
        u.1,
        combination_start m n c start steps u.0 ∙ ap (combine m 1 1 c) u.2 ∙ sum,
      )

  one_written : (ts us : List ℕ) → Within m steps ts → Within m steps us
      → combination m c steps ts ≡ combination m c steps us → ts ≡ us
  one_written ts us a b h =
      let z = spanned m n steps in
      one_writing m n (solves m (homogeneous es)) pos (solutions_closed m n es) ts us a b
      (combine_cancel m n 1 pos (z ts) (z us) c (span_solves ts).0 (span_solves us).0 start
      (combine_comm m (z ts) c
      ∙ sym (combination_start m n c start steps ts)
      ∙ h
      ∙ combination_start m n c start steps us
      ∙ combine_comm m c (z us)))

-- ---- of the answer

module _ (m n : ℕ) (es : List Equation) (c : List ℕ) (pos : 0 < m) (h : start_of m n es ≡ some c) where
  pub answer_sound : (ts : List ℕ) → T (solves m es (combination m c (steps_of m n es) ts))
  answer_sound ts =
      let start = start_solves m n es c h in
      subst (λ (ss : List (List ℕ)). T (solves m es (combination m c ss ts))) (sym (steps_of_in m n es pos))
      (all_solve m n es pos c start.0 start.1 ts)

  pub answer-written : (v : List ℕ) → Vector m n v → T (solves m es v) → Written m c (steps_of m n es) v
  answer-written v vec t =
      let start = start_solves m n es c h in
      subst (λ (ss : List (List ℕ)). Written m c ss v) (sym (steps_of_in m n es pos))
      (all-written m n es pos c start.0 start.1 v vec t)

  pub answer-complete : (v : List ℕ) → Vector m n v → T (solves m es v) ↔ Written m c (steps_of m n es) v
  answer-complete v vec =
      (answer-written v vec, λ u. subst (λ (v : List ℕ). T (solves m es v)) u.2 (answer_sound u.0))

  pub answer-unique : (ts us : List ℕ) → Within m (steps_of m n es) ts → Within m (steps_of m n es) us
      → combination m c (steps_of m n es) ts ≡ combination m c (steps_of m n es) us → ts ≡ us
  answer-unique ts us =
      let start = start_solves m n es c h in
      subst
      (λ (ss : List (List ℕ)). Within m ss ts → Within m ss us → combination m c ss ts ≡ combination m c ss us
      → ts ≡ us)
      (sym (steps_of_in m n es pos)) (one_written m n es pos c start.0 start.1 ts us)

-- ---- with right sides 0

pub level-written : (m n : ℕ) (es : List Equation) → 0 < m → (v : List ℕ) → Vector m n v → T (solves m (homogeneous es) v)
    → Written m (replicate n 0) (steps_of m n es) v
level-written m n es pos v vec t =
    subst (λ (ss : List (List ℕ)). Written m (replicate n 0) ss v) (sym (steps_of_in m n es pos))
    (writing m n (solves m (homogeneous es)) pos (solutions_closed m n es) v vec t)
