-- The pivots agree exactly where the span of the steps is the set of solutions with right sides 0.
--   Agree                          at each place the two pivots multiply to m
--   agree_of_test, test_of_agree   the test says so
--   product_of_head                they do at a place where the two heads are the same
--   kernel_span                    where they agree, solutions with right sides 0 are in the span
--   agree_of_same                  they agree where the two sets have the same lines of n entries
use mathlib.Core.Path.{◌≡◌, sym, ap, ap₂, ◌∙◌, subst}
use mathlib.Core.List.{List}
use Prim.Native.Nat.{ℕ, zero, suc, ◌+◌, ◌-◌, ◌*◌, ◌≤◌, ◌<◌}
use native.Mathlib.Nat.{mul_comm, eq_of_mul-eq-mul_left}
use native.Mathlib.Omega.{arith}
use lib.ListN.{length}
use lib.Dec.{T, eqb, eqb→eq}
use mir.Facts.{and_yes, yes_and, yes_eqb}
use borrow.Author.Count.{below_more}
use Rattle.residue.proofs.Divides.{factor_positive}
use Rattle.equations.specs.Equation.{Equation, Shaped}
use Rattle.elimination.specs.Basis.{basis, pivot}
use Rattle.elimination.specs.Tableau.{tableau}
use Rattle.elimination.specs.Marking.{agree_for, agree}
use Rattle.elimination.proofs.Basis.{All, Long}
use Rattle.elimination.proofs.Row.{RowAt}
use Rattle.elimination.proofs.Answer.{row_of}
use Rattle.elimination.proofs.Heads.{Head, head_unique, same_heads}
use Rattle.elimination.proofs.Span.{Span, linear_span, span_in}
use Rattle.elimination.proofs.SpanHeads.{span_head}
use Rattle.elimination.proofs.Kernel.{Kernel, linear_kernel, kernel_head}

-- column j of C and column i of B belong to the same unknown
abbrev pub Agree : ℕ → ℕ → List (List ℕ) → List (List ℕ) → Type 0
Agree m n B C = (j i : ℕ) → j + suc i ≡ n → pivot j C * pivot i B ≡ m

-- ---- the test

module _ (m n : ℕ) (B C : List (List ℕ)) where
  abbrev At : ℕ → Type 0
  At j = pivot j C * pivot (n - suc j) B ≡ m

  at_of_test : (l : ℕ) → T (agree_for m n B C l) → (j : ℕ) → j < l → At j
  at_of_test zero t j lt = absurd (omega arith)
  at_of_test (suc l) t j lt =
      let both = and_yes (eqb (pivot l C * pivot (n - suc l) B) m) (agree_for m n B C l) t in
      below_more At l (at_of_test l both.1) (eqb→eq (pivot l C * pivot (n - suc l) B) m both.0) j (omega arith)

  test_of_at : (l : ℕ) → l ≤ n → ((j : ℕ) → j < n → At j) → T (agree_for m n B C l)
  test_of_at zero h at = tt
  test_of_at (suc l) h at =
      yes_and (eqb (pivot l C * pivot (n - suc l) B) m) (agree_for m n B C l)
      (yes_eqb (at l (omega arith))) (test_of_at l (omega arith) at)

  pub agree_of_test : T (agree m n B C) → Agree m n B C
  unfolding agree
  agree_of_test t j i place =
      let e : i ≡ n - suc j = omega arith in rw e (at_of_test n t j (omega arith))

  pub test_of_agree : Agree m n B C → T (agree m n B C)
  unfolding agree
  test_of_agree h = test_of_at n (omega arith) (λ j lt. h j (n - suc j) (omega arith))

-- ---- the two sets

module _ (m n k : ℕ) (es : List Equation) (cs : List (List ℕ)) (pos : 0 < m) (shaped : Shaped n es)
    (long : Long n cs) where
  abbrev B : List (List ℕ)
  B = tableau m n k es

  abbrev C : List (List ℕ)
  C = basis m n 0 cs

  module _ (j i : ℕ) (place : j + suc i ≡ n) (row : RowAt m k i (tableau m n k es)) where
    head_of_product : pivot j C * pivot i B ≡ m → row.e ≡ pivot j C
    head_of_product h =
        eq_of_mul-eq-mul_left row.d (factor_positive m row.d row.e row.factor pos) row.e (pivot j C)
        (sym row.factor ∙ sym h ∙ ap (λ (z : ℕ). pivot j C * z) row.pivot_is ∙ mul_comm (pivot j C) row.d)

    pub product_of_head : pivot j (basis m n 0 cs) ≡ row.e → pivot j (basis m n 0 cs) * pivot i (tableau m n k es) ≡ m
    product_of_head h = ap₂ ◌*◌ h row.pivot_is ∙ mul_comm row.e row.d ∙ sym row.factor

    kernel_head_agreed : pivot j C * pivot i B ≡ m → Head (Kernel m es) j i (pivot j C)
    kernel_head_agreed h =
        subst (Head (Kernel m es) j i) (head_of_product h) (kernel_head m n k es pos shaped j i place row)

  pub kernel_span : Agree m n (tableau m n k es) (basis m n 0 cs) → All (Kernel m es) cs
      → (W : List ℕ) → length W ≡ n → Kernel m es W → Span m cs W
  kernel_span h steps =
      same_heads m n (Span m cs) (Kernel m es) (λ j. pivot j C) pos (linear_span m cs) (linear_kernel m es)
      (span_in m n (Kernel m es) (linear_kernel m es) cs long steps) (span_head m n cs pos long)
      (λ j i place. kernel_head_agreed j i place (row_of m n k es pos shaped i (omega arith)) (h j i place))

  pub agree_of_same : ((W : List ℕ) → length W ≡ n → Span m cs W → Kernel m es W)
      → ((W : List ℕ) → length W ≡ n → Kernel m es W → Span m cs W) → Agree m n (tableau m n k es) (basis m n 0 cs)
  agree_of_same into onto j i place = at (row_of m n k es pos shaped i (omega arith))
    where
      at : RowAt m k i B → pivot j C * pivot i B ≡ m
      at row =
          product_of_head j i place row
          (head_unique (Span m cs) (Kernel m es) n j i (pivot j C) row.e place into onto
          (span_head m n cs pos long j i place) (kernel_head m n k es pos shaped j i place row))
