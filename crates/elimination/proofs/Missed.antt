-- The missed solution is one: it solves the equations, and the claim does not describe it. At a place where the pivots
-- do not multiply to m, the tableau's step g has the kernel's head there. Were g in the span of the claimed steps, the
-- span's head would divide the kernel's; and the kernel's divides the span's, since the steps are in the kernel. Equal
-- heads make the product m. So g is not in the span, and c + g is not described. The tableau has a step there: were its pivot 1, the
-- kernel's head would be m, and so would the span's, which divides m.
--   apart-agree    the pivots agree exactly where no place is apart
-- Where start and steps are right:
--   apart-right   the claim is right exactly where no place is apart
--   apart_above    the tableau's pivot at the place apart is not 1
--   missed_law     where the claim fails, the missed solution is one
use mathlib.Core.Path.{◌≡◌, refl, sym, ap, ap₂, ◌∙◌, subst}
use mathlib.Core.Logic.{◌⊎◌, inl, inr}
use mathlib.Core.List.{List}
use mathlib.Core.Bool.{Bool, true, false, ◌&&◌}
use Prim.Native.Nat.{ℕ, zero, suc, ◌+◌, ◌-◌, ◌*◌, ◌<◌, ◌≤◌}
use native.Mathlib.Nat.{one-mul}
use native.Mathlib.Omega.{arith}
use lib.ListN.{length}
use lib.Dec.{T, eqb}
use borrow.Author.Tests.{eqb-false, ne_eqb}
use Rattle.residue.specs.Divides.{Divides}
use Rattle.residue.proofs.Divides.{divides_antisym, factor_positive}
use Rattle.equations.specs.Lists.{every}
use Rattle.equations.specs.Vectors.{Vector, AllVectors, combine}
use Rattle.equations.specs.Equation.{Equation, solves, Shaped}
use Rattle.equations.specs.Claim.{from, describes, is_right}
use Rattle.equations.specs.Reasons.{Solution, keeps}
use Rattle.equations.proofs.Truth.{of_true, of_false, true_or_false}
use Rattle.equations.proofs.Vectors.{vector_of, below-combine}
use Rattle.equations.proofs.Claim.{describes_exists}
use Rattle.elimination.specs.Basis.{basis, pivot}
use Rattle.elimination.specs.Tableau.{tableau, tableau_step}
use Rattle.elimination.specs.Marking.{agree_for, agree, claim_right}
use Rattle.elimination.specs.Missed.{apart_for, apart, shifted_at, missed_of}
use Rattle.elimination.specs.Missed.Step.{missed_step}
use Rattle.elimination.proofs.Basis.{All, Long, long-vectors}
use Rattle.elimination.proofs.Row.{RowAt, row-quotient}
use Rattle.elimination.proofs.Steps.{step-solves, step-length}
use Rattle.elimination.proofs.Answer.{row_of}
use Rattle.elimination.proofs.Span.{Span, span_in}
use Rattle.elimination.proofs.SpanHeads.{span_head, span_divides}
use Rattle.elimination.proofs.Kernel.{Kernel, linear_kernel, kernel_head, kernel_step}
use Rattle.elimination.proofs.Agree.{product_of_head}
use Rattle.elimination.proofs.Described.{length_shifted, span_of_described, solves_of_kernel}
use Rattle.elimination.proofs.Marking.{all_of_every, marking}

-- ---- a place where the pivots are apart

module _ (m n : ℕ) (B C : List (List ℕ)) where
  abbrev product_is : ℕ → Bool
  product_is j = eqb (pivot j C * pivot (n - suc j) B) m

  agree_for_lem : (l : ℕ) → agree_for m n B C l ≡ eqb (apart_for m n B C l) 0
  agree_for_lem zero = refl
  agree_for_lem (suc l) = go (true_or_false (product_is l)) (agree_for_lem l)
    where
      go : (product_is l ≡ true) ⊎ (product_is l ≡ false) → agree_for m n B C l ≡ eqb (apart_for m n B C l) 0
          → agree_for m n B C (suc l) ≡ eqb (apart_for m n B C (suc l)) 0
      go (inl e) rest = rw e rest
      go (inr e) rest = rw e (sym (ne_eqb (suc l) 0 (λ p. omega arith)))

  pub apart-agree : agree m n B C ≡ eqb (apart m n B C) 0
  unfolding agree apart
  apart-agree = agree_for_lem n

  abbrev Apart : ℕ → ℕ → Type 0
  Apart l p = (j : ℕ) × (j < l) × (p ≡ suc j) × (pivot j C * pivot (n - suc j) B ≡ m → ⊥)

  apart_for_lem : (l : ℕ) → agree_for m n B C l ≡ false → Apart l (apart_for m n B C l)
  apart_for_lem zero h = absurd (of_false h tt)
  apart_for_lem (suc l) h = go (true_or_false (product_is l)) (apart_for_lem l)
    where
      go : (product_is l ≡ true) ⊎ (product_is l ≡ false) → (agree_for m n B C l ≡ false → Apart l (apart_for m n B C l))
          → Apart (suc l) (apart_for m n B C (suc l))
      go (inl e) rest = let a = rest (rw e at h) in (a.0, omega (arith, a.1), rw e a.2, a.3)
      go (inr e) rest = (l, omega arith, rw e, eqb-false (pivot l C * pivot (n - suc l) B) m e)

  apart_at : agree m n B C ≡ false → Apart n (apart m n B C)
  unfolding agree apart
  apart_at h = apart_for_lem n h

-- ---- the step there

module _ (m n : ℕ) (es : List Equation) (c : List ℕ) (ss : List (List ℕ)) (pos : 0 < m) (shaped : Shaped n es)
    (vec : Vector m n c) (long : Long n ss) (start : T (solves m es c)) (steps : All (Kernel m es) ss) where
  abbrev B : List (List ℕ)
  B = tableau m n 0 es

  abbrev C : List (List ℕ)
  C = basis m n 0 ss

  -- v is a solution that is not described
  abbrev Missed : List ℕ → Type 0
  Missed v = Solution m n es v × (T (describes m (from c ss) v) → ⊥)

  module _ (j i : ℕ) (place : j + suc i ≡ n) (row : RowAt m 0 i (tableau m n 0 es)) where
    abbrev g : List ℕ
    g = tableau_step m i j B row.e

    -- the steps are in the kernel
    kernel_divides : Divides row.e (pivot j C)
    kernel_divides =
        let h = span_head m n ss pos long j i place in
        (kernel_head m n 0 es pos shaped j i place row).divides (pivot j C) h.rest h.length_rest
        (span_in m n (Kernel m es) (linear_kernel m es) ss long steps _ h.member)

    -- the span's head does not divide the kernel's
    not_divided : (pivot j C * pivot i B ≡ m → ⊥) → Divides (pivot j C) row.e → ⊥
    not_divided f h = f (product_of_head m n 0 es ss pos shaped long j i place row (divides_antisym h kernel_divides))

    not_spanned : (pivot j C * pivot i B ≡ m → ⊥) → Span m ss g → ⊥
    not_spanned f s =
        let form = kernel_step m n 0 es pos shaped j i place row in
        not_divided f
        ((span_head m n ss pos long j i place).divides row.e form.0 form.1 (subst (Span m ss) form.2 s))

    above : (pivot j C * pivot i B ≡ m → ⊥) → 1 < pivot i B
    above f = go not_one
      where
        whole : pivot i B ≡ 1 → m ≡ row.e
        whole one = row.factor ∙ ap (λ (z : ℕ). z * row.e) (sym row.pivot_is ∙ one) ∙ one-mul row.e

        not_one : pivot i B ≡ 1 → ⊥
        not_one one = not_divided f (subst (Divides (pivot j C)) (whole one) (span_divides m n ss pos long j (omega arith)))

        go : (pivot i B ≡ 1 → ⊥) → 1 < pivot i B
        go ne = omega (arith, row.pivot_is, factor_positive m row.d row.e row.factor pos)

    length-g : length g ≡ n
    length-g =
        step-length m n 0 es pos shaped i j (omega arith) row.d row.e row.r row.rest row.here row.factor

    kernel_g : Kernel m es g
    kernel_g =
        step-solves m n 0 es pos shaped i j (omega arith) row.d row.e row.r row.rest row.here row.factor

    missed_at : (pivot j C * pivot i B ≡ m → ⊥) → Missed (combine m 1 1 c g)
    missed_at f = (
      (
        vector_of m n _ (length_shifted m n c pos vec g length-g) (below-combine m 1 1 c g pos),
        solves_of_kernel m n c pos vec es start g length-g kernel_g,
      ),
      λ t. not_spanned f
          (span_of_described m n c pos vec ss long g length-g ((describes_exists m c ss (combine m 1 1 c g)).0 t)),
    )

  -- at the place apart, if there is one
  module _ (wrong : agree m n (tableau m n 0 es) (basis m n 0 ss) ≡ false) where
    abbrev p : ℕ
    p = apart m n B C

    above_apart : (p ≤ n) × (1 < pivot (n - p) B)
    above_apart = go (apart_at m n B C wrong)
      where
        go : Apart m n (tableau m n 0 es) (basis m n 0 ss) n (apart m n (tableau m n 0 es) (basis m n 0 ss))
            → (apart m n B C ≤ n) × (1 < pivot (n - apart m n B C) B)
        go (j, lt, e, f) = (
          omega arith,
          subst (λ (q : ℕ). 1 < pivot (n - q) B) (sym e)
              (above j (n - suc j) (omega arith) (row_of m n 0 es pos shaped (n - suc j) (omega arith)) f),
        )

    missed_apart : Missed (missed_of m n es (from c ss))
    missed_apart = go (apart_at m n B C wrong)
      where
        go : Apart m n (tableau m n 0 es) (basis m n 0 ss) n (apart m n (tableau m n 0 es) (basis m n 0 ss))
            → Missed (missed_of m n es (from c ss))
        go (j, lt, e, f) = subst Missed (sym made) (missed_at j (n - suc j) (omega arith) row f)
          where
            row : RowAt m 0 (n - suc j) (tableau m n 0 es)
            row = row_of m n 0 es pos shaped (n - suc j) (omega arith)

            made : missed_of m n es (from c ss) ≡ combine m 1 1 c (tableau_step m (n - suc j) j (tableau m n 0 es) row.e)
            made =
                missed_step m n es c ss ∙ ap (shifted_at m n B c) e
                ∙ ap (λ (e : ℕ). combine m 1 1 c (tableau_step m (n - suc j) j B e))
                (row-quotient m 0 (n - suc j) B pos row)

-- ---- the laws

module _ (m n : ℕ) (es : List Equation) (c : List ℕ) (ss : List (List ℕ)) (pos : 0 < m) (shaped : Shaped n es)
    (vec : Vector m n c) (vs : AllVectors m n ss) (start : solves m es c ≡ true) (steps : every (keeps m es) ss ≡ true) where
  agree_right : agree m n (tableau m n 0 es) (basis m n 0 ss) ≡ is_right m n es (from c ss)
  unfolding claim_right
  agree_right =
      sym (ap₂ (λ (x y : Bool). x && y && agree m n (tableau m n 0 es) (basis m n 0 ss)) start steps)
      ∙ marking m n 0 es c ss pos shaped vec (long-vectors m n ss vs)

  pub apart-right : eqb (apart m n (tableau m n 0 es) (basis m n 0 ss)) 0 ≡ is_right m n es (from c ss)
  apart-right = sym (apart-agree m n (tableau m n 0 es) (basis m n 0 ss)) ∙ agree_right

  module _ (wrong : is_right m n es (from c ss) ≡ false) where
    pub apart_above : (apart m n (tableau m n 0 es) (basis m n 0 ss) ≤ n)
        × (1 < pivot (n - apart m n (tableau m n 0 es) (basis m n 0 ss)) (tableau m n 0 es))
    apart_above =
        above_apart m n es c ss pos shaped vec (long-vectors m n ss vs) (of_true start) (all_of_every m es ss (of_true steps))
        (agree_right ∙ wrong)

    pub missed_law : Solution m n es (missed_of m n es (from c ss)) × (T (describes m (from c ss) (missed_of m n es (from c ss))) → ⊥)
    missed_law =
        missed_apart m n es c ss pos shaped vec (long-vectors m n ss vs) (of_true start) (all_of_every m es ss (of_true steps))
        (agree_right ∙ wrong)
