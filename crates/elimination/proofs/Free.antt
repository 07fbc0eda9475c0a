-- A right claim with few steps has no superfluous one. Each column with the pivot m, a free one, gives a step of the answer whose coefficient runs
-- over all residues, so with f free columns there are at least m^f solutions. If one of k steps were superfluous, the claim without it would be
-- right too, and there would be at most m^(k-1).
--   free_solutions    the solutions are at least m^f
--   free_needed       the theorem
use mathlib.Core.Path.{◌≡◌, refl, sym, ap, ◌∙◌, subst}
use mathlib.Core.Logic.{◌⊎◌, inl, inr}
use mathlib.Core.List.{List, ◌∷◌, ◌++◌}
use mathlib.Core.Option.{Option, none, some}
use mathlib.Core.Bool.{true, false}
use Prim.Native.Nat.{ℕ, zero, suc, ◌+◌, ◌*◌, ◌/◌, ◌^◌, ◌≤◌, ◌<◌}
use native.Mathlib.Nat.{div-one, div_self, one-le-pow, pow-zero, pow-succ', pow-le-pow_right, mul-le-mul_left, mul-le-mul_right}
use native.Mathlib.Omega.{arith}
use lib.ListN.{length, replicate}
use lib.Dec.{T, eqb}
use borrow.Author.Tests.{eqb-true}
use Rattle.equations.specs.Lists.{without, count}
use Rattle.equations.specs.Vectors.{Vector, AllVectors, vectors}
use Rattle.equations.specs.Equation.{Equation, solves, Shaped}
use Rattle.equations.specs.Answer.{start_of, step_at, and_then, steps_from, steps_of, leading, range_of, range_product}
use Rattle.equations.specs.Claim.{from, is_right}
use Rattle.equations.specs.Marks.{superfluous, superfluous_at}
use Rattle.equations.proofs.Truth.{true_or_false}
use Rattle.equations.proofs.Without.{without-length}
use Rattle.equations.proofs.Superfluous.{superfluous_exists, first-superfluous}
use Rattle.equations.proofs.Number.{count_solutions}
use Rattle.equations.proofs.Images.{solutions_few, right-found}
use Rattle.equations.proofs.Places.{range_positive}
use Rattle.elimination.specs.Basis.{pivot}
use Rattle.elimination.specs.Tableau.{tableau, tableau_step}
use Rattle.elimination.specs.Relations.{free_for}
use Rattle.elimination.proofs.Row.{RowAt, row-quotient}
use Rattle.elimination.proofs.Answer.{row_of, answer-step}
use Rattle.elimination.proofs.Kernel.{kernel_step}
use Rattle.elimination.proofs.LeftOut.{superfluous_left_out}

-- ---- the ranges of the answer's steps

leading-one : (j : ℕ) (r : List ℕ) → leading (replicate j 0 ++ (1 ∷ r)) ≡ 1
leading-one zero r = refl
leading-one (suc j) r = leading-one j r

module _ (m n : ℕ) (es : List Equation) (lt : 1 < m) where
  product-step : (j : ℕ) (ss : List (List ℕ)) → range_product m ss ≤ range_product m (and_then (step_at m n es j) ss)
  product-step j ss = go (step_at m n es j) (λ s. range_positive m n j es s (omega arith))
    where
      go : (o : Option (List ℕ)) → ((s : List ℕ) → o ≡ some s → 1 ≤ range_of m s)
          → range_product m ss ≤ range_product m (and_then o ss)
      go none h = omega arith
      go (some s) h = omega (arith, mul-le-mul_right (range_product m ss) (h s refl))

  module _ (shaped : Shaped n es) where
    abbrev B : List (List ℕ)
    B = tableau m n 0 es

    -- the pivot is m: the step has 1 at its place
    free_step : (i j : ℕ) → i + suc j ≡ n → pivot i B ≡ m → (s : List ℕ) × (step_at m n es j ≡ some s) × (range_of m s ≡ m)
    free_step i j places h = go (row_of m n 0 es (omega arith) shaped i (omega arith))
      where
        go : RowAt m 0 i (tableau m n 0 es) → (s : List ℕ) × (step_at m n es j ≡ some s) × (range_of m s ≡ m)
        go row = (
          tableau_step m i j B (m / pivot i B),
          answer-step m n 0 es (omega arith) shaped i j places (omega arith),
          ap (λ (d : ℕ). m / d) one ∙ div-one m,
        )
          where
            form : (rest : List ℕ) × (length rest ≡ i) × (tableau_step m i j B row.e ≡ replicate j 0 ++ (row.e ∷ rest))
            form = kernel_step m n 0 es (omega arith) shaped j i (omega arith) row

            quotient : m / pivot i B ≡ row.e
            quotient = row-quotient m 0 i B (omega arith) row

            unit : row.e ≡ 1
            unit = sym quotient ∙ ap (λ (d : ℕ). m / d) h ∙ div_self (omega arith)

            one : leading (tableau_step m i j B (m / pivot i B)) ≡ 1
            one =
                ap (λ (e : ℕ). leading (tableau_step m i j B e)) quotient ∙ ap leading form.2
                ∙ ap (λ (e : ℕ). leading (replicate j 0 ++ (e ∷ form.0))) unit ∙ leading-one j form.0

    free_ranges : (i j : ℕ) → i + j ≡ n → m ^ free_for m B i ≤ range_product m (steps_from m n es j i)
    free_ranges zero j h = omega (arith, pow-zero m)
    free_ranges (suc i) j h = go (true_or_false (eqb (pivot i B) m)) (free_ranges i (suc j) (omega arith))
      where
        go : (eqb (pivot i B) m ≡ true) ⊎ (eqb (pivot i B) m ≡ false)
            → m ^ free_for m B i ≤ range_product m (steps_from m n es (suc j) i)
            → m ^ free_for m B (suc i) ≤ range_product m (steps_from m n es j (suc i))
        go (inl e) rest =
            let s = free_step i j (omega arith) (eqb-true (pivot i B) m e) in
            rw (e, s.1)
            (omega (
              arith,
              pow-succ' m (free_for m B i),
              mul-le-mul_left m rest,
              ap (λ (z : ℕ). z * range_product m (steps_from m n es (suc j) i)) s.2,
            ))
        go (inr e) rest = rw e (omega (arith, rest, product-step j (steps_from m n es (suc j) i)))

    pub free_solutions : (c : List ℕ) → start_of m n es ≡ some c
        → m ^ free_for m (tableau m n 0 es) n ≤ count (solves m es) (vectors m n)
    unfolding steps_of
    free_solutions c h = omega (arith, count_solutions m n es c (omega arith) h, free_ranges n 0 (omega arith))

-- ---- the theorem

power_grows : (m k f : ℕ) → 1 < m → k < f → m ^ k < m ^ f
power_grows m k f lt less =
    omega (
      arith,
      pow-le-pow_right {n = m} (omega arith) {i = suc k} {j = f} less,
      pow-succ' m k,
      one-le-pow k m (omega arith),
      mul-le-mul_right {m = 2} {n = m} (m ^ k) lt,
    )

pub free_needed : (m n : ℕ) (es : List Equation) (c : List ℕ) (ss : List (List ℕ)) → 1 < m → Shaped n es → Vector m n c → AllVectors m n ss
    → T (is_right m n es (from c ss)) → length ss ≤ free_for m (tableau m n 0 es) n → superfluous_at m n ss ≡ 0
free_needed m n es c ss lt shaped vec vs right few = go (superfluous_at m n ss) refl
  where
    no_place : (j : ℕ) → j < length ss → T (superfluous m n ss j) → ⊥
    no_place j at t =
        let fewer = subst T (superfluous_left_out m n es c ss (omega arith) vec vs right j at) t in
        let start = right-found m n es c ss (omega arith) vec vs right in
        let others = length (without j ss) in
        omega (
          arith,
          free_solutions m n es lt shaped start.0 start.1,
          solutions_few m n es c (without j ss) fewer,
          power_grows m others (free_for m (tableau m n 0 es) n) lt (omega (arith, without-length j ss at)),
        )

    go : (p : ℕ) → superfluous_at m n ss ≡ p → p ≡ 0
    go zero h = refl
    go (suc j) h =
        let f = first-superfluous m n ss j h in
        absurd (no_place f.place f.step ((superfluous_exists m n ss f.place).1 f.combined))
