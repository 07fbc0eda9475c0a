-- What the definitions of the reasons find.
--   solution_of, no_solution_of   the test on all vectors: a solution, or none
--   broken_none, broken_first     the equation that is named is the first that v does not solve
--   changed-first                 the step that is named is the first that changes a left side, and so is the equation for it
use mathlib.Core.Path.{◌≡◌, refl, sym, ap, ◌∙◌, subst}
use mathlib.Core.List.{List, [], ◌∷◌}
use mathlib.Core.Bool.{true, false, ◌&&◌}
use Prim.Native.Nat.{ℕ}
use lib.Dec.{T, eqb}
use Rattle.equations.specs.Lists.{every}
use Rattle.equations.specs.Equation.{Equation, solves_one, solves, homogeneous}
use Rattle.equations.specs.Reasons.{broken_at, keeps, changed_step, changed_line, has_solution, FirstFails, Solution}
use Rattle.equations.proofs.Truth.{of_true, of_false}
use Rattle.equations.proofs.Lists.{someone-vector, someone_of}
use Rattle.equations.proofs.Fails.{fails-first, fails-none, first_gives}

-- ---- a solution, or none

module _ (m n : ℕ) (es : List Equation) where
  pub solution_of : has_solution m n es ≡ true → (v : List ℕ) × Solution m n es v
  unfolding has_solution
  solution_of h = let found = someone-vector m n (solves m es) (of_true h) in (found.0, (found.1, found.2))

  pub no_solution_of : has_solution m n es ≡ false → (v : List ℕ) → Solution m n es v → ⊥
  unfolding has_solution
  no_solution_of h v s = of_false h (someone_of m n (solves m es) v s.0 s.1)

-- ---- the first equation, the first step

solves-every : (m : ℕ) (es : List Equation) (v : List ℕ) → every (λ e. solves_one m e v) es ≡ solves m es v
solves-every m [] v = refl
solves-every m (e ∷ es) v = ap (λ b. solves_one m e v && b) (solves-every m es v)

-- where no equation is named, v solves them all
pub broken_none : (m : ℕ) (es : List Equation) (v : List ℕ) → eqb (broken_at m es v) 0 ≡ solves m es v
broken_none m es v = fails-none (λ e. solves_one m e v) es ∙ solves-every m es v

pub broken_first : (m : ℕ) (es : List Equation) (v : List ℕ) → (T (solves m es v) → ⊥)
    → FirstFails (λ e. solves_one m e v) es (broken_at m es v)
broken_first m es v f = fails-first (λ e. solves_one m e v) es (λ t. f (subst T (solves-every m es v) t))

-- the equation that is named is that of the first step that changes a left side
changed-line : (m : ℕ) (es : List Equation) (ss : List (List ℕ)) {i : ℕ} (step : FirstFails (keeps m es) ss i)
    → changed_line m es ss ≡ broken_at m (homogeneous es) step.one
changed-line m es = first_gives (keeps m es) (broken_at m (homogeneous es)) (changed_line m es) (λ s ss. refl)

pub changed-first : (m : ℕ) (es : List Equation) (ss : List (List ℕ)) → (T (every (keeps m es) ss) → ⊥)
    → (step : FirstFails (keeps m es) ss (changed_step m es ss))
    × FirstFails (λ e. solves_one m e step.one) (homogeneous es) (changed_line m es ss)
changed-first m es ss f =
    (step, subst (FirstFails (λ e. solves_one m e step.one) (homogeneous es)) (sym (changed-line m es ss step)) at_step)
  where
    step : FirstFails (keeps m es) ss (changed_step m es ss)
    step = fails-first (keeps m es) ss f

    at_step : FirstFails (λ e. solves_one m e step.one) (homogeneous es) (broken_at m (homogeneous es) step.one)
    at_step = broken_first m (homogeneous es) step.one step.fails
