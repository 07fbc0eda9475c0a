-- Reasons about lines are those about the equations that they are once scaled; and what the definitions find.
--   line_solution_of, line_no_solution_of   the test on all vectors: a solution, or none
--   line_broken_first           the line that is named is the first that does not hold at v
--   line-changed-first          the step that is named is the first that changes a left side, and so is the line for it
--   same_solutions, same_kept   lines and scaled lines: one and the same test on vectors
--   solvable_scaled             so there is a solution, or none, of both
--   line-reason                 and the reason is that of the scaled lines
--   plain-reason                lines that are all mod m have the reason of the equations
use mathlib.Core.Path.{◌≡◌, refl, sym, ap, ap₂, ◌∙◌, subst, fun_ext}
use mathlib.Core.List.{List, [], ◌∷◌}
use mathlib.Core.Bool.{Bool, true, false, cond, ◌&&◌}
use Prim.Native.Nat.{ℕ, suc, ◌<◌}
use lib.Dec.{T}
use Rattle.equations.specs.declared.Reason.TheVariants.{Passes, Solvable}
use Rattle.equations.specs.Lists.{every, someone, fails_from, fails_at}
use Rattle.equations.specs.Vectors.{vectors}
use Rattle.equations.specs.Equation.{Equation, solves_one, solves, homogeneous}
use Rattle.equations.specs.Claim.{Claim, no_solution, from}
use Rattle.equations.specs.Reasons.{has_solution, broken_at, keeps, changed_line, reason_of, FirstFails}
use Rattle.equations.specs.Line.{Line, Moduli, holds_one, holds, level, scaled, lines_mod}
use Rattle.equations.specs.LineReasons.{line_solvable, broken_line, line_keeps, line_changed, line_reason, LineSolution}
use Rattle.equations.proofs.Truth.{of_true, of_false}
use Rattle.equations.proofs.Lists.{someone-vector, someone_of}
use Rattle.equations.proofs.Fails.{fails-first, first_gives}
use Rattle.equations.proofs.Scaled.{one-scaled, holds-scaled, scaled-level, moduli-level, holds-level-scaled}
use Rattle.equations.proofs.LineAnswer.{line-right, plain-moduli, plain-scaled}

-- ---- a solution, or none

module _ (m n : ℕ) (ls : List Line) where
  pub line_solution_of : line_solvable m n ls ≡ true → (v : List ℕ) × LineSolution m n ls v
  unfolding line_solvable
  line_solution_of h = let found = someone-vector m n (holds ls) (of_true h) in (found.0, (found.1, found.2))

  pub line_no_solution_of : line_solvable m n ls ≡ false → (v : List ℕ) → LineSolution m n ls v → ⊥
  unfolding line_solvable
  line_no_solution_of h v s = of_false h (someone_of m n (holds ls) v s.0 s.1)

-- ---- the first line, the first step

holds-every : (ls : List Line) (v : List ℕ) → every (λ l. holds_one l v) ls ≡ holds ls v
holds-every [] v = refl
holds-every (l ∷ ls) v = ap (λ b. holds_one l v && b) (holds-every ls v)

pub line_broken_first : (ls : List Line) (v : List ℕ) → (T (holds ls v) → ⊥)
    → FirstFails (λ l. holds_one l v) ls (broken_line ls v)
line_broken_first ls v f = fails-first (λ l. holds_one l v) ls (λ t. f (subst T (holds-every ls v) t))

-- the line that is named is that of the first step that changes a left side
changed-line : (ls : List Line) (ss : List (List ℕ)) {i : ℕ} (step : FirstFails (line_keeps ls) ss i)
    → line_changed ls ss ≡ broken_line (level ls) step.one
changed-line ls = first_gives (line_keeps ls) (broken_line (level ls)) (line_changed ls) (λ s ss. refl)

pub line-changed-first : (ls : List Line) (ss : List (List ℕ)) → (T (every (line_keeps ls) ss) → ⊥)
    → (step : FirstFails (line_keeps ls) ss (fails_at (line_keeps ls) ss))
    × FirstFails (λ l. holds_one l step.one) (level ls) (line_changed ls ss)
line-changed-first ls ss f =
    (step, subst (FirstFails (λ l. holds_one l step.one) (level ls)) (sym (changed-line ls ss step)) at_step)
  where
    step : FirstFails (line_keeps ls) ss (fails_at (line_keeps ls) ss)
    step = fails-first (line_keeps ls) ss f

    at_step : FirstFails (λ l. holds_one l step.one) (level ls) (broken_line (level ls) step.one)
    at_step = line_broken_first (level ls) step.one step.fails

-- ---- scaled

broken_from : (m : ℕ) → 0 < m → (ls : List Line) → Moduli m ls → (v : List ℕ) (j : ℕ)
    → fails_from (λ l. holds_one l v) j ls ≡ fails_from (λ e. solves_one m e v) j (scaled m ls)
broken_from m pos [] h v j = refl
broken_from m pos (l ∷ ls) h v j =
    ap₂ (λ (b : Bool) (k : ℕ). cond b k (suc j)) (one-scaled m pos l h.0 v) (broken_from m pos ls h.1 v (suc j))

module _ (m : ℕ) (pos : 0 < m) (ls : List Line) (moduli : Moduli m ls) where
  broken_scaled : (v : List ℕ) → broken_line ls v ≡ broken_at m (scaled m ls) v
  broken_scaled v = broken_from m pos ls moduli v 0

  pub same_solutions : holds ls ≡ solves m (scaled m ls)
  same_solutions = fun_ext (holds-scaled m pos ls moduli)

  pub same_kept : line_keeps ls ≡ keeps m (scaled m ls)
  same_kept = fun_ext (holds-level-scaled m pos ls moduli)

module _ (m : ℕ) (pos : 0 < m) (ls : List Line) (moduli : Moduli m ls) where
  level_broken : (s : List ℕ) → broken_line (level ls) s ≡ broken_at m (homogeneous (scaled m ls)) s
  level_broken s =
      broken_scaled m pos (level ls) (moduli-level m ls moduli) s ∙ ap (λ es. broken_at m es s) (sym (scaled-level m ls))

  changed-scaled : (ss : List (List ℕ)) → line_changed ls ss ≡ changed_line m (scaled m ls) ss
  changed-scaled [] = refl
  changed-scaled (s ∷ ss) =
      rw (holds-level-scaled m pos ls moduli s, changed-scaled ss, level_broken s)

  pub solvable_scaled : (n : ℕ) → line_solvable m n ls ≡ has_solution m n (scaled m ls)
  unfolding line_solvable has_solution
  solvable_scaled n = ap (λ (p : List ℕ → Bool). someone p (vectors m n)) (same_solutions m pos ls moduli)

  pub line-reason : (n : ℕ) (claim : Claim) → line_reason m n ls claim ≡ reason_of m n (scaled m ls) claim
  unfolding line_reason reason_of
  line-reason n no_solution = ap (λ (b : Bool). cond b Solvable Passes) (solvable_scaled n)
  line-reason n (from c ss) =
      rw (
        solvable_scaled n,
        holds-scaled m pos ls moduli c,
        broken_scaled m pos ls moduli c,
        ap (λ (p : List ℕ → Bool). every p ss) (same_kept m pos ls moduli),
        ap (λ (p : List ℕ → Bool). fails_at p ss) (same_kept m pos ls moduli),
        changed-scaled ss,
        line-right m n pos ls moduli (from c ss),
      )

-- ---- lines that are all mod m

pub plain-reason : (m n : ℕ) → 0 < m → (es : List Equation) (claim : Claim)
    → line_reason m n (lines_mod m es) claim ≡ reason_of m n es claim
plain-reason m n pos es claim =
    line-reason m pos (lines_mod m es) (plain-moduli m es) n claim
    ∙ ap (λ (es : List Equation). reason_of m n es claim) (plain-scaled m pos es)
