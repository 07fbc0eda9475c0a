-- How a claim is marked, in two parts, what is kept of the equations from one claim to the next, and what is found where a start breaks one.
-- Definitions only.
use Rattle.std.specs.Prelude.{◌≡◌, Bool, true, cond, ◌&&◌, not, List, [], Option, Some, None, ℕ, zero, suc, ◌+◌, ◌<◌, T, eqb, length, take, get_or}
use Rattle.equations.specs.declared.Reason.{Reason}
use Rattle.equations.specs.declared.Reason.TheVariants.{Unsolvable, Breaks}
use Rattle.equations.specs.Lists.{every}
use Rattle.equations.specs.Equation.{Equation, solves, homogeneous, Shaped}
use Rattle.equations.specs.Lines.{equations_of}
use Rattle.equations.specs.Claim.{Claim, no_solution, from, is_right}
use Rattle.equations.specs.Reasons.{has_solution, Formed}
use Rattle.elimination.specs.Basis.{basis, pivot}
use Rattle.elimination.specs.Tableau.{tableau}
use Rattle.elimination.specs.Multipliers.{multipliers_of}
use Rattle.elimination.specs.Marking.{agree}
use Rattle.tableau.specs.Packed.{triangle}
use Rattle.system.specs.declared.checking.Change.{Change}
use Rattle.system.specs.Model.Reading.{rows_in, Readable}

-- room for the packed rows of 17 columns
abbrev pub basis_room : ℕ
basis_room = 153

-- a step with a line, which count from 1, where 0 stands for none
abbrev pub changed : ℕ → ℕ → Option Change
changed zero line = None
changed (suc i) line = Some (record { step = suc i; line = line })

-- all that the claim describes solves the equations
abbrev pub claim_solves : ℕ → List Equation → Claim → Bool
claim_solves m es no_solution = true
claim_solves m es (from start steps) = solves m es start && every (solves m (homogeneous es)) steps

-- it describes all that solves the equations in n unknowns with the basis B
abbrev pub misses_none : ℕ → ℕ → List (List ℕ) → Claim → Bool
misses_none m n B no_solution = not (eqb (pivot n B) m)
misses_none m n B (from start steps) = agree m n B (basis m n 0 steps)

-- the numbers in s are the basis of es, equations in n unknowns for which the claim is right
pub record RightFor (m n : ℕ) (es : List Equation) (s : List ℕ) (claim : Claim) : Type 0 where
  pub shaped : Shaped n es
  pub rows : rows_in n s ≡ tableau m n 0 es
  pub formed : Formed m n claim
  pub right : T (is_right m n es claim)

-- s is the basis of the lines
pub record Based (m n : ℕ) (lines s : List ℕ) : Type 0 where
  pub readable : Readable m n s
  pub rows : rows_in n s ≡ tableau m n 0 (equations_of n lines)

-- s holds it in its front; no pivot is 0
pub record Prepared (m n : ℕ) (lines s : List ℕ) : Type 0 where
  pub size : length s ≡ basis_room
  pub there : 0 < get_or s 0 0
  pub basis : Based m n lines (take (triangle (n + 1) (n + 1)) s)

-- the start breaks the equation i: the reason, and the numbers that are shown
abbrev pub broken_reason : ℕ → ℕ → List Equation → ℕ → Reason
broken_reason m n es i = cond (has_solution m n es) (Breaks i) Unsolvable

abbrev pub broken_shown : ℕ → ℕ → List Equation → List ℕ
broken_shown m n es = cond (has_solution m n es) [] (multipliers_of m n es)
