-- Why a claim fails, or is long: "The tool gives the first of these that holds". Definitions only.
use Rattle.std.specs.Prelude.{◌≡◌, List, [], ◌∷◌, ◌++◌, Bool, cond, not, ℕ, zero, suc, length, T}
use Rattle.equations.specs.declared.Mark.{Mark}
use Rattle.equations.specs.declared.Mark.TheVariants.{Pass, Long, Fail}
use Rattle.equations.specs.declared.Reason.{Reason}
use Rattle.equations.specs.declared.Reason.TheVariants.{Passes, Solvable, Unsolvable, Breaks, Changes, Misses, Superfluous}
use Rattle.equations.specs.Lists.{every, someone, fails_at}
use Rattle.equations.specs.Vectors.{Vector, AllVectors, vectors}
use Rattle.equations.specs.Equation.{Equation, solves_one, solves, homogeneous}
use Rattle.equations.specs.Multipliers.{refutes}
use Rattle.equations.specs.Claim.{Claim, no_solution, from, describes, is_right}
use Rattle.equations.specs.Marks.{superfluous_at, Starting, HasSuperfluous, FirstSuperfluous}

-- some vector of residues solves them all
unfoldable pub has_solution : ℕ → ℕ → List Equation → Bool
has_solution m n es = someone (solves m es) (vectors m n)

-- the number of the first equation that v does not solve; 0 where it solves them all
abbrev pub broken_at : ℕ → List Equation → List ℕ → ℕ
broken_at m es v = fails_at (λ e. solves_one m e v) es

-- A step changes no left side if it solves the equations with right sides put to 0: each sum of coefficient times entry is 0 mod m.
abbrev pub keeps : ℕ → List Equation → List ℕ → Bool
keeps m es s = solves m (homogeneous es) s

-- the number of the first step that changes a left side; 0 where none does
abbrev pub changed_step : ℕ → List Equation → List (List ℕ) → ℕ
changed_step m es ss = fails_at (keeps m es) ss

-- "and for it the first such equation"
abbrev pub changed_line : ℕ → List Equation → List (List ℕ) → ℕ
changed_line m es [] = 0
changed_line m es (s ∷ ss) = cond (keeps m es s) (changed_line m es ss) (broken_at m (homogeneous es) s)

-- the reason beside a claim whose described set is right, by the number of its first superfluous step, 0 where none is
abbrev pub right_reason : ℕ → Reason
right_reason zero = Passes
right_reason (suc j) = Superfluous (suc j)

-- "The tool gives the first of these that holds: none was claimed but here is a solution; there is none, here are multipliers; the start
-- breaks an equation, the first such; a step changes an equation's left side, giving the first step, and for it the first such
-- equation; a solution that the claim does not describe. A passed claim gives no reason", and "for a long claim, the number of its first
-- superfluous step".
unfoldable pub reason_of : ℕ → ℕ → List Equation → Claim → Reason
reason_of m n es no_solution = cond (has_solution m n es) Solvable Passes
reason_of m n es (from start steps) =
    cond (not (has_solution m n es)) Unsolvable
    (cond (not (solves m es start)) (Breaks (broken_at m es start))
    (cond (not (every (keeps m es) steps)) (Changes (changed_step m es steps) (changed_line m es steps))
    (cond (is_right m n es (from start steps)) (right_reason (superfluous_at m n steps)) Misses)))

-- the mark beside a reason: "A passed claim gives no reason, and each failed one gives a reason"
abbrev pub mark_beside : Reason → Mark
mark_beside Passes = Pass
mark_beside Solvable = Fail
mark_beside Unsolvable = Fail
mark_beside (Breaks equation) = Fail
mark_beside (Changes step equation) = Fail
mark_beside Misses = Fail
mark_beside (Superfluous step) = Long

-- the number of a reason in the paper's order, that of a long claim last; 0 where there is none
abbrev pub reason_number : Reason → ℕ
reason_number Passes = 0
reason_number Solvable = 1
reason_number Unsolvable = 2
reason_number (Breaks equation) = 3
reason_number (Changes step equation) = 4
reason_number Misses = 5
reason_number (Superfluous step) = 6

-- the step and the equation that it names, 0 where it names none: "steps and equations count from 1"
abbrev pub places_in : Reason → List ℕ
places_in Passes = 0 ∷ 0 ∷ []
places_in Solvable = 0 ∷ 0 ∷ []
places_in Unsolvable = 0 ∷ 0 ∷ []
places_in (Breaks equation) = 0 ∷ equation ∷ []
places_in (Changes step equation) = step ∷ equation ∷ []
places_in Misses = 0 ∷ 0 ∷ []
places_in (Superfluous step) = step ∷ 0 ∷ []

-- ---- what a reason says

abbrev pub Solution : ℕ → ℕ → List Equation → List ℕ → Type 0
Solution m n es v = Vector m n v × T (solves m es v)

-- number i is the first of xs that does not pass: all before it do
pub record FirstFails {A : Type 0} (p : A → Bool) (xs : List A) (i : ℕ) : Type 0 where
  pub before : List A
  pub one : A
  pub after : List A
  pub list : xs ≡ before ++ (one ∷ after)
  pub number : i ≡ suc (length before)
  pub pass : T (every p before)
  pub fails : T (p one) → ⊥

-- "true as stated": what a reason says of a claim, with the numbers that are shown beside it. Each case begins with what holds since
-- no earlier reason does.
abbrev pub Says : ℕ → ℕ → List Equation → Claim → Reason → List ℕ → Type 0
Says m n es claim Passes shown = T (is_right m n es claim) × (HasSuperfluous m n claim → ⊥) × (shown ≡ [])
Says m n es claim Solvable shown = (claim ≡ no_solution) × Solution m n es shown
Says m n es claim Unsolvable shown =
    Starting claim (λ start steps. (v : List ℕ) → Solution m n es v → ⊥) × T (refutes m n es shown)
Says m n es claim (Breaks equation) shown =
    Starting claim (λ start steps. ((v : List ℕ) × Solution m n es v) × FirstFails (λ e. solves_one m e start) es equation)
    × (shown ≡ [])
Says m n es claim (Changes step equation) shown =
    Starting claim (λ start steps. T (solves m es start)
    × ((changing : FirstFails (keeps m es) steps step)
    × FirstFails (λ e. solves_one m e changing.one) (homogeneous es) equation))
    × (shown ≡ [])
Says m n es claim Misses shown =
    Starting claim (λ start steps. T (solves m es start) × T (every (keeps m es) steps))
    × Solution m n es shown × (T (describes m claim shown) → ⊥)
Says m n es claim (Superfluous step) shown =
    T (is_right m n es claim) × Starting claim (λ start steps. FirstSuperfluous m n steps step) × (shown ≡ [])

-- a claim's vectors are vectors of n residues
abbrev pub Formed : ℕ → ℕ → Claim → Type 0
Formed m n no_solution = Unit {0}
Formed m n (from start steps) = Vector m n start × AllVectors m n steps
