-- Superfluous steps, and the mark of a claim: document 02's "right but long". Definitions only.
use Rattle.std.specs.Prelude.{◌≡◌, ◌↔◌, ◌⊎◌, List, [], Bool, true, false, cond, ℕ, zero, suc, ◌<◌, length, get_or, replicate}
use Rattle.equations.specs.declared.Mark.{Mark}
use Rattle.equations.specs.declared.Mark.TheVariants.{Pass, Long, Fail}
use Rattle.equations.specs.Lists.{without}
use Rattle.equations.specs.Vectors.{Vector, combination}
use Rattle.equations.specs.Equation.{Equation}
use Rattle.equations.specs.Claim.{Claim, no_solution, from, describes, is_right}

-- "some step is itself a combination of the others": the step at place j, counted from 0, is described from zero by all the others, those
-- behind it too, "coefficients 0..m-1"
unfoldable pub superfluous : ℕ → ℕ → List (List ℕ) → ℕ → Bool
superfluous m n ss j = describes m (from (replicate n 0) (without j ss)) (get_or ss j [])

-- the number of the first of the k places from j on that passes: places count from 0, numbers from 1; 0 where none does
abbrev pub place_from : (ℕ → Bool) → ℕ → ℕ → ℕ
place_from p j zero = 0
place_from p j (suc k) = cond (p j) (suc j) (place_from p (suc j) k)

-- "the number of its first superfluous step"; 0 where none is
unfoldable pub superfluous_at : ℕ → ℕ → List (List ℕ) → ℕ
superfluous_at m n ss = place_from (superfluous m n ss) 0 (length ss)

-- that of a claim; one of no solution has no steps
abbrev pub superfluous_in : ℕ → ℕ → Claim → ℕ
superfluous_in m n no_solution = 0
superfluous_in m n (from start steps) = superfluous_at m n steps

-- "Marking gets a third result .. where the described set is right but some step is itself a combination of the others. `pass` then means
-- right set and no such step": by whether the described set is right, and by the number of the first superfluous step
abbrev pub mark_with : Bool → ℕ → Mark
mark_with false number = Fail
mark_with true zero = Pass
mark_with true (suc j) = Long

unfoldable pub mark_of : ℕ → ℕ → List Equation → Claim → Mark
mark_of m n es claim = mark_with (is_right m n es claim) (superfluous_in m n claim)

-- a mark's number, as a result in C and as a byte: "0 fail, 1 pass", "2 in the class bytes"
abbrev pub mark_number : Mark → ℕ
mark_number Pass = 1
mark_number Long = 2
mark_number Fail = 0

-- ---- what it is to be superfluous

-- the step at place j is zero plus a combination of the others, with a residue for each as its coefficient
abbrev pub SuperfluousStep : ℕ → ℕ → List (List ℕ) → ℕ → Type 0
SuperfluousStep m n ss j =
    (ts : List ℕ) × Vector m (length (without j ss)) ts × (combination m (replicate n 0) (without j ss) ts ≡ get_or ss j [])

-- what P says of a claim's start and steps; a claim of no solution has none
abbrev pub Starting : Claim → (List ℕ → List (List ℕ) → Type 0) → Type 0
Starting no_solution P = ⊥
Starting (from start steps) P = P start steps

-- some step of the claim is
abbrev pub HasSuperfluous : ℕ → ℕ → Claim → Type 0
HasSuperfluous m n claim = Starting claim (λ start steps. (j : ℕ) × (j < length steps) × SuperfluousStep m n steps j)

-- number i is the first step that is: steps "count from 1"
pub record FirstSuperfluous (m n : ℕ) (ss : List (List ℕ)) (i : ℕ) : Type 0 where
  pub place : ℕ
  pub number : i ≡ suc place
  pub step : place < length ss
  pub combined : SuperfluousStep m n ss place
  pub least : (j : ℕ) → j < place → SuperfluousStep m n ss j → ⊥

-- ---- what a mark says

-- The mark of a claim tells whether its described set is right and whether it has a superfluous step. `shown` is how a mark looks, as an
-- answer, a byte or a line, and x is what the claim gets.
pub record MarkTells {A : Type 0} (shown : Mark → A) (Right Has : Type 0) (x : A) : Type 0 where
  -- "demand 3 is shown again with pass or long where it says passed"
  pub right : ((x ≡ shown Pass) ⊎ (x ≡ shown Long)) ↔ Right
  pub failed : (x ≡ shown Fail) ↔ (Right → ⊥)
  -- "where the described set is right but some step is itself a combination of the others"
  pub long : (x ≡ shown Long) ↔ (Right × Has)
  -- "`pass` then means right set and no such step"
  pub passed : (x ≡ shown Pass) ↔ (Right × (Has → ⊥))
