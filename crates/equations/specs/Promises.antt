-- Demand 2 about the definitions, in the customer's words and document 01's; and, last, document 02's about long claims and about whole
-- numbers. Each promise is a type; proofs/Promises.antt keeps it. Definitions only.
use Rattle.std.specs.Prelude.{◌≡◌, ◌↔◌, ◌⊎◌, List, [], ◌∷◌, ◌++◌, map, ℕ, zero, suc, ◌<◌, length, get_or, replicate, T, ℤ}
use Rattle.std.proofs.Math.Option.{none, some}
use Rattle.residue.specs.Divides.{Divides}
use Rattle.residue.specs.Residue.{residue_of}
use Rattle.equations.specs.Lists.{count, without}
use Rattle.equations.specs.Vectors.{Vector, AllVectors, Before, First, vectors, combination}
use Rattle.equations.specs.Equation.{Equation, solves_one, solves}
use Rattle.equations.specs.Lines.{equation_at}
use Rattle.equations.specs.Whole.{HoldsWhole}
use Rattle.equations.specs.Answer.{start_of, is_step, step_at, steps_of, leading, range_of, range_product}
use Rattle.equations.specs.Multipliers.{refutes}
use Rattle.equations.specs.Claim.{Claim, no_solution, from, is_right}
use Rattle.equations.specs.Marks.{mark_of, SuperfluousStep, HasSuperfluous, MarkTells}

-- "Vectors of n residues stand in dictionary order": of two different ones just one comes before the other, and what comes
-- before v comes before whatever v is before. So at most one vector is the first that passes a test.
pub record Ordered (m n : ℕ) : Type 0 where
  pub total : (v w : List ℕ) → Vector m n v → Vector m n w → Before v w ⊎ ((v ≡ w) ⊎ Before w v)
  pub strict : (v w : List ℕ) → Before v w → Before w v → ⊥
  pub onward : (u v w : List ℕ) → Before u v → Before v w → Before u w

abbrev pub DictionaryOrder : Type 0
DictionaryOrder = (m n : ℕ) → Ordered m n

-- "Starting vector: the first solution in dictionary order."
abbrev pub StartFirst : Type 0
StartFirst =
    (m n : ℕ) (es : List Equation) (c : List ℕ) → (start_of m n es ≡ some c) ↔ First m n (solves m es) c

-- there is no starting vector exactly when "no vector of residues solves all those equations"
abbrev pub NoStart : Type 0
NoStart =
    (m n : ℕ) (es : List Equation)
    → (start_of m n es ≡ none) ↔ ((v : List ℕ) → Vector m n v → T (solves m es v) → ⊥)

-- "Step at place j: among the vectors that solve all the equations with right sides put to 0, and whose first non-zero
-- entry is at j, the first in dictionary order."
abbrev pub StepFirst : Type 0
StepFirst =
    (m n j : ℕ) (es : List Equation) (s : List ℕ) → (step_at m n es j ≡ some s) ↔ First m n (is_step m es j) s

-- "A place without such a vector has no step.", and every other place has one
abbrev pub NoStep : Type 0
NoStep =
    (m n j : ℕ) (es : List Equation)
    → (step_at m n es j ≡ none) ↔ ((v : List ℕ) → Vector m n v → T (is_step m es j v) → ⊥)

-- "its coefficient runs over 0..m/d-1": one coefficient for each step, each within its step's range
abbrev pub Within : ℕ → List (List ℕ) → List ℕ → Type 0
Within m [] [] = Unit {0}
Within m [] (t ∷ ts) = ⊥
Within m (s ∷ ss) [] = ⊥
Within m (s ∷ ss) (t ∷ ts) = (t < range_of m s) × Within m ss ts

-- v is c plus a combination of the steps ss, each coefficient within its range
abbrev pub Written : ℕ → List ℕ → List (List ℕ) → List ℕ → Type 0
Written m c ss v = (ts : List ℕ) × Within m ss ts × (combination m c ss ts ≡ v)

-- "a vector solves them all if and only if it is the starting vector plus a combination of the steps"
abbrev pub Complete : Type 0
Complete =
    (m n : ℕ) (es : List Equation) (c : List ℕ) → 0 < m → start_of m n es ≡ some c
    → (v : List ℕ) → Vector m n v → T (solves m es v) ↔ Written m c (steps_of m n es) v

-- "and within the stated coefficient ranges it is so in one way"
abbrev pub Unique : Type 0
Unique =
    (m n : ℕ) (es : List Equation) (c : List ℕ) → 0 < m → start_of m n es ≡ some c
    → (ts us : List ℕ) → Within m (steps_of m n es) ts → Within m (steps_of m n es) us
    → combination m c (steps_of m n es) ts ≡ combination m c (steps_of m n es) us → ts ≡ us

-- "If d is the step's entry at its place, d divides m"; and it is the number by which the ranges go
abbrev pub StepDivides : Type 0
StepDivides =
    (m n j : ℕ) (es : List Equation) (s : List ℕ) → 0 < m → step_at m n es j ≡ some s
    → (leading s ≡ get_or s j 0) × Divides (get_or s j 0) m

-- "their number is the product of the m/d"
abbrev pub Counted : Type 0
Counted =
    (m n : ℕ) (es : List Equation) (c : List ℕ) → 0 < m → start_of m n es ≡ some c
    → count (solves m es) (vectors m n) ≡ range_product m (steps_of m n es)

-- the answer, handed in as a claim, is right: the start with all the steps, or no solution where there is no start
abbrev pub OwnAnswer : Type 0
OwnAnswer =
    (m n : ℕ) (es : List Equation) → 0 < m
    → ((c : List ℕ) → start_of m n es ≡ some c → T (is_right m n es (from c (steps_of m n es))))
    × (start_of m n es ≡ none → T (is_right m n es no_solution))

-- multipliers that refute the equations leave no solution
abbrev pub Refuted : Type 0
Refuted = (m n : ℕ) (es : List Equation) (ks : List ℕ) → T (refutes m n es ks) → start_of m n es ≡ none

-- the n unit vectors, by rising place of the 1
abbrev pub units : ℕ → List (List ℕ)
units zero = []
units (suc n) = (1 ∷ replicate n 0) ∷ map (λ (v : List ℕ). 0 ∷ v) (units n)

-- "With no equations the starting vector is all zeros and the steps are the n unit vectors." For every m that 01
-- allows; with m = 1 there is no residue but 0, and no step.
abbrev pub NoEquations : Type 0
NoEquations = (m n : ℕ) → 1 < m → (start_of m n [] ≡ some (replicate n 0)) × (steps_of m n [] ≡ units n)

-- the equation whose k coefficients are all 0, with right side b
abbrev pub constant : ℕ → ℕ → Equation
constant k b = record { coefficients = replicate k 0; right = b }

-- "0x=0 changes nothing", wherever it stands in the list
abbrev pub ZeroEquation : Type 0
ZeroEquation =
    (m n k : ℕ) (es fs : List Equation)
    → ((v : List ℕ) → solves m (es ++ (constant k 0 ∷ fs)) v ≡ solves m (es ++ fs) v)
    × (start_of m n (es ++ (constant k 0 ∷ fs)) ≡ start_of m n (es ++ fs))
    × (steps_of m n (es ++ (constant k 0 ∷ fs)) ≡ steps_of m n (es ++ fs))
    × ((claim : Claim) → is_right m n (es ++ (constant k 0 ∷ fs)) claim ≡ is_right m n (es ++ fs) claim)

-- "0x=1: none", wherever it stands in the list; so with every right side that is not 0
abbrev pub ContradictoryEquation : Type 0
ContradictoryEquation =
    (m n k b : ℕ) (es fs : List Equation) → 0 < b → b < m → start_of m n (es ++ (constant k b ∷ fs)) ≡ none

-- Document 02, S-8: the mark is `long` "where the described set is right but some step is itself a combination of the others. `pass` then
-- means right set and no such step", and a wrong set fails.
abbrev pub RightButLong : Type 0
RightButLong =
    (m n : ℕ) (es : List Equation) (claim : Claim)
    → MarkTells (λ mark. mark) (T (is_right m n es claim)) (HasSuperfluous m n claim) (mark_of m n es claim)

-- "The zero vector as a step is always superfluous."
abbrev pub ZeroStep : Type 0
ZeroStep =
    (m n : ℕ) (ss : List (List ℕ)) → 0 < m → AllVectors m n ss
    → (j : ℕ) → j < length ss → get_or ss j [] ≡ replicate n 0 → SuperfluousStep m n ss j

-- A step of a right claim is superfluous exactly where it can be left out. (`elimination` keeps this promise, since it takes spans.)
abbrev pub StepLeftOut : Type 0
StepLeftOut =
    (m n : ℕ) (es : List Equation) (c : List ℕ) (ss : List (List ℕ)) → 0 < m → Vector m n c → AllVectors m n ss
    → T (is_right m n es (from c ss))
    → (j : ℕ) → j < length ss → SuperfluousStep m n ss j ↔ T (is_right m n es (from c (without j ss)))

-- Document 02, S-3: an equation of whole numbers holds mod m at just the vectors that solve the equation of their residues.
abbrev pub ResiduesSolve : Type 0
ResiduesSolve =
    (m n : ℕ) (xs : List ℤ) (v : List ℕ) → 0 < m
    → HoldsWhole m n xs v ↔ T (solves_one m (equation_at n (map (residue_of m) xs)) v)
