-- The answer of a set of vectors. The answer to a list of equations is that of its solutions, and sets with the same
-- members have the same answer.
--   start_among_lem, step_at_among, steps_among_lem, right_among   the answer to equations is that of the set of solutions
--   start_same, step_same, steps_same, right-same          tests that agree on all vectors of n residues
use mathlib.Core.Path.{◌≡◌, refl, ap, ap₂, sym, subst}
use mathlib.Core.List.{List}
use mathlib.Core.Bool.{Bool, ◌&&◌, beq}
use Prim.Native.Nat.{ℕ, zero, suc}
use lib.Dec.{T}
use Rattle.equations.specs.Vectors.{Vector}
use Rattle.equations.specs.Equation.{Equation, solves, homogeneous}
use Rattle.equations.specs.Answer.{start_of, leads_at, step_at, and_then, steps_from, steps_of}
use Rattle.equations.specs.Claim.{Claim, describes, is_right}
use Rattle.equations.specs.Sets.{start_among, step_among, steps_among_from, steps_among, is_right_among}
use Rattle.equations.proofs.Truth.{same_of_both}
use Rattle.equations.proofs.Search.{first_cong}
use Rattle.equations.proofs.Lists.{every-vector, every_of}

-- ---- the set of solutions

module _ (m n : ℕ) (es : List Equation) where
  pub start_among_lem : start_of m n es ≡ start_among m n (solves m es)
  unfolding start_of
  start_among_lem = refl

  pub step_at_among : (j : ℕ) → step_at m n es j ≡ step_among m n (solves m (homogeneous es)) j
  unfolding step_at
  step_at_among j = refl

  from_among : (j k : ℕ) → steps_from m n es j k ≡ steps_among_from m n (solves m (homogeneous es)) j k
  from_among j zero = refl
  from_among j (suc k) = ap₂ and_then (step_at_among j) (from_among (suc j) k)

  pub steps_among_lem : steps_of m n es ≡ steps_among m n (solves m (homogeneous es))
  unfolding steps_of
  steps_among_lem = from_among 0 n

  pub right_among : (claim : Claim) → is_right m n es claim ≡ is_right_among m n (solves m es) claim
  unfolding is_right
  right_among claim = refl

-- ---- sets with the same members

module _ (m n : ℕ) (p q : List ℕ → Bool) (same : (v : List ℕ) → Vector m n v → p v ≡ q v) where
  pub start_same : start_among m n p ≡ start_among m n q
  start_same = first_cong m n p q same

  pub step_same : (j : ℕ) → step_among m n p j ≡ step_among m n q j
  step_same j =
      first_cong m n (λ v. p v && leads_at j v) (λ v. q v && leads_at j v)
      (λ v vec. ap (λ (b : Bool). b && leads_at j v) (same v vec))

  from-same : (j k : ℕ) → steps_among_from m n p j k ≡ steps_among_from m n q j k
  from-same j zero = refl
  from-same j (suc k) = ap₂ and_then (step_same j) (from-same (suc j) k)

  pub steps_same : steps_among m n p ≡ steps_among m n q
  steps_same = from-same 0 n

  pub right-same : (claim : Claim) → is_right_among m n p claim ≡ is_right_among m n q claim
  right-same claim =
      same_of_both (is_right_among m n p claim) (is_right_among m n q claim)
      (λ t. every_of m n (test q) (λ v vec. subst (λ (b : Bool). T (beq (describes m claim v) b)) (same v vec)
      (every-vector m n (test p) t v vec)))
      (λ t. every_of m n (test p) (λ v vec. subst (λ (b : Bool). T (beq (describes m claim v) b))
      (sym (same v vec)) (every-vector m n (test q) t v vec)))
    where
      test : (List ℕ → Bool) → List ℕ → Bool
      test r v = beq (describes m claim v) (r v)
