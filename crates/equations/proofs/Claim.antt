-- What a claim describes and when it is right, said by exists and for-all.
--   describes-nothing   "0 claims no solution and describes no vector"
--   describes_exists    a vector is described: it is the start plus a combination of the steps, for some coefficients
--   among_all           a claim is right for a set: of each vector of n residues, it is described if and only if it is a member
--   among_described     a claim that describes only vectors of n residues is right: those are the members
--   right-all           the same for the set of solutions
use mathlib.Core.Path.{◌≡◌}
use mathlib.Core.Logic.{◌↔◌}
use mathlib.Core.List.{List}
use mathlib.Core.Bool.{Bool, true, false, beq}
use Prim.Native.Nat.{ℕ}
use lib.ListN.{length}
use lib.Dec.{T}
use Rattle.equations.specs.Vectors.{Vector, same_vector, combination}
use Rattle.equations.specs.Equation.{Equation, solves}
use Rattle.equations.specs.Claim.{Claim, no_solution, from, describes, is_right}
use Rattle.equations.specs.Sets.{is_right_among}
use Rattle.equations.proofs.Lists.{every-vector, every_of, someone-vector, someone_of, eq_of_same, same_of_eq}

pub describes-nothing : (m : ℕ) (v : List ℕ) → T (describes m no_solution v) → ⊥
unfolding describes
describes-nothing m v t = t

module _ (m : ℕ) (c : List ℕ) (ss : List (List ℕ)) (v : List ℕ) where
  abbrev pub Described : Type 0
  Described = (ts : List ℕ) × Vector m (length ss) ts × (combination m c ss ts ≡ v)

  pub describes_exists : T (describes m (from c ss) v) ↔ Described
  unfolding describes
  describes_exists = (
    (λ t. let found = someone-vector m (length ss) (λ ts. same_vector (combination m c ss ts) v) t in
        (found.0, found.1, eq_of_same (combination m c ss found.0) v found.2)),
    λ d. someone_of m (length ss) (λ ts. same_vector (combination m c ss ts) v) d.0 d.1
        (same_of_eq (combination m c ss d.0) v d.2),
  )

-- two tests with the same outcome
same_outcome : (a b : Bool) → T (beq a b) ↔ (T a ↔ T b)
same_outcome true true = ((λ t. ((λ u. u), λ u. u)), λ h. tt)
same_outcome true false = ((λ t. absurd t), λ h. h.0 tt)
same_outcome false true = ((λ t. absurd t), λ h. h.1 tt)
same_outcome false false = ((λ t. ((λ u. u), λ u. u)), λ h. tt)

pub among_all : (m n : ℕ) (p : List ℕ → Bool) (claim : Claim)
    → T (is_right_among m n p claim) ↔ ((v : List ℕ) → Vector m n v → T (describes m claim v) ↔ T (p v))
among_all m n p claim = (
  (λ t v vec. (same_outcome (describes m claim v) (p v)).0
      (every-vector m n (λ v. beq (describes m claim v) (p v)) t v vec)),
  λ f. every_of m n (λ v. beq (describes m claim v) (p v))
      (λ v vec. (same_outcome (describes m claim v) (p v)).1 (f v vec)),
)

pub among_described : (m n : ℕ) (p : List ℕ → Bool) (claim : Claim)
    → ((v : List ℕ) → T (describes m claim v) → Vector m n v)
    → T (is_right_among m n p claim) ↔ ((v : List ℕ) → T (describes m claim v) ↔ (Vector m n v × T (p v)))
among_described m n p claim vector = (
  (λ t v.
      let same = (among_all m n p claim).0 t v in
      ((λ d. (vector v d, (same (vector v d)).0 d)), λ s. (same s.0).1 s.1)),
  λ f. (among_all m n p claim).1 (λ v vec. ((λ d. ((f v).0 d).1), λ s. (f v).1 (vec, s))),
)

pub right-all : (m n : ℕ) (es : List Equation) (claim : Claim)
    → T (is_right m n es claim) ↔ ((v : List ℕ) → Vector m n v → T (describes m claim v) ↔ T (solves m es v))
unfolding is_right
right-all m n es claim = among_all m n (solves m es) claim
