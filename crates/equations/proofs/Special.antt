-- The lists of equations that document 01 names: none at all, and those with an equation whose coefficients are all 0.
--   solves_start, solves_steps, solves-right   start, steps and marking depend on the solutions alone
--   none_start, none_steps                      no equations: zeros and the unit vectors
--   zero-solves, zero-homogeneous               0x = 0 changes no solution
--   contradiction_none                          0x = b, b not 0: no solution
use mathlib.Core.Path.{◌≡◌, refl, ap, ap₂, ◌∙◌, sym, fun_ext}
use mathlib.Core.Logic.{inl, inr}
use mathlib.Core.List.Memᴰ
use mathlib.Core.List.{List, [], ◌∷◌, ◌++◌, map}
use mathlib.Core.Option.{none, some}
use mathlib.Core.Bool.{Bool, true, false, ◌&&◌, beq}
use Prim.Native.Nat.{ℕ, zero, suc, ◌<◌}
use native.Mathlib.Omega.{arith}
use lib.ListN.{replicate}
use Rattle.residue.proofs.Congruent.{congruent_of_eq, congruent_small, congruent_trans}
use Rattle.equations.specs.Lists.{first, every}
use Rattle.equations.specs.Vectors.{Vector, Before, vectors}
use Rattle.equations.specs.Equation.{Equation, solves_one, solves, homogeneous}
use Rattle.equations.specs.Answer.{start_of, leads_at, step_at, and_then, steps_from, steps_of}
use Rattle.equations.specs.Claim.{Claim, describes, is_right}
use Rattle.equations.specs.Promises.{units, constant}
use Rattle.equations.proofs.Truth.{true_of}
use Rattle.equations.proofs.Dot.{dot_zeros}
use Rattle.equations.proofs.Vectors.{nothing_before_zeros}
use Rattle.equations.proofs.First.{first_is}
use Rattle.equations.proofs.Solving.{solves_congruent, solves-all}
use Rattle.equations.proofs.Combine.{vector_zeros}
use Rattle.equations.proofs.Closed.{head_test}
use Rattle.equations.proofs.Steps.{steps_in, zero_first, steps_of_in}
use Rattle.equations.proofs.Answer.{start_none}

-- ---- the same solutions

module _ (m n : ℕ) (es fs : List Equation) where
  pub solves_start : solves m es ≡ solves m fs → start_of m n es ≡ start_of m n fs
  unfolding start_of
  solves_start h = ap (λ (p : List ℕ → Bool). first p (vectors m n)) h

  pub solves-right : solves m es ≡ solves m fs → (claim : Claim) → is_right m n es claim ≡ is_right m n fs claim
  unfolding is_right
  solves-right h claim =
      ap (λ (p : List ℕ → Bool). every (λ v. beq (describes m claim v) (p v)) (vectors m n)) h

  steps_from_lem : solves m (homogeneous es) ≡ solves m (homogeneous fs) → (j k : ℕ)
      → steps_from m n es j k ≡ steps_from m n fs j k
  unfolding step_at
  steps_from_lem h j zero = refl
  steps_from_lem h j (suc k) =
      ap₂ and_then (ap (λ (p : List ℕ → Bool). first (λ v. p v && leads_at j v) (vectors m n)) h) (steps_from_lem h (suc j) k)

  pub solves_steps : solves m (homogeneous es) ≡ solves m (homogeneous fs) → steps_of m n es ≡ steps_of m n fs
  unfolding steps_of
  solves_steps h = steps_from_lem h 0 n

-- ---- no equations

pub none_start : (m n : ℕ) → 0 < m → start_of m n [] ≡ some (replicate n 0)
unfolding start_of
none_start m n pos =
    first_is m n (solves m []) (replicate n 0) (vector_zeros m n pos) refl
    (λ w vec b. absurd (nothing_before_zeros n w b))

first-unit : (m n : ℕ) → 1 < m → first (head_test (λ v. true)) (vectors m (suc n)) ≡ some (1 ∷ replicate n 0)
first-unit m n lt =
    first_is m (suc n) (head_test (λ v. true)) (1 ∷ replicate n 0) (lt, vector_zeros m n (omega arith)) refl least
  where
    least : (w : List ℕ) → Vector m (suc n) w → Before w (1 ∷ replicate n 0) → head_test (λ v. true) w ≡ false
    least [] vec b = refl
    least (zero ∷ w) vec b = refl
    least (suc x ∷ w) vec (inl l) = absurd (omega arith)
    least (suc x ∷ w) vec (inr b) = absurd (nothing_before_zeros n w b.1)

units_in : (m n : ℕ) → 1 < m → steps_in m n (λ v. true) ≡ units n
units_in m zero lt = refl
units_in m (suc n) lt = ap₂ and_then (first-unit m n lt) (ap (map zero_first) (units_in m n lt))

pub none_steps : (m n : ℕ) → 1 < m → steps_of m n [] ≡ units n
none_steps m n lt = steps_of_in m n [] (omega arith) ∙ units_in m n lt

-- ---- equations with all coefficients 0

zero_true : (m k : ℕ) (v : List ℕ) → solves_one m (constant k 0) v ≡ true
zero_true m k v =
    true_of (solves_one m (constant k 0) v) ((solves_congruent m (constant k 0) v).1 (congruent_of_eq (dot_zeros k v)))

pub zero-solves : (m k : ℕ) (es fs : List Equation) (v : List ℕ)
    → solves m (es ++ (constant k 0 ∷ fs)) v ≡ solves m (es ++ fs) v
zero-solves m k [] fs v = ap (λ (b : Bool). b && solves m fs v) (zero_true m k v)
zero-solves m k (e ∷ es) fs v = ap (λ (b : Bool). solves_one m e v && b) (zero-solves m k es fs v)

homogeneous-append : (es fs : List Equation) → homogeneous (es ++ fs) ≡ homogeneous es ++ homogeneous fs
homogeneous-append [] fs = refl
homogeneous-append (e ∷ es) fs = ap₂ ◌∷◌ refl (homogeneous-append es fs)

pub zero-homogeneous : (m k : ℕ) (es fs : List Equation)
    → solves m (homogeneous (es ++ (constant k 0 ∷ fs))) ≡ solves m (homogeneous (es ++ fs))
zero-homogeneous m k es fs =
    ap (solves m) (homogeneous-append es (constant k 0 ∷ fs))
    ∙ fun_ext (zero-solves m k (homogeneous es) (homogeneous fs))
    ∙ sym (ap (solves m) (homogeneous-append es fs))

pub contradiction_none : (m n k b : ℕ) (es fs : List Equation) → 0 < b → b < m
    → start_of m n (es ++ (constant k b ∷ fs)) ≡ none
contradiction_none m n k b es fs pos lt =
    (start_none m n (es ++ (constant k b ∷ fs))).1
    (λ v vec t.
    let c =
    (solves-all m (es ++ (constant k b ∷ fs)) v).0 t (constant k b) (Memᴰ.append_right es (Memᴰ.head refl))
    in
    let z : 0 ≡ b = congruent_small (omega arith) lt (congruent_trans (congruent_of_eq (sym (dot_zeros k v))) c) in
    omega arith)
