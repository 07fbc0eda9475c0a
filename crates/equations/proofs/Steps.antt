-- The steps by recursion on the unknowns: the step at the first place, then the steps
-- of the vectors whose first entry is 0.
--   steps_in         the steps of the vectors that pass a test, so defined
--   step_shift      the step at a later place is a step one place earlier, behind a 0
--   steps_of_in     01's steps are these, for the solutions with right sides 0
use mathlib.Core.Path.{◌≡◌, refl, ap, ap₂, ◌∙◌, sym, subst}
use mathlib.Core.Logic.{inl, inr}
use mathlib.Core.List.{List, [], ◌∷◌, map}
use mathlib.Core.Option
use mathlib.Core.Option.{Option, none, some}
use mathlib.Core.Bool.{Bool, false, ◌&&◌}
use Prim.Native.Nat.{ℕ, zero, suc, ◌<◌}
use native.Mathlib.Omega.{arith}
use lib.Dec.{T, eqb, eqb→eq}
use mir.Facts.{and_yes, yes_and}
use Rattle.equations.specs.Lists.{first}
use Rattle.equations.specs.Vectors.{Vector, Before, First, vectors}
use Rattle.equations.specs.Equation.{Equation, solves, homogeneous}
use Rattle.equations.specs.Answer.{leads_at, and_then, steps_of}
use Rattle.equations.specs.Sets.{steps_among_from}
use Rattle.equations.proofs.Truth.{false_of, of_false}
use Rattle.equations.proofs.First.{first-none}
use Rattle.equations.proofs.Search.{Search, search_vectors, first_of}
use Rattle.equations.proofs.Sets.{steps_among_lem}
use Rattle.equations.proofs.Closed.{head_test}

-- the test of the step at place j
abbrev pub step_test : (List ℕ → Bool) → ℕ → List ℕ → Bool
step_test p j v = p v && leads_at j v

abbrev pub zero_first : List ℕ → List ℕ
zero_first v = 0 ∷ v

abbrev pub steps_in : ℕ → ℕ → (List ℕ → Bool) → List (List ℕ)
steps_in m zero p = []
steps_in m (suc n) p =
    and_then (first (head_test p) (vectors m (suc n))) (map zero_first (steps_in m n (λ v. p (0 ∷ v))))

module _ (m n j : ℕ) (p : List ℕ → Bool) (pos : 0 < m) where
  shifted : (x : ℕ) (w : List ℕ) → T (step_test p (suc j) (x ∷ w)) → (x ≡ 0) × T (step_test (λ v. p (0 ∷ v)) j w)
  shifted x w t =
      let b = and_yes (p (x ∷ w)) (eqb x 0 && leads_at j w) t in
      let l = and_yes (eqb x 0) (leads_at j w) b.1 in
      let e : x ≡ 0 = eqb→eq x 0 l.0 in
      (e, yes_and (p (0 ∷ w)) (leads_at j w) (subst (λ (z : ℕ). T (p (z ∷ w))) e b.0) l.1)

  pub step_shift : first (step_test p (suc j)) (vectors m (suc n))
      ≡ Option.map zero_first (first (step_test (λ v. p (0 ∷ v)) j) (vectors m n))
  step_shift = go (search_vectors m n (step_test (λ v. p (0 ∷ v)) j))
    where
      fails : ((w : List ℕ) → Vector m n w → step_test (λ v. p (0 ∷ v)) j w ≡ false)
          → (w : List ℕ) → Vector m (suc n) w → step_test p (suc j) w ≡ false
      fails f [] vec = absurd vec
      fails f (x ∷ w) vec =
          false_of (step_test p (suc j) (x ∷ w)) (λ t. of_false (f w vec.1) (shifted x w t).1)

      least : (v : List ℕ) → First m n (step_test (λ v. p (0 ∷ v)) j) v
          → (w : List ℕ) → Vector m (suc n) w → Before w (0 ∷ v) → T (step_test p (suc j) w) → ⊥
      least v f [] vec b t = absurd vec
      least v f (x ∷ w) vec (inl lt) t = omega arith
      least v f (x ∷ w) vec (inr b) t = f.least w vec.1 b.1 (shifted x w t).1

      go : Search m n (step_test (λ v. p (0 ∷ v)) j) → first (step_test p (suc j)) (vectors m (suc n))
          ≡ Option.map zero_first (first (step_test (λ v. p (0 ∷ v)) j) (vectors m n))
      go (inl (v, f)) =
          first_of m (suc n) (step_test p (suc j)) (0 ∷ v)
          record { vector = (pos, f.vector); holds = f.holds; least = least v f }
          ∙ sym (ap (Option.map zero_first) (first_of m n (step_test (λ v. p (0 ∷ v)) j) v f))
      go (inr f) =
          first-none m (suc n) (step_test p (suc j)) (fails f)
          ∙ sym (ap (Option.map zero_first) (first-none m n (step_test (λ v. p (0 ∷ v)) j) f))

-- ---- 01's steps

then_map : (o : Option (List ℕ)) (ss : List (List ℕ))
    → and_then (Option.map zero_first o) (map zero_first ss) ≡ map zero_first (and_then o ss)
then_map none ss = refl
then_map (some s) ss = refl

from_shift : (m n : ℕ) (p : List ℕ → Bool) → 0 < m → (j k : ℕ)
    → steps_among_from m (suc n) p (suc j) k ≡ map zero_first (steps_among_from m n (λ v. p (0 ∷ v)) j k)
from_shift m n p pos j zero = refl
from_shift m n p pos j (suc k) =
    ap₂ and_then (step_shift m n j p pos) (from_shift m n p pos (suc j) k)
    ∙ then_map (first (step_test (λ v. p (0 ∷ v)) j) (vectors m n)) (steps_among_from m n (λ v. p (0 ∷ v)) (suc j) k)

from_in : (m n : ℕ) (p : List ℕ → Bool) → 0 < m → steps_among_from m n p 0 n ≡ steps_in m n p
from_in m zero p pos = refl
from_in m (suc n) p pos =
    ap (and_then (first (head_test p) (vectors m (suc n))))
    (from_shift m n p pos 0 n ∙ ap (map zero_first) (from_in m n (λ v. p (0 ∷ v)) pos))

pub steps_of_in : (m n : ℕ) (es : List Equation) → 0 < m → steps_of m n es ≡ steps_in m n (solves m (homogeneous es))
steps_of_in m n es pos = steps_among_lem m n es ∙ from_in m n (solves m (homogeneous es)) pos
