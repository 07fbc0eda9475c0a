-- The answer, handed in as a claim, is right.
--   vector_of_within   coefficients within the ranges are residues
--   answer-right      start and steps are
--   none_right        the claim of no solution is right where there is none
use mathlib.Core.Path.{◌≡◌, subst}
use mathlib.Core.List.{List, [], ◌∷◌}
use mathlib.Core.Option.{none, some}
use Prim.Native.Nat.{ℕ, ◌<◌}
use native.Mathlib.Nat.{div-le_self}
use native.Mathlib.Omega.{arith}
use lib.ListN.{length}
use lib.Dec.{T}
use Rattle.equations.specs.Vectors.{Vector}
use Rattle.equations.specs.Equation.{Equation, solves}
use Rattle.equations.specs.Answer.{start_of, steps_of, leading}
use Rattle.equations.specs.Claim.{no_solution, from, describes, is_right}
use Rattle.equations.specs.Promises.{Within}
use Rattle.equations.proofs.Claim.{describes-nothing, describes_exists, right-all}
use Rattle.equations.proofs.Answer.{start_none, answer_sound, answer-written}

pub vector_of_within : (m : ℕ) (ss : List (List ℕ)) (ts : List ℕ) → Within m ss ts → Vector m (length ss) ts
vector_of_within m [] [] w = tt
vector_of_within m [] (t ∷ ts) w = absurd w
vector_of_within m (s ∷ ss) [] w = absurd w
vector_of_within m (s ∷ ss) (t ∷ ts) w =
    (omega (arith, w.0, div-le_self m (leading s)), vector_of_within m ss ts w.1)

pub answer-right : (m n : ℕ) (es : List Equation) (c : List ℕ) → 0 < m → start_of m n es ≡ some c
    → T (is_right m n es (from c (steps_of m n es)))
answer-right m n es c pos h = (right-all m n es (from c ss)).1 (λ v vec. (down v, up v vec))
  where
    ss : List (List ℕ)
    ss = steps_of m n es

    down : (v : List ℕ) → T (describes m (from c ss) v) → T (solves m es v)
    down v t =
        let d = (describes_exists m c ss v).0 t in
        subst (λ (v : List ℕ). T (solves m es v)) d.2 (answer_sound m n es c pos h d.0)

    up : (v : List ℕ) → Vector m n v → T (solves m es v) → T (describes m (from c ss) v)
    up v vec t =
        let u = answer-written m n es c pos h v vec t in
        (describes_exists m c ss v).1 (u.0, vector_of_within m ss u.0 u.1, u.2)

pub none_right : (m n : ℕ) (es : List Equation) → start_of m n es ≡ none → T (is_right m n es no_solution)
none_right m n es h =
    (right-all m n es no_solution).1
    (λ v vec. ((λ t. absurd (describes-nothing m v t)), λ t. absurd ((start_none m n es).0 h v vec t)))
