-- Lists of vectors of n residues; 01's steps are one.
--   flat_below            the vectors one behind the other are residues,
--   flat_length           n for each vector
--   vector-combination    a vector plus a combination of vectors is a vector
--   described_vector      so a claim of a start with steps describes only such vectors
--   steps_vectors         the steps are vectors,
--   steps_few             at most one for each place,
--   steps_solve           and solve the equations with right sides 0
use mathlib.Core.Path.{◌≡◌, refl, subst}
use mathlib.Core.List.{List, [], ◌∷◌, flatten}
use mathlib.Core.Option.{Option, none, some}
use mathlib.Core.Bool.{Bool}
use Prim.Native.Nat.{ℕ, zero, suc, ◌*◌, ◌<◌, ◌≤◌}
use native.Mathlib.Omega.{arith}
use lib.ListN.{length, length-append}
use lib.Dec.{T}
use mir.Facts.{and_yes, yes_and}
use Rattle.equations.specs.Lists.{every}
use Rattle.equations.specs.Vectors.{Vector, AllVectors, Below, combination}
use Rattle.equations.specs.Equation.{Equation, solves, homogeneous}
use Rattle.equations.specs.Answer.{leads_at, step_at, and_then, steps_from, steps_of}
use Rattle.equations.specs.Claim.{from, describes}
use Rattle.equations.proofs.Vectors.{vector-length, vector-below, below-append}
use Rattle.equations.proofs.Search.{first_holds}
use Rattle.equations.proofs.Combine.{vector-combine}
use Rattle.equations.proofs.Claim.{describes_exists}

module _ (m n : ℕ) where
  pub flat_below : (vs : List (List ℕ)) → AllVectors m n vs → Below m (flatten vs)
  unfolding flatten
  flat_below [] h = tt
  flat_below (v ∷ vs) h = below-append m v (flatten vs) (vector-below m n v h.0) (flat_below vs h.1)

  pub flat_length : (vs : List (List ℕ)) → AllVectors m n vs → length (flatten vs) ≡ length vs * n
  unfolding flatten
  flat_length [] h = omega arith
  flat_length (v ∷ vs) h =
      omega (arith, length-append v (flatten vs), vector-length m n v h.0, flat_length vs h.1)

-- ---- what a claim describes

module _ (m n : ℕ) (pos : 0 < m) (c : List ℕ) (start : Vector m n c) where
  pub vector-combination : (ss : List (List ℕ)) → AllVectors m n ss → (ts : List ℕ) → Vector m n (combination m c ss ts)
  vector-combination [] h ts = start
  vector-combination (s ∷ ss) h [] = start
  vector-combination (s ∷ ss) h (t ∷ ts) =
      vector-combine m n 1 t (combination m c ss ts) s pos (vector-combination ss h.1 ts) h.0

  pub described_vector : (ss : List (List ℕ)) → AllVectors m n ss → (v : List ℕ) → T (describes m (from c ss) v)
      → Vector m n v
  described_vector ss h v t =
      let d = (describes_exists m c ss v).0 t in subst (Vector m n) d.2 (vector-combination ss h d.0)

-- ---- 01's steps

step-vector : (m n j : ℕ) (es : List Equation) (s : List ℕ) → step_at m n es j ≡ some s → Vector m n s
unfolding step_at
step-vector m n j es s h = (first_holds m n _ s h).0

step-solves : (m n j : ℕ) (es : List Equation) (s : List ℕ) → step_at m n es j ≡ some s → T (solves m (homogeneous es) s)
unfolding step_at
step-solves m n j es s h = (and_yes (solves m (homogeneous es) s) (leads_at j s) (first_holds m n _ s h).1).0

then_vectors : (m n : ℕ) (o : Option (List ℕ)) (ss : List (List ℕ)) → ((s : List ℕ) → o ≡ some s → Vector m n s)
    → AllVectors m n ss → AllVectors m n (and_then o ss)
then_vectors m n none ss h l = l
then_vectors m n (some s) ss h l = (h s refl, l)

then_every : (p : List ℕ → Bool) (o : Option (List ℕ)) (ss : List (List ℕ)) → ((s : List ℕ) → o ≡ some s → T (p s))
    → T (every p ss) → T (every p (and_then o ss))
then_every p none ss h l = l
then_every p (some s) ss h l = yes_and (p s) (every p ss) (h s refl) l

then_few : (o : Option (List ℕ)) (ss : List (List ℕ)) → length (and_then o ss) ≤ suc (length ss)
then_few none ss = omega arith
then_few (some s) ss = omega arith

module _ (m n : ℕ) (es : List Equation) where
  from-vectors : (k j : ℕ) → AllVectors m n (steps_from m n es j k)
  from-vectors zero j = tt
  from-vectors (suc k) j =
      then_vectors m n (step_at m n es j) (steps_from m n es (suc j) k) (step-vector m n j es) (from-vectors k (suc j))

  from-few : (k j : ℕ) → length (steps_from m n es j k) ≤ k
  from-few zero j = omega arith
  from-few (suc k) j = omega (arith, then_few (step_at m n es j) (steps_from m n es (suc j) k), from-few k (suc j))

  pub steps_vectors : AllVectors m n (steps_of m n es)
  unfolding steps_of
  steps_vectors = from-vectors n 0

  pub steps_few : length (steps_of m n es) ≤ n
  unfolding steps_of
  steps_few = from-few n 0

  from_solve : (k j : ℕ) → T (every (solves m (homogeneous es)) (steps_from m n es j k))
  from_solve zero j = tt
  from_solve (suc k) j =
      then_every (solves m (homogeneous es)) (step_at m n es j) (steps_from m n es (suc j) k) (step-solves m n j es)
      (from_solve k (suc j))

  pub steps_solve : T (every (solves m (homogeneous es)) (steps_of m n es))
  unfolding steps_of
  steps_solve = from_solve n 0
