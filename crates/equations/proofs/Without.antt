-- A list without one of its elements.
--   without-length       it has one less
--   without-map          the same of the elements' values
--   vector-without       a vector of residues without an entry is one
--   vectors_at, vectors-without   of a list of vectors: the one at place j is a vector, and so are the others
--   dot-without          a sum of products: the one at place j, and the others'
--   placed               a list with x put in at place j
--   placed_at, placed_without     x is there, and the others are the list
--   vector_placed        a vector of residues with a residue put in is one
use mathlib.Core.Path.{◌≡◌, refl, ap, ◌∙◌}
use mathlib.Core.List.{List, [], ◌∷◌, ◌++◌, map}
use Prim.Native.Nat.{ℕ, zero, suc, ◌+◌, ◌-◌, ◌*◌, ◌≤◌, ◌<◌}
use native.Mathlib.Omega.{arith}
use lib.ListN.{length, take, drop, get_or, length-append, length-drop}
use lib.Seq.{length-take-le}
use Rattle.equations.specs.Lists.{without}
use Rattle.equations.specs.Vectors.{Vector, AllVectors}
use Rattle.equations.specs.Equation.{dot}
use Rattle.equations.proofs.Dot.{dot-nil}
use Rattle.equations.proofs.Vectors.{vector-length, vector-below, vector_of, below-append, below-take, below-drop}

pub without-length : {A : Type 0} (j : ℕ) (xs : List A) → j < length xs → length (without j xs) ≡ length xs - 1
without-length j xs h =
    omega (arith, length-append (take j xs) (drop (suc j) xs), length-take-le j xs (omega arith), length-drop (suc j) xs)

pub without-map : {A B : Type 0} (f : A → B) (j : ℕ) (xs : List A) → map f (without j xs) ≡ without j (map f xs)
without-map f zero [] = refl
without-map f (suc j) [] = refl
without-map f zero (x ∷ xs) = refl
without-map f (suc j) (x ∷ xs) = ap (◌∷◌ (f x)) (without-map f j xs)

pub vector-without : (m n : ℕ) (v : List ℕ) (j : ℕ) → j < n → Vector m n v → Vector m (n - 1) (without j v)
vector-without m n v j lt vec =
    let below = vector-below m n v vec in
    let long = vector-length m n v vec in
    vector_of m (n - 1) (without j v) (without-length j v (omega arith) ∙ ap (λ (z : ℕ). z - 1) long)
    (below-append m (take j v) (drop (suc j) v) (below-take m j v below) (below-drop m (suc j) v below))

module _ (m n : ℕ) where
  pub vectors_at : (ss : List (List ℕ)) (j : ℕ) → AllVectors m n ss → j < length ss → Vector m n (get_or ss j [])
  vectors_at [] j vs lt = absurd (omega arith)
  vectors_at (s ∷ ss) zero vs lt = vs.0
  vectors_at (s ∷ ss) (suc j) vs lt = vectors_at ss j vs.1 (omega arith)

  pub vectors-without : (ss : List (List ℕ)) (j : ℕ) → AllVectors m n ss → AllVectors m n (without j ss)
  vectors-without [] zero vs = tt
  vectors-without [] (suc j) vs = tt
  vectors-without (s ∷ ss) zero vs = vs.1
  vectors-without (s ∷ ss) (suc j) vs = (vs.0, vectors-without ss j vs.1)

pub dot-without : (j : ℕ) (a t : List ℕ) → dot a t ≡ get_or a j 0 * get_or t j 0 + dot (without j a) (without j t)
dot-without zero [] t = omega arith
dot-without (suc j) [] t = omega arith
dot-without zero (x ∷ a) [] = omega (arith, dot-nil a)
dot-without (suc j) (x ∷ a) [] = omega (arith, dot-without j a [])
dot-without zero (x ∷ a) (y ∷ t) = refl
dot-without (suc j) (x ∷ a) (y ∷ t) = omega (arith, dot-without j a t)

-- ---- one put in

abbrev pub placed : {A : Type 0} → ℕ → A → List A → List A
placed j x xs = take j xs ++ x ∷ drop j xs

module _ {A : Type 0} (x : A) where
  pub placed_at : (j : ℕ) (xs : List A) (d : A) → j ≤ length xs → get_or (placed j x xs) j d ≡ x
  placed_at zero xs d le = refl
  placed_at (suc j) [] d le = absurd (omega arith)
  placed_at (suc j) (y ∷ xs) d le = placed_at j xs d (omega arith)

  pub placed_without : (j : ℕ) (xs : List A) → j ≤ length xs → without j (placed j x xs) ≡ xs
  placed_without zero xs le = refl
  placed_without (suc j) [] le = absurd (omega arith)
  placed_without (suc j) (y ∷ xs) le = ap (◌∷◌ y) (placed_without j xs (omega arith))

pub vector_placed : (m n : ℕ) (v : List ℕ) (j x : ℕ) → j ≤ n → x < m → Vector m n v → Vector m (suc n) (placed j x v)
vector_placed m n v zero x le lt vec = (lt, vec)
vector_placed m zero v (suc j) x le lt vec = absurd (omega arith)
vector_placed m (suc n) [] (suc j) x le lt vec = absurd vec
vector_placed m (suc n) (y ∷ v) (suc j) x le lt vec = (vec.0, vector_placed m n v j x (omega arith) lt vec.1)
