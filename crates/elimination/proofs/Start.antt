-- The starting vector: back substitution from the constant 1 gives the first solution, `start_first`; where the
-- constant's own row does not let it be 1, there is none, `start_none`.
use mathlib.Core.Path.{◌≡◌, refl, subst}
use mathlib.Core.Logic.{◌⊎◌}
use mathlib.Core.List.{List, [], ◌∷◌, reverse_aux}
use mathlib.Core.Option.{none, some}
use Prim.Native.Nat.{ℕ, ◌+◌, ◌<◌}
use native.Mathlib.Omega.{arith}
use lib.ListN.{length, drop}
use lib.Dec.{T}
use Rattle.equations.specs.Vectors.{Vector}
use Rattle.equations.specs.Equation.{Equation, solves, Shaped}
use Rattle.equations.specs.Answer.{start_of}
use Rattle.equations.proofs.Truth.{false_of}
use Rattle.equations.proofs.Vectors.{vector-length}
use Rattle.equations.proofs.First.{first-none}
use Rattle.elimination.specs.Substitution.{extend}
use Rattle.elimination.specs.Tableau.{tableau, tableau_start}
use Rattle.elimination.proofs.Zeros.{Sat, sat_drop}
use Rattle.elimination.proofs.Closure.{Closure}
use Rattle.elimination.proofs.Substitution.{Colex, sat_extend, extend-least}
use Rattle.elimination.proofs.Turned.{drop-reverse, extend_point, extend-vector, first_colex}
use Rattle.elimination.proofs.Tableau.{length-tableau, good_tableau, sat_tableau, tableau-solves}

module _ (m n k : ℕ) (es : List Equation) (pos : 0 < m) (shaped : Shaped n es) where
  abbrev B : List (List ℕ)
  B = tableau m n k es

  abbrev Y : List ℕ
  Y = extend m n B (1 ∷ [])

  long : length B ≡ n + 1
  long = length-tableau m n k es pos shaped

  closure : Closure m B
  closure = (good_tableau m n k es pos shaped).closure

  point : reverse_aux (tableau_start m n k es) (1 ∷ []) ≡ Y
  unfolding tableau_start
  point = extend_point m n n 0 1 B (1 ∷ []) pos (omega (arith, long)) (omega arith) refl

  vector : Vector m n (tableau_start m n k es)
  unfolding tableau_start
  vector = extend-vector m n n 0 1 B (1 ∷ []) pos (omega (arith, long)) (omega arith) refl tt

  pub start_first : Sat m (drop n (tableau m n k es)) (1 ∷ []) → start_of m n es ≡ some (tableau_start m n k es)
  unfolding start_of
  start_first one = first_colex m n (solves m es) (tableau_start m n k es) 1 vector solution least
    where
      solution : T (solves m es (tableau_start m n k es))
      solution =
          tableau-solves m n k es pos shaped (tableau_start m n k es) (vector-length m n _ vector)
          (rw point (sat_extend m n B (1 ∷ []) pos closure (omega (arith, long)) one))

      least : (w : List ℕ) → Vector m n w → T (solves m es w)
          → (reverse_aux (tableau_start m n k es) (1 ∷ []) ≡ reverse_aux w (1 ∷ []))
          ⊎ Colex (reverse_aux (tableau_start m n k es) (1 ∷ [])) (reverse_aux w (1 ∷ []))
      least w wv t =
          let lw = vector-length m n w wv in
          rw point
          (extend-least m n B (1 ∷ []) (reverse_aux w (1 ∷ [])) pos closure (omega (arith, long))
          (sat_tableau m n k es pos shaped w lw t) (drop-reverse n 0 w (1 ∷ []) (omega (arith, lw))))

  pub start_none : (Sat m (drop n (tableau m n k es)) (1 ∷ []) → ⊥) → start_of m n es ≡ none
  unfolding start_of
  start_none never =
      first-none m n (solves m es) (λ w wv. false_of _ (λ t. never (last_row w (vector-length m n w wv) t)))
    where
      last_row : (w : List ℕ) → length w ≡ n → T (solves m es w) → Sat m (drop n B) (1 ∷ [])
      last_row w lw t =
          subst (Sat m (drop n B)) (drop-reverse n 0 w (1 ∷ []) (omega arith))
          (sat_drop m n B (reverse_aux w (1 ∷ [])) (sat_tableau m n k es pos shaped w lw t))
