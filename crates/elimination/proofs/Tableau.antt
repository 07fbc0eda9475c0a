-- The tableau of a list of equations is 0 at a vector's point exactly where the vector solves the equations.
--   length-tableau, good_tableau, tableau-below     its form, its closure, and residues behind the pivots
--   sat_tableau, tableau-solves                     both ways, for the equations
--   sat_homogeneous, homogeneous-solves             and with right sides put to 0
use mathlib.Core.Path.{◌≡◌}
use mathlib.Core.List.{List, [], ◌∷◌, reverse_aux}
use Prim.Native.Nat.{ℕ, ◌+◌, ◌<◌}
use native.Mathlib.Omega.{arith}
use lib.ListN.{length, length-reverse_aux}
use lib.Dec.{T}
use Rattle.equations.specs.Equation.{Equation, solves, homogeneous, Shaped}
use Rattle.elimination.specs.Tableau.{lines, tableau}
use Rattle.elimination.proofs.Zeros.{Sat}
use Rattle.elimination.proofs.Closure.{Good}
use Rattle.elimination.proofs.Basis.{Long, length-basis, good_basis, sat_basis, zeros_basis}
use Rattle.elimination.proofs.Residues.{TailsBelow, rows-below}
use Rattle.elimination.proofs.Lines.{long-lines, Holds, zeros_of_holds, holds_of_zeros, holds_of_solves, solves_of_holds, holds_of_homogeneous, homogeneous_of_holds}

module _ (m n k : ℕ) (es : List Equation) (pos : 0 < m) (shaped : Shaped n es) where
  long : Long (n + 1 + k) (lines m k 0 es)
  long = long-lines m n k 0 es shaped

  pub length-tableau : length (tableau m n k es) ≡ n + 1
  unfolding tableau
  length-tableau = length-basis m (n + 1) k pos (lines m k 0 es)

  pub good_tableau : Good m k (tableau m n k es)
  unfolding tableau
  good_tableau = good_basis m (n + 1) k pos (lines m k 0 es) long

  pub tableau-below : TailsBelow m (tableau m n k es)
  unfolding tableau
  tableau-below = rows-below m (n + 1) k (lines m k 0 es) pos

  sat_of_holds : (c : ℕ) (x : List ℕ) → length x ≡ n → Holds m c es x → Sat m (tableau m n k es) (reverse_aux x (c ∷ []))
  unfolding tableau
  sat_of_holds c x lx h =
      sat_basis m (n + 1) k pos (lines m k 0 es) _ long (omega (arith, length-reverse_aux x (c ∷ [])))
      (zeros_of_holds m pos n k c x lx 0 es shaped h)

  holds_of_sat : (c : ℕ) (x : List ℕ) → length x ≡ n → Sat m (tableau m n k es) (reverse_aux x (c ∷ [])) → Holds m c es x
  unfolding tableau
  holds_of_sat c x lx sat =
      holds_of_zeros m pos n k c x lx 0 es shaped
      (zeros_basis m (n + 1) k pos (lines m k 0 es) _ long (omega (arith, length-reverse_aux x (c ∷ []))) sat)

  pub sat_tableau : (x : List ℕ) → length x ≡ n → T (solves m es x) → Sat m (tableau m n k es) (reverse_aux x (1 ∷ []))
  sat_tableau x lx t = sat_of_holds 1 x lx (holds_of_solves m es x t)

  pub tableau-solves : (x : List ℕ) → length x ≡ n → Sat m (tableau m n k es) (reverse_aux x (1 ∷ []))
      → T (solves m es x)
  tableau-solves x lx sat = solves_of_holds m es x (holds_of_sat 1 x lx sat)

  pub sat_homogeneous : (x : List ℕ) → length x ≡ n → T (solves m (homogeneous es) x)
      → Sat m (tableau m n k es) (reverse_aux x (0 ∷ []))
  sat_homogeneous x lx t = sat_of_holds 0 x lx (holds_of_homogeneous m es x (holds_of_solves m (homogeneous es) x t))

  pub homogeneous-solves : (x : List ℕ) → length x ≡ n → Sat m (tableau m n k es) (reverse_aux x (0 ∷ []))
      → T (solves m (homogeneous es) x)
  homogeneous-solves x lx sat =
      solves_of_holds m (homogeneous es) x (homogeneous_of_holds m es x (holds_of_sat 0 x lx sat))
