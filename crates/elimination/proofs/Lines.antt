-- The lines of a list of equations: one is 0 at the point of a vector x, with c behind it, exactly where x solves the
-- equation with its right side c times as large; c is 1, or 0 for right sides put to 0.
--   long-lines                                      the form of the lines
--   Holds                                           the congruences that the equations ask
--   zeros_of_holds, holds_of_zeros                  they hold exactly where the lines are 0
--   holds_of_solves, solves_of_holds                and, for c = 1, where the test passes
--   holds_of_homogeneous, homogeneous_of_holds      c = 0 is right sides put to 0
use mathlib.Core.Path.{◌≡◌, sym, ◌∙◌}
use mathlib.Core.List.{List, [], ◌∷◌, reverse_aux}
use Prim.Native.Nat.{ℕ, suc, ◌+◌, ◌*◌, ◌%◌, ◌<◌}
use native.Mathlib.Omega.{arith}
use lib.ListN.{length, length-reverse_aux}
use lib.Dec.{T}
use Rattle.residue.specs.Congruent.{Congruent}
use Rattle.residue.specs.Negative.{negative}
use Rattle.residue.proofs.Congruent.{congruent_of_eq, congruent_refl, congruent_sym, congruent_trans, congruent_add, congruent_cancel, congruent_absorb}
use Rattle.residue.proofs.Negative.{negative-reduced}
use Rattle.equations.specs.Vectors.{unit}
use Rattle.equations.specs.Equation.{Equation, dot, solves, homogeneous, Shaped}
use Rattle.equations.proofs.Dot.{dot-nil}
use Rattle.equations.proofs.Solving.{solves-cons, cons-solves}
use Rattle.equations.proofs.Unit.{length-unit}
use Rattle.elimination.specs.Tableau.{line, lines}
use Rattle.elimination.proofs.Basis.{Long, Zeros}
use Rattle.elimination.proofs.Turned.{dot-reverse}

-- ---- the form of the lines

pub long-lines : (m n k i : ℕ) (es : List Equation) → Shaped n es → Long (n + 1 + k) (lines m k i es)
long-lines m n k i [] shaped = tt
long-lines m n k i (e ∷ es) shaped =
    (length-reverse_aux e.coefficients _ ∙ omega (arith, length-unit k i), long-lines m n k (suc i) es shaped.1)

-- ---- an equation and its line, at a vector x with c behind it

-- x solves the equations with right sides c times as large
abbrev pub Holds : ℕ → ℕ → List Equation → List ℕ → Type 0
Holds m c [] x = Unit {0}
Holds m c (e ∷ es) x = Congruent m (dot e.coefficients x) (e.right * c) × Holds m c es x

module _ (m : ℕ) (pos : 0 < m) where
  line_at : (e : Equation) (carried x : List ℕ) (c : ℕ) → length e.coefficients ≡ length x
      → dot (line m e carried) (reverse_aux x (c ∷ [])) ≡ dot e.coefficients x + negative m e.right % m * c
  line_at e carried x c h =
      dot-reverse e.coefficients x (negative m e.right % m ∷ carried) (c ∷ []) h ∙ omega (arith, dot-nil carried)

  minus-zero : (b c : ℕ) → Congruent m (b * c + negative m b % m * c) 0
  minus-zero b c =
      congruent_trans {b = 0 + (b + negative m b % m) * c} (congruent_of_eq (omega arith))
      (congruent_absorb 0 c (negative-reduced m b pos))

  line_of_equation : (e : Equation) (carried x : List ℕ) (c : ℕ) → length e.coefficients ≡ length x
      → Congruent m (dot e.coefficients x) (e.right * c)
      → Congruent m (dot (line m e carried) (reverse_aux x (c ∷ []))) 0
  line_of_equation e carried x c h t =
      congruent_trans (congruent_of_eq (line_at e carried x c h))
      (congruent_trans (congruent_add t congruent_refl) (minus-zero e.right c))

  equation_of_line : (e : Equation) (carried x : List ℕ) (c : ℕ) → length e.coefficients ≡ length x
      → Congruent m (dot (line m e carried) (reverse_aux x (c ∷ []))) 0
      → Congruent m (dot e.coefficients x) (e.right * c)
  equation_of_line e carried x c h z =
      congruent_cancel (negative m e.right % m * c)
      (congruent_trans (congruent_sym (congruent_of_eq (line_at e carried x c h)))
      (congruent_trans z (congruent_sym (minus-zero e.right c))))

  module _ (n k c : ℕ) (x : List ℕ) (lx : length x ≡ n) where
    pub zeros_of_holds : (i : ℕ) (es : List Equation) → Shaped n es → Holds m c es x
        → Zeros m (lines m k i es) (reverse_aux x (c ∷ []))
    zeros_of_holds i [] shaped h = tt
    zeros_of_holds i (e ∷ es) shaped h =
        (line_of_equation e (unit k i) x c (shaped.0 ∙ sym lx) h.0, zeros_of_holds (suc i) es shaped.1 h.1)

    pub holds_of_zeros : (i : ℕ) (es : List Equation) → Shaped n es → Zeros m (lines m k i es) (reverse_aux x (c ∷ []))
        → Holds m c es x
    holds_of_zeros i [] shaped z = tt
    holds_of_zeros i (e ∷ es) shaped z =
        (equation_of_line e (unit k i) x c (shaped.0 ∙ sym lx) z.0, holds_of_zeros (suc i) es shaped.1 z.1)

-- ---- the test and what it stands for

pub holds_of_solves : (m : ℕ) (es : List Equation) (x : List ℕ) → T (solves m es x) → Holds m 1 es x
holds_of_solves m [] x t = tt
holds_of_solves m (e ∷ es) x t =
    let p = solves-cons m e es x t in
    (congruent_trans p.0 (congruent_of_eq (omega arith)), holds_of_solves m es x p.1)

pub solves_of_holds : (m : ℕ) (es : List Equation) (x : List ℕ) → Holds m 1 es x → T (solves m es x)
solves_of_holds m [] x h = tt
solves_of_holds m (e ∷ es) x h =
    cons-solves m e es x (congruent_trans h.0 (congruent_of_eq (omega arith))) (solves_of_holds m es x h.1)

pub holds_of_homogeneous : (m : ℕ) (es : List Equation) (x : List ℕ) → Holds m 1 (homogeneous es) x → Holds m 0 es x
holds_of_homogeneous m [] x h = tt
holds_of_homogeneous m (e ∷ es) x h =
    (congruent_trans h.0 (congruent_of_eq (omega arith)), holds_of_homogeneous m es x h.1)

pub homogeneous_of_holds : (m : ℕ) (es : List Equation) (x : List ℕ) → Holds m 0 es x → Holds m 1 (homogeneous es) x
homogeneous_of_holds m [] x h = tt
homogeneous_of_holds m (e ∷ es) x h =
    (congruent_trans h.0 (congruent_of_eq (omega arith)), homogeneous_of_holds m es x h.1)
