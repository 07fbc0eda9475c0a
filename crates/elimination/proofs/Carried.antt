-- The carried columns of the constant's row d ∷ ks: multiplied by ks, the equations add up to d in the constant's
-- column. Proof: take the point with the vector x, the constant's entry y, and behind them minus the value of each
-- equation there. Every line is 0 at it, so the row is.
--   dot_carried                 the carried columns pick one entry
--   value_at, carried_value      Σ ks·(value at x, y) ≡ d·y for every x and y
--   sum-zero                    sums of pairs that cancel
use mathlib.Core.Path.{◌≡◌, refl, sym, ap, ◌∙◌}
use mathlib.Core.List.{List, [], ◌∷◌, reverse_aux, map}
use Prim.Native.Nat.{ℕ, suc, ◌+◌, ◌*◌, ◌%◌, ◌<◌}
use native.Mathlib.Numerals.{add-one}
use native.Mathlib.Omega.{arith}
use lib.ListN.{length, drop, get_or, length-reverse_aux}
use lib.Seq.{drop-drop, get_or-drop}
use Rattle.residue.specs.Congruent.{Congruent}
use Rattle.residue.specs.Negative.{negative}
use Rattle.residue.proofs.Congruent.{congruent_of_eq, congruent_refl, congruent_sym, congruent_trans, congruent_add, congruent_mul, congruent_cancel}
use Rattle.residue.proofs.Negative.{negative_is}
use Rattle.equations.specs.Vectors.{unit}
use Rattle.equations.specs.Equation.{Equation, dot, Shaped}
use Rattle.equations.proofs.Unit.{dot-unit}
use Rattle.elimination.specs.Tableau.{lines, tableau}
use Rattle.elimination.proofs.Zeros.{Sat, sat_drop}
use Rattle.elimination.proofs.Basis.{Zeros, sat_basis}
use Rattle.elimination.proofs.Turned.{dot-reverse, drop-reverse}
use Rattle.elimination.proofs.Lines.{long-lines}

drop-next : (i : ℕ) (Y Z : List ℕ) (y : ℕ) → drop i Y ≡ y ∷ Z → drop (suc i) Y ≡ Z
drop-next i Y Z y h = ap (λ (k : ℕ). drop k Y) (sym (add-one i)) ∙ sym (drop-drop 1 i Y) ∙ ap (drop 1) h

pub dot_carried : (k i : ℕ) (Y Z : List ℕ) (y : ℕ) → i < k → drop i Y ≡ y ∷ Z → dot (unit k i) Y ≡ y
dot_carried k i Y Z y h e =
    dot-unit k i Y h ∙ sym (get_or-drop i Y 0 0 ∙ ap (λ (j : ℕ). get_or Y j 0) (none i)) ∙ ap (λ (l : List ℕ). get_or l 0 0) e
  where
    none : (i : ℕ) → i + 0 ≡ i
    none i = omega arith

-- ---- all lines are 0 at the point

-- an equation's value at (x, y): its sum minus its right side y times
abbrev pub value_at : ℕ → List ℕ → ℕ → Equation → ℕ
value_at m x y e = dot e.coefficients x + negative m e.right % m * y

abbrev minus_at : ℕ → List ℕ → ℕ → Equation → ℕ
minus_at m x y e = negative m (value_at m x y e)

module _ (m n k : ℕ) (pos : 0 < m) (x : List ℕ) (y : ℕ) (lx : length x ≡ n) (C : List ℕ) where
  zeros_at : (i : ℕ) (es : List Equation) → Shaped n es → i + length es ≡ k → drop i C ≡ map (minus_at m x y) es
      → Zeros m (lines m k i es) (reverse_aux x (y ∷ C))
  zeros_at i [] shaped h e = tt
  zeros_at i (q ∷ es) shaped h e = (
    congruent_trans
        (congruent_of_eq
        (dot-reverse q.coefficients x (negative m q.right % m ∷ unit k i) (y ∷ C) (shaped.0 ∙ sym lx)
        ∙ omega (arith, dot_carried k i C (map (minus_at m x y) es) (minus_at m x y q) (omega arith) e)))
        (negative_is m (value_at m x y q) pos),
    zeros_at (suc i) es shaped.1 (omega arith) (drop-next i C _ _ e),
  )

pub sum-zero : (m : ℕ) (f g : Equation → ℕ) (ks : List ℕ) (es : List Equation)
    → ((e : Equation) → Congruent m (f e + g e) 0)
    → Congruent m (dot ks (map f es) + dot ks (map g es)) 0
sum-zero m f g [] es h = congruent_of_eq (omega arith)
sum-zero m f g (a ∷ ks) [] h = congruent_of_eq (omega arith)
sum-zero m f g (a ∷ ks) (e ∷ es) h =
    congruent_trans {b = a * (f e + g e) + (dot ks (map f es) + dot ks (map g es))} (congruent_of_eq (omega arith))
    (congruent_trans (congruent_add (congruent_mul (congruent_refl {a = a}) (h e)) (sum-zero m f g ks es h))
    (congruent_of_eq (omega arith)))

module _ (m n : ℕ) (es : List Equation) (pos : 0 < m) (shaped : Shaped n es)
    (d : ℕ) (ks : List ℕ) (last : drop n (tableau m n (length es) es) ≡ (d ∷ ks) ∷ []) where
  pub carried_value : (x : List ℕ) (y : ℕ) → length x ≡ n → Congruent m (dot ks (map (value_at m x y) es)) (d * y)
  unfolding tableau
  carried_value x y lx =
      congruent_cancel (dot ks C)
      (congruent_trans (sum-zero m (value_at m x y) (minus_at m x y) ks es (λ e. negative_is m (value_at m x y e) pos))
      (congruent_sym row.0))
    where
      k : ℕ
      k = length es

      C : List ℕ
      C = map (minus_at m x y) es

      sat : Sat m (tableau m n (length es) es) (reverse_aux x (y ∷ C))
      sat =
          sat_basis m (n + 1) k pos (lines m k 0 es) (reverse_aux x (y ∷ C)) (long-lines m n k 0 es shaped)
          (omega (arith, length-reverse_aux x (y ∷ C))) (zeros_at m n k pos x y lx C 0 es shaped (omega arith) refl)

      row : Sat m ((d ∷ ks) ∷ []) (y ∷ C)
      row =
          rw (last, drop-reverse n 0 x (y ∷ C) (omega arith)) at
          (sat_drop m n (tableau m n (length es) es) (reverse_aux x (y ∷ C)) sat)
