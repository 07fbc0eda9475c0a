-- The step at place j, with i columns before it in the tableau, from the row there with pivot d: back substitution from
-- m / d and zeros gives the first vector that leads at j, and there is none where m / d is m.
--   step-solves, step-length     it solves the equations with right sides put to 0, and has n entries
--   step_point                   its point
--   step_divides                 what leads at j and solves them has there a multiple of m / d
--   step-first, step-none        it is the step, or there is none
use mathlib.Core.Path.{◌≡◌, refl, sym, ap, ◌∙◌}
use mathlib.Core.Logic.{◌⊎◌, inl, inr}
use mathlib.Core.List.{List, [], ◌∷◌, reverse_aux}
use mathlib.Core.Option.{none, some}
use Prim.Native.Nat.{ℕ, suc, ◌+◌, ◌*◌, ◌≤◌, ◌<◌}
use native.Mathlib.Nat.{mul_comm, eq-or-lt_of_le}
use native.Mathlib.Omega.{arith}
use lib.ListN.{length, drop, length-drop, replicate, length-replicate, length-reverse_aux}
use lib.Dec.{T}
use mir.Facts.{and_yes, yes_and}
use Rattle.residue.specs.Divides.{Divides}
use Rattle.residue.proofs.Congruent.{congruent_of, congruent_of_eq, congruent_trans}
use Rattle.residue.proofs.Divides.{factor_positive, factor_cancel, divides_le, divides_of_congruent}
use Rattle.equations.specs.Vectors.{Vector}
use Rattle.equations.specs.Equation.{Equation, solves, homogeneous, Shaped}
use Rattle.equations.specs.Answer.{leads_at, is_step, step_at}
use Rattle.equations.proofs.Truth.{false_of}
use Rattle.equations.proofs.Dot.{dot_zeros_right}
use Rattle.equations.proofs.Vectors.{vector-length, vector-below, below_zeros}
use Rattle.equations.proofs.First.{first-none}
use Rattle.equations.proofs.Unit.{take_zeros}
use Rattle.elimination.specs.Substitution.{extend}
use Rattle.elimination.specs.Tableau.{turned, tableau, tableau_step}
use Rattle.elimination.proofs.Zeros.{Sat, sat_drop}
use Rattle.elimination.proofs.Closure.{Closure}
use Rattle.elimination.proofs.Substitution.{Colex, length-extend, drop-extend, sat_extend, extend-least}
use Rattle.elimination.proofs.Turned.{extend_point, extend-vector, length-turned, first_colex}
use Rattle.elimination.proofs.Tableau.{length-tableau, good_tableau, sat_homogeneous, homogeneous-solves}
use Rattle.elimination.proofs.Leading.{sat_zeros, drop_zeros, Leading, leading_point, leads_turned, colex_drop}

module _ (m n k : ℕ) (es : List Equation) (pos : 0 < m) (shaped : Shaped n es) (i j : ℕ) (places : i + suc j ≡ n)
    (d e : ℕ) (r : List ℕ) (rest : List (List ℕ)) (here : drop i (tableau m n k es) ≡ (d ∷ r) ∷ rest)
    (factor : m ≡ d * e) where
  abbrev B : List (List ℕ)
  B = tableau m n k es

  abbrev S : List ℕ
  S = e ∷ replicate (suc j) 0

  abbrev Y : List ℕ
  Y = extend m i B S

  abbrev v : List ℕ
  v = tableau_step m i j B e

  long : length B ≡ n + 1
  long = length-tableau m n k es pos shaped

  closure : Closure m B
  closure = (good_tableau m n k es pos shaped).closure

  length_S : length S ≡ suc (suc j)
  length_S = ap suc (length-replicate (suc j) 0)

  -- ---- the step's own point

  is_turned : v ≡ turned n Y []
  unfolding tableau_step
  is_turned = ap (λ (z : ℕ). turned z Y []) places

  pub step_point : reverse_aux (tableau_step m i j (tableau m n k es) e) (0 ∷ [])
      ≡ extend m i (tableau m n k es) (e ∷ replicate (suc j) 0)
  step_point = rw is_turned (extend_point m n i (suc j) 0 B S pos (omega (arith, long)) (sym places) (drop_zeros j))

  pub step-length : length (tableau_step m i j (tableau m n k es) e) ≡ n
  step-length =
      ap length is_turned
      ∙ length-turned n Y [] (omega (arith, length-extend m i B S (omega (arith, long)), length_S)) ∙ omega arith

  vector : e < m → Vector m n v
  vector lt =
      rw is_turned
      (extend-vector m n i (suc j) 0 B S pos (omega (arith, long)) (sym places) (drop_zeros j)
      (lt, rw (take_zeros j (suc j) (omega arith)) (below_zeros m j pos)))

  sat_S : Sat m (drop i B) S
  sat_S =
      rw here (
        congruent_of 0 1 (omega (arith, dot_zeros_right r (suc j))),
        sat_zeros m rest (suc j) (omega (arith, ap length here, length-drop i B, long)),
      )

  pub step-solves : T (solves m (homogeneous es) (tableau_step m i j (tableau m n k es) e))
  step-solves =
      homogeneous-solves m n k es pos shaped v step-length
      (rw step_point (sat_extend m i B S pos closure (omega (arith, long, length_S)) sat_S))

  leads : T (leads_at j v)
  leads =
      rw is_turned
      (leads_turned n i j e Y [] (sym places) (factor_positive m e d (factor ∙ mul_comm d e) pos)
      (drop-extend m i 0 i B S (omega (arith, long)) (omega arith)))

  -- ---- any other that leads at j

  pub step_divides : (w : List ℕ) (c : ℕ) → Sat m (tableau m n k es) (reverse_aux w (0 ∷ []))
      → drop i (reverse_aux w (0 ∷ [])) ≡ c ∷ replicate (suc j) 0 → Divides e c
  step_divides w c sat point =
      divides_of_congruent
      (factor_cancel d e c pos factor
      (congruent_trans (congruent_of_eq (omega (arith, dot_zeros_right r (suc j)))) at.0))
    where
      at : Sat m ((d ∷ r) ∷ rest) (c ∷ replicate (suc j) 0)
      at = rw (here, point) at (sat_drop m i B (reverse_aux w (0 ∷ [])) sat)

  module _ (w : List ℕ) (wv : Vector m n w) (t : T (is_step m es j w)) where
    sat_w : Sat m B (reverse_aux w (0 ∷ []))
    sat_w =
        sat_homogeneous m n k es pos shaped w (vector-length m n w wv)
        (and_yes (solves m (homogeneous es) w) (leads_at j w) t).0

    lead : Leading m i (suc j) (reverse_aux w (0 ∷ []))
    lead =
        leading_point m i j 1 (suc j) w (vector-length m n w wv ∙ sym places) (omega arith) (vector-below m n w wv)
        (and_yes (solves m (homogeneous es) w) (leads_at j w) t).1

    step-least : e ≤ lead.c
    step-least = divides_le lead.positive (step_divides w lead.c sat_w lead.point)

    least : (reverse_aux v (0 ∷ []) ≡ reverse_aux w (0 ∷ [])) ⊎ Colex (reverse_aux v (0 ∷ [])) (reverse_aux w (0 ∷ []))
    least = rw step_point (go (eq-or-lt_of_le step-least))
      where
        go : (e ≡ lead.c) ⊎ (e < lead.c) → (Y ≡ reverse_aux w (0 ∷ [])) ⊎ Colex Y (reverse_aux w (0 ∷ []))
        go (inl q) =
            extend-least m i B S (reverse_aux w (0 ∷ [])) pos closure (omega (arith, long, length_S)) sat_w
            (lead.point ∙ ap (λ (z : ℕ). z ∷ replicate (suc j) 0) (sym q))
        go (inr q) =
            inr
            (colex_drop i Y _ (omega (arith, length-extend m i B S (omega (arith, long))))
            (omega (arith, length-reverse_aux w (0 ∷ []), vector-length m n w wv))
            (rw (drop-extend m i 0 i B S (omega (arith, long)) (omega arith), lead.point) (inr (refl, q))))

  -- ---- the step, or none

  pub step-first : e < m → step_at m n es j ≡ some (tableau_step m i j (tableau m n k es) e)
  unfolding step_at
  step-first lt =
      first_colex m n (is_step m es j) v 0 (vector lt)
      (yes_and (solves m (homogeneous es) v) (leads_at j v) step-solves leads) least

  pub step-none : e ≡ m → step_at m n es j ≡ none
  unfolding step_at
  step-none q =
      first-none m n (is_step m es j)
      (λ w wv. false_of _ (λ t. omega (arith, step-least w wv t, (lead w wv t).below)))
