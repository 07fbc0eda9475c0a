-- Where nothing solves the equations, the multipliers refute them, `multipliers_refute`: one residue for each equation,
-- zero coefficients, and a right side that is not 0. The coefficients come from the points with a single 1 and the
-- constant 0, the right side from the point with zeros and the constant 1.
use mathlib.Core.Path.{◌≡◌, refl, sym, ap, ap₂, ◌∙◌}
use mathlib.Core.Logic.{◌⊎◌, inl, inr}
use mathlib.Core.List.{List, [], ◌∷◌, map}
use mathlib.Core.Option.{none, none-ne-some}
use Prim.Native.Nat.{ℕ, suc, ◌+◌, ◌*◌, ◌%◌, ◌<◌}
use native.Mathlib.Nat.{add-zero}
use native.Mathlib.Omega.{arith}
use lib.ListN.{length, drop, get_or, replicate, length-replicate}
use lib.Seq.{drop-cons, get_or-drop}
use lib.Dec.{T}
use Rattle.residue.specs.Congruent.{Congruent}
use Rattle.residue.specs.Negative.{negative}
use Rattle.residue.proofs.Congruent.{congruent_of_eq, congruent_sym, congruent_trans, congruent_add, congruent_small}
use Rattle.residue.proofs.Divides.{factor_positive, factor_or_below}
use Rattle.residue.proofs.Negative.{negative-reduced}
use Rattle.equations.specs.Vectors.{unit}
use Rattle.equations.specs.Equation.{Equation, dot, Shaped}
use Rattle.equations.specs.Answer.{start_of}
use Rattle.equations.specs.Multipliers.{column, rights, refutes}
use Rattle.equations.proofs.Dot.{dot_comm, dot_zeros_right}
use Rattle.equations.proofs.Multipliers.{refutes_is}
use Rattle.equations.proofs.Unit.{length-unit}
use Rattle.elimination.specs.Tableau.{tableau}
use Rattle.elimination.specs.Multipliers.{multipliers_of}
use Rattle.elimination.specs.Multipliers.Row.{multipliers-row}
use Rattle.elimination.proofs.Row.{RowAt, tail_at}
use Rattle.elimination.proofs.Tableau.{tableau-below}
use Rattle.elimination.proofs.Answer.{row_of, last_row, answer_start}
use Rattle.elimination.proofs.Carried.{dot_carried, value_at, sum-zero, carried_value}

-- ---- sums over the equations

dot-unit-right : (a : List ℕ) (n c : ℕ) → length a ≡ n → c < n → dot a (unit n c) ≡ get_or a c 0
dot-unit-right a n c h l =
    dot_comm a (unit n c) ∙ dot_carried n c a (drop (suc c) a) (get_or a c 0) l (drop-cons a c 0 (omega arith))

same_sum : (n : ℕ) (f g : Equation → ℕ) (ks : List ℕ) (es : List Equation) → Shaped n es
    → ((e : Equation) → length e.coefficients ≡ n → f e ≡ g e) → dot ks (map f es) ≡ dot ks (map g es)
same_sum n f g [] es shaped h = refl
same_sum n f g (a ∷ ks) [] shaped h = refl
same_sum n f g (a ∷ ks) (e ∷ es) shaped h =
    ap₂ ◌+◌ (ap (λ (z : ℕ). a * z) (h e shaped.0)) (same_sum n f g ks es shaped.1 h)

-- ---- the columns and the right side

module _ (m n : ℕ) (es : List Equation) (pos : 0 < m) (shaped : Shaped n es)
    (d : ℕ) (ks : List ℕ) (last : drop n (tableau m n (length es) es) ≡ (d ∷ ks) ∷ []) where
  -- the point with a 1 at place c and the constant 0
  column-zero : (c : ℕ) → c < n → Congruent m (dot ks (column c es)) 0
  column-zero c l =
      congruent_trans
      (congruent_of_eq
      (sym
      (same_sum n (value_at m (unit n c) 0) (λ e. get_or e.coefficients c 0) ks es shaped
      (λ e h. omega (arith, dot-unit-right e.coefficients n c h l)))))
      (congruent_trans (carried_value m n es pos shaped d ks last (unit n c) 0 (length-unit n c))
      (congruent_of_eq (omega arith)))

  -- the point with zeros and the constant 1
  minus-rights : Congruent m (dot ks (map (λ e. negative m e.right % m) es)) d
  minus-rights =
      congruent_trans
      (congruent_of_eq
      (sym
      (same_sum n (value_at m (replicate n 0) 1) (λ e. negative m e.right % m) ks es shaped
      (λ e h. omega (arith, dot_zeros_right e.coefficients n)))))
      (congruent_trans (carried_value m n es pos shaped d ks last (replicate n 0) 1 (length-replicate n 0))
      (congruent_of_eq (omega arith)))

  rights_nonzero : 0 < d → d < m → Congruent m (dot ks (rights es)) 0 → ⊥
  rights_nonzero dpos below r =
      let minus : Equation → ℕ = λ e. negative m e.right % m in
      let both = sum-zero m (λ e. e.right) minus ks es (λ e. negative-reduced m e.right pos) in
      let z : d ≡ 0 =
      congruent_small below pos
      (congruent_trans (congruent_of_eq {b = 0 + d} (omega arith))
      (congruent_trans (congruent_add (congruent_sym r) (congruent_sym minus-rights)) both))
      in
      omega arith

-- ---- the multipliers

get_row : (i : ℕ) (B rest : List (List ℕ)) (r : List ℕ) → drop i B ≡ r ∷ rest → get_or B i [] ≡ r
get_row i B rest r h =
    ap (λ (k : ℕ). get_or B k []) (sym (add-zero i)) ∙ sym (get_or-drop i B 0 [])
    ∙ ap (λ (R : List (List ℕ)). get_or R 0 []) h

module _ (m n : ℕ) (es : List Equation) (pos : 0 < m) (shaped : Shaped n es) where
  abbrev Last : Type 0
  Last = RowAt m (length es) n (tableau m n (length es) es)

  is_tail : (a : Last) → multipliers_of m n es ≡ a.r
  is_tail a =
      multipliers-row m n es ∙ ap (drop 1) (get_row n (tableau m n (length es) es) a.rest (a.d ∷ a.r) a.here)

  refute_by : (a : Last) → a.d < m → T (refutes m n es a.r)
  refute_by a below =
      let last = last_row m n (length es) es pos shaped a in
      let dpos = factor_positive m a.d a.e a.factor pos in
      (refutes_is m n es a.r).1
      (record {
        one_each = omega (arith, a.long, ap length (sym a.here ∙ last));
        below =
            tail_at m a.d n a.r (tableau m n (length es) es) a.rest
            (tableau-below m n (length es) es pos shaped) a.here;
        columns = column-zero m n es pos shaped a.d a.r last;
        right = rights_nonzero m n es pos shaped a.d a.r last dpos below;
      })

  pub multipliers_refute : start_of m n es ≡ none → T (refutes m n es (multipliers_of m n es))
  multipliers_refute unsolved = go (row_of m n (length es) es pos shaped n (omega arith))
    where
      at : (a : Last) → (a.d ≡ m) ⊎ (a.d < m) → T (refutes m n es a.r)
      at a (inl e) =
          absurd (none-ne-some _ (sym unsolved ∙ answer_start m n (length es) es pos shaped (a.pivot_is ∙ e)))
      at a (inr below) = refute_by a below

      go : Last → T (refutes m n es (multipliers_of m n es))
      go a = rw (is_tail a) (at a (factor_or_below m a.d a.e pos a.factor))
