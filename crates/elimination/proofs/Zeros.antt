-- A line that is put into a basis changes the points at which the basis is 0 by that line alone.
--   Shape, Sat       the form of a basis; its rows are 0 at X, each at the columns from its own on
--   length-insert, shape_insert   the form stays
--   sat_insert       where basis and line are 0, the new basis is: for X of any length
--   insert_sat       and back, for X that has the basis's columns and no carried one
--   sat_drop         the rows from j on, at the columns from j on
use mathlib.Core.Path.{◌≡◌, refl, sym, ap, ◌∙◌}
use mathlib.Core.List.{List, [], ◌∷◌}
use Prim.Native.Nat.{ℕ, zero, suc, ◌+◌, ◌*◌, ◌<◌}
use native.Mathlib.Omega.{arith}
use lib.ListN.{length, drop}
use Rattle.residue.specs.Congruent.{Congruent}
use Rattle.residue.proofs.Congruent.{congruent_of_eq, congruent_sym, congruent_trans, congruent_combine}
use Rattle.residue.proofs.Divides.{factor_positive}
use Rattle.equations.specs.Equation.{dot}
use Rattle.equations.proofs.Dot.{dot-nil, length-combine}
use Rattle.elimination.specs.Basis.{insert}
use Rattle.elimination.proofs.Unimodular.{row_zero, line-zero}
use Rattle.elimination.proofs.Step.{step_numbers, row-value, line-value}

-- behind its pivot, which is not 0, a row has the columns after its own and k carried ones
abbrev pub Shape : ℕ → List (List ℕ) → Type 0
Shape k [] = Unit {0}
Shape k ([] ∷ B) = ⊥
Shape k ((d ∷ r) ∷ B) = (length r ≡ length B + k) × (0 < d) × Shape k B

abbrev pub Sat : ℕ → List (List ℕ) → List ℕ → Type 0
Sat m [] X = Unit {0}
Sat m (r ∷ B) [] = ⊥
Sat m (r ∷ B) (x ∷ X) = Congruent m (dot r (x ∷ X)) 0 × Sat m B X

-- ---- the form

pub length-insert : (m : ℕ) (B : List (List ℕ)) (W : List ℕ) → length (insert m B W) ≡ length B
length-insert m [] W = refl
length-insert m ([] ∷ B) W = refl
length-insert m ((d ∷ r) ∷ B) [] = refl
length-insert m ((d ∷ r) ∷ B) (zero ∷ W) = ap suc (length-insert m B W)
length-insert m ((d ∷ r) ∷ B) (suc v ∷ W) = ap suc (length-insert m B _)

pub shape_insert : (m k : ℕ) (B : List (List ℕ)) (W : List ℕ) → 0 < m → Shape k B → length W ≡ length B + k
    → Shape k (insert m B W)
shape_insert m k [] W pos shape len = tt
shape_insert m k ([] ∷ B) W pos shape len = absurd shape
shape_insert m k ((d ∷ r) ∷ B) [] pos shape len = shape
shape_insert m k ((d ∷ r) ∷ B) (zero ∷ W) pos shape len = (
  shape.0 ∙ ap (λ (z : ℕ). z + k) (sym (length-insert m B W)),
  shape.1,
  shape_insert m k B W pos shape.2 (omega arith),
)
shape_insert m k ((d ∷ r) ∷ B) (suc v ∷ W) pos shape len =
    let N = step_numbers m d (suc v) pos shape.1 in
    let e : length r ≡ length W = omega arith in (
      length-combine m _ _ r W e ∙ shape.0 ∙ ap (λ (z : ℕ). z + k) (sym (length-insert m B _)),
      factor_positive d _ N.q N.row shape.1,
      shape_insert m k B _ pos shape.2 (length-combine m _ _ r W e ∙ shape.0),
    )

-- ---- the zeros

pub sat_insert : (m k : ℕ) (B : List (List ℕ)) (W X : List ℕ) → 0 < m → Shape k B → length W ≡ length B + k
    → Sat m B X → Congruent m (dot W X) 0 → Sat m (insert m B W) X
sat_insert m k [] W X pos shape len sat h = tt
sat_insert m k ([] ∷ B) W X pos shape len sat h = sat
sat_insert m k ((d ∷ r) ∷ B) [] X pos shape len sat h = sat
sat_insert m k ((d ∷ r) ∷ B) (zero ∷ W) [] pos shape len sat h = sat
sat_insert m k ((d ∷ r) ∷ B) (zero ∷ W) (x ∷ X) pos shape len sat h = (
  sat.0,
  sat_insert m k B W X pos shape.2 (omega arith) sat.1
      (congruent_trans (congruent_of_eq (omega arith)) h),
)
sat_insert m k ((d ∷ r) ∷ B) (suc v ∷ W) [] pos shape len sat h = sat
sat_insert m k ((d ∷ r) ∷ B) (suc v ∷ W) (x ∷ X) pos shape len sat h =
    let N = step_numbers m d (suc v) pos shape.1 in
    let e : length r ≡ length W = omega arith in (
      congruent_trans (row-value N x r W X e) (congruent_combine _ _ sat.0 h),
      sat_insert m k B _ X pos shape.2 (length-combine m _ _ r W e ∙ shape.0) sat.1
          (congruent_trans (line-value N x r W X e) (congruent_combine _ _ sat.0 h)),
    )

pub insert_sat : (m k : ℕ) (B : List (List ℕ)) (W X : List ℕ) → 0 < m → Shape k B → length W ≡ length B + k
    → length X ≡ length B
    → Sat m (insert m B W) X → Sat m B X × Congruent m (dot W X) 0
insert_sat m k [] W [] pos shape len lx sat = (tt, congruent_of_eq (dot-nil W))
insert_sat m k [] W (x ∷ X) pos shape len lx sat = absurd (omega arith)
insert_sat m k ([] ∷ B) W X pos shape len lx sat = absurd shape
insert_sat m k ((d ∷ r) ∷ B) [] X pos shape len lx sat = absurd (omega arith)
insert_sat m k ((d ∷ r) ∷ B) (w ∷ W) [] pos shape len lx sat = absurd (omega arith)
insert_sat m k ((d ∷ r) ∷ B) (zero ∷ W) (x ∷ X) pos shape len lx sat =
    let ih = insert_sat m k B W X pos shape.2 (omega arith) (omega arith) sat.1 in
    ((sat.0, ih.0), congruent_trans (congruent_of_eq (omega arith)) ih.1)
insert_sat m k ((d ∷ r) ∷ B) (suc v ∷ W) (x ∷ X) pos shape len lx sat =
    let N = step_numbers m d (suc v) pos shape.1 in
    let e : length r ≡ length W = omega arith in
    let ih = insert_sat m k B _ X pos shape.2 (length-combine m _ _ r W e ∙ shape.0) (omega arith) sat.1 in
    let h = congruent_trans (congruent_sym (row-value N x r W X e)) sat.0 in
    let g = congruent_trans (congruent_sym (line-value N x r W X e)) ih.1 in
    let R = d * x + dot r X in let L = suc v * x + dot W X in
    ((row_zero R L N.unimodular h g, ih.0), line-zero R L N.unimodular h g)

pub sat_drop : (m j : ℕ) (B : List (List ℕ)) (X : List ℕ) → Sat m B X → Sat m (drop j B) (drop j X)
sat_drop m zero B X sat = sat
sat_drop m (suc j) [] X sat = tt
sat_drop m (suc j) (r ∷ B) [] sat = absurd sat
sat_drop m (suc j) (r ∷ B) (x ∷ X) sat = sat_drop m j B X sat.1
