-- Back substitution finds, column by column, the least entry that makes the row 0, so the whole is the least in the
-- order in which the last entry counts first.
--   place-zero, place-least, place-below   one column: the entry makes the row 0, is the least, and is a residue
--   length-extend, drop-extend, below-extend   the form of the result
--   sat_extend              all rows are 0 there, if those behind the first j columns are
--   Colex, extend-least     it is the least such point
use mathlib.Core.Path.{◌≡◌, sym, ◌∙◌}
use mathlib.Core.Logic.{◌⊎◌, inl, inr}
use mathlib.Core.List.{List, [], ◌∷◌}
use Prim.Native.Nat.{ℕ, zero, suc, ◌+◌, ◌*◌, ◌%◌, ◌≤◌, ◌<◌}
use native.Mathlib.Nat.{mod-lt, mod-eq_of_lt, mod-le, div-le_of_le-mul, div-le_self, eq-or-lt_of_le, mul_comm, lt_of_le_of_lt}
use native.Mathlib.Omega.{arith}
use lib.ListN.{length, take, drop}
use Rattle.residue.specs.Congruent.{Congruent}
use Rattle.residue.specs.Negative.{negative}
use Rattle.residue.proofs.Congruent.{congruent_of_eq, congruent_refl, congruent_sym, congruent_trans, congruent_add, congruent_cancel, congruent_zero, congruent_down}
use Rattle.residue.proofs.Divides.{factor_cancel}
use Rattle.residue.proofs.Negative.{negative-reduced}
use Rattle.equations.specs.Equation.{dot}
use Rattle.equations.specs.Vectors.{Below}
use Rattle.elimination.specs.Substitution.{place, fit, extend}
use Rattle.elimination.proofs.Zeros.{Sat}
use Rattle.elimination.proofs.Closure.{Closure}

-- ---- one column: R is the sum of the terms that are known

module _ (m d e R : ℕ) (pos : 0 < m) (factor : m ≡ d * e) where
  minus-zero : Congruent m (negative m R % m + R) 0
  minus-zero = congruent_trans (congruent_of_eq (omega arith)) (negative-reduced m R pos)

  pub place-zero : Congruent m (e * R) 0 → Congruent m (d * place m d R + R) 0
  unfolding place
  place-zero h =
      let z : Congruent d (negative m R % m) 0 =
      congruent_trans
      (congruent_trans (congruent_of_eq (omega arith))
      (congruent_add (congruent_refl {a = negative m R % m})
      (congruent_sym (factor_cancel e d R pos (factor ∙ mul_comm d e) h))))
      (congruent_down d e factor minus-zero)
      in
      congruent_trans (congruent_add (congruent_of_eq (mul_comm d _ ∙ sym (congruent_zero z))) congruent_refl)
      minus-zero

  pub place-least : (x : ℕ) → Congruent m (d * x + R) 0 → place m d R ≤ x
  unfolding place
  place-least x h =
      let z = congruent_trans minus-zero (congruent_sym h) in
      let s : Congruent m (negative m R % m) (d * x) = congruent_cancel R z in
      let t : negative m R % m ≡ d * x % m = sym (mod-eq_of_lt (mod-lt (negative m R) pos)) ∙ s.same in
      div-le_of_le-mul d (omega (arith, t, mod-le (d * x) m))

pub place-below : (m d R : ℕ) → 0 < m → place m d R < m
unfolding place
place-below m d R pos = lt_of_le_of_lt (div-le_self (negative m R % m) d) (mod-lt (negative m R) pos)

fit-below : (m : ℕ) (r Y : List ℕ) → 0 < m → fit m r Y < m
fit-below m [] Y pos = pos
fit-below m (d ∷ r) Y pos = place-below m d (dot r Y) pos

-- ---- all columns: the form

pub length-extend : (m j : ℕ) (B : List (List ℕ)) (S : List ℕ) → j ≤ length B → length (extend m j B S) ≡ j + length S
length-extend m zero B S h = omega arith
length-extend m (suc j) [] S h = absurd (omega arith)
length-extend m (suc j) (r ∷ B) S h = omega (arith, length-extend m j B S (omega arith))

pub drop-extend : (m j c i : ℕ) (B : List (List ℕ)) (S : List ℕ) → j ≤ length B → i ≡ j + c
    → drop i (extend m j B S) ≡ drop c S
drop-extend m zero c i B S h e = let f : i ≡ c = omega arith in rw f
drop-extend m (suc j) c i [] S h e = absurd (omega arith)
drop-extend m (suc j) c zero (r ∷ B) S h e = absurd (omega arith)
drop-extend m (suc j) c (suc i) (r ∷ B) S h e = drop-extend m j c i B S (omega arith) (omega arith)

-- the first j entries are residues, so the first j + c are if c entries of S are
pub below-extend : (m j c i : ℕ) (B : List (List ℕ)) (S : List ℕ) → 0 < m → j ≤ length B → i ≡ j + c
    → Below m (take c S) → Below m (take i (extend m j B S))
below-extend m zero c i B S pos h e below = let f : i ≡ c = omega arith in rw f below
below-extend m (suc j) c i [] S pos h e below = absurd (omega arith)
below-extend m (suc j) c zero (r ∷ B) S pos h e below = absurd (omega arith)
below-extend m (suc j) c (suc i) (r ∷ B) S pos h e below =
    (fit-below m r (extend m j B S) pos, below-extend m j c i B S pos (omega arith) (omega arith) below)

-- ---- all columns: the zeros and the order

pub sat_extend : (m j : ℕ) (B : List (List ℕ)) (S : List ℕ) → 0 < m → Closure m B → length S + j ≡ length B
    → Sat m (drop j B) S → Sat m B (extend m j B S)
sat_extend m zero B S pos closure h sat = sat
sat_extend m (suc j) [] S pos closure h sat = absurd (omega arith)
sat_extend m (suc j) ([] ∷ B) S pos closure h sat = absurd closure
sat_extend m (suc j) ((d ∷ r) ∷ B) S pos closure h sat =
    let Y = extend m j B S in
    let rest = sat_extend m j B S pos closure.1 (omega arith) sat in (
      place-zero m d closure.0.e (dot r Y) pos closure.0.factor
          (closure.0.zero Y (length-extend m j B S (omega arith) ∙ omega arith) rest),
      rest,
    )

abbrev pub Colex : List ℕ → List ℕ → Type 0
Colex [] w = ⊥
Colex (x ∷ v) [] = ⊥
Colex (x ∷ v) (y ∷ w) = Colex v w ⊎ ((v ≡ w) × (x < y))

pub extend-least : (m j : ℕ) (B : List (List ℕ)) (S Z : List ℕ) → 0 < m → Closure m B → length S + j ≡ length B
    → Sat m B Z → drop j Z ≡ S → (extend m j B S ≡ Z) ⊎ Colex (extend m j B S) Z
extend-least m zero B S Z pos closure h sat e = inl (sym e)
extend-least m (suc j) [] S Z pos closure h sat e = absurd (omega arith)
extend-least m (suc j) ([] ∷ B) S Z pos closure h sat e = absurd closure
extend-least m (suc j) ((d ∷ r) ∷ B) S [] pos closure h sat e = absurd sat
extend-least m (suc j) ((d ∷ r) ∷ B) S (z ∷ Z) pos closure h sat e =
    go (extend-least m j B S Z pos closure.1 (omega arith) sat.1 e)
  where
    Y : List ℕ
    Y = extend m j B S

    x : ℕ
    x = place m d (dot r Y)

    least : Y ≡ Z → x ≤ z
    least same = place-least m d closure.0.e (dot r Y) pos closure.0.factor z (rw same sat.0)

    at : Y ≡ Z → (x ≡ z) ⊎ (x < z) → (◌≡◌ {A = List ℕ} (x ∷ Y) (z ∷ Z)) ⊎ Colex (x ∷ Y) (z ∷ Z)
    at same (inl a) = inl (cc)
    at same (inr a) = inr (inr (same, a))

    go : (Y ≡ Z) ⊎ Colex Y Z → (◌≡◌ {A = List ℕ} (x ∷ Y) (z ∷ Z)) ⊎ Colex (x ∷ Y) (z ∷ Z)
    go (inl same) = at same (eq-or-lt_of_le (least same))
    go (inr before) = inr (inl before)
