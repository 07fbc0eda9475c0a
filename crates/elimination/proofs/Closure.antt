-- The closure of a basis: where all rows after a row are 0, m / d times that row is 0, d its pivot. So a multiple of a
-- row that kills its pivot is made of the rows after it, and no column has to be looked at twice.
--   Closed, Closure      of one row, and of all; with it, that the pivot divides m
--   Good                 the form of a basis and its closure
--   good_insert          an insertion keeps both
--   good_tail            and so does leaving off the first row
use mathlib.Core.Path.{◌≡◌, ap, ◌∙◌}
use mathlib.Core.List.{List, [], ◌∷◌}
use Prim.Native.Nat.{ℕ, zero, suc, ◌+◌, ◌*◌, ◌<◌}
use native.Mathlib.Nat.{mul_assoc}
use native.Mathlib.Omega.{arith}
use lib.ListN.{length}
use Rattle.residue.specs.Congruent.{Congruent}
use Rattle.residue.proofs.Congruent.{congruent_of_eq, congruent_refl, congruent_sym, congruent_trans, congruent_mul, congruent_absorb}
use Rattle.equations.specs.Vectors.{combine}
use Rattle.equations.specs.Equation.{dot}
use Rattle.equations.proofs.Dot.{length-combine, dot-combine}
use Rattle.elimination.specs.Step.{step_of}
use Rattle.elimination.specs.Basis.{insert}
use Rattle.elimination.proofs.Unimodular.{Unimodular, row_back}
use Rattle.elimination.proofs.Step.{step_numbers}
use Rattle.elimination.proofs.Zeros.{Shape, Sat, length-insert, shape_insert, insert_sat}

-- of the row d ∷ r above the rows B; e is m / d
pub record Closed (m d : ℕ) (r : List ℕ) (B : List (List ℕ)) : Type 0 where
  pub e : ℕ
  pub factor : m ≡ d * e
  pub zero : (X : List ℕ) → length X ≡ length B → Sat m B X → Congruent m (e * dot r X) 0

abbrev pub Closure : ℕ → List (List ℕ) → Type 0
Closure m [] = Unit {0}
Closure m ([] ∷ B) = ⊥
Closure m ((d ∷ r) ∷ B) = Closed m d r B × Closure m B

pub record Good (m k : ℕ) (B : List (List ℕ)) : Type 0 where
  pub shape : Shape k B
  pub closure : Closure m B

-- R and L are the values of row and line, N that of the new row:
-- (m / g)·N is made of (m / d)·R and the new line's value
closed-step : {m q p s t n : ℕ} (e R L N : ℕ) → Unimodular m q p s t n
    → Congruent m N (s * R + t * L) → Congruent m (p * R + n * L) 0 → Congruent m (e * R) 0 → Congruent m (q * e * N) 0
closed-step {m} {q} {p} {s} {t} {n} e R L N u new line row =
    congruent_trans (congruent_mul (congruent_refl {a = q * e}) new)
    (congruent_trans {b = e * (q * (s * R + t * L))} (congruent_of_eq (omega arith))
    (congruent_trans
    (congruent_mul (congruent_refl {a = e})
    (congruent_trans (congruent_sym (congruent_absorb (q * (s * R + t * L)) t line))
    (congruent_trans (congruent_of_eq (omega arith)) (row_back R L u))))
    row))

closure_insert : (m k : ℕ) (B : List (List ℕ)) (W : List ℕ) → 0 < m → Shape k B → length W ≡ length B + k
    → Closure m B → Closure m (insert m B W)
closure_insert m k [] W pos shape len closure = tt
closure_insert m k ([] ∷ B) W pos shape len closure = absurd closure
closure_insert m k ((d ∷ r) ∷ B) [] pos shape len closure = closure
closure_insert m k ((d ∷ r) ∷ B) (zero ∷ W) pos shape len closure =
    let lw : length W ≡ length B + k = omega arith in (
      record {
        e = closure.0.e;
        factor = closure.0.factor;
        zero = λ X lx sat.
            let lb = lx ∙ length-insert m B W in
            closure.0.zero X lb (insert_sat m k B W X pos shape.2 lw lb sat).0;
      },
      closure_insert m k B W pos shape.2 lw closure.1,
    )
closure_insert m k ((d ∷ r) ∷ B) (suc v ∷ W) pos shape len closure =
    let N = step_numbers m d (suc v) pos shape.1 in
    let x = step_of m d (suc v) in
    let e : length r ≡ length W = omega arith in
    let rest = combine m x.p x.n r W in
    let lr : length rest ≡ length B + k = length-combine m _ _ r W e ∙ shape.0 in (
      record {
        e = N.q * closure.0.e;
        factor =
            closure.0.factor ∙ ap (λ (z : ℕ). z * closure.0.e) N.row ∙ mul_assoc x.g N.q closure.0.e;
        zero = λ X lx sat.
            let lb = lx ∙ length-insert m B rest in
            let before = insert_sat m k B rest X pos shape.2 lr lb sat in
            closed-step closure.0.e (dot r X) (dot W X) _ N.unimodular (dot-combine m _ _ r W X e)
            (congruent_trans (congruent_sym (dot-combine m _ _ r W X e)) before.1)
            (closure.0.zero X lb before.0);
      },
      closure_insert m k B rest pos shape.2 lr closure.1,
    )

pub good_insert : (m k : ℕ) (B : List (List ℕ)) (W : List ℕ) → 0 < m → Good m k B → length W ≡ length B + k
    → Good m k (insert m B W)
good_insert m k B W pos good len = record {
  shape = shape_insert m k B W pos good.shape len;
  closure = closure_insert m k B W pos good.shape len good.closure;
}

pub good_tail : {m k d : ℕ} {r : List ℕ} {B : List (List ℕ)} → Good m k ((d ∷ r) ∷ B) → Good m k B
good_tail good = record { shape = good.shape.2; closure = good.closure.1 }
