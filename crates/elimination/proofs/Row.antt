-- Row i of a good basis, taken apart.
--   RowAt, row_at                     pivot d, the entries r behind it, the rows after it, and m / d
--   row-quotient                      that last number is m / d, in the words of `pivot`
--   pivot_divides, pivot_positive     the pivot divides m and is not 0
--   tail_at                           the entries behind the pivot are residues
--   good_drop                         the rows from j on are a good basis
use mathlib.Core.Path.{◌≡◌, refl, sym, ap, ◌∙◌}
use mathlib.Core.List.{List, [], ◌∷◌}
use Prim.Native.Nat.{ℕ, zero, suc, ◌+◌, ◌*◌, ◌/◌, ◌<◌}
use native.Mathlib.Nat.{div-eq_of_eq-mul_right}
use native.Mathlib.Omega.{arith}
use lib.ListN.{length, drop}
use Rattle.residue.specs.Divides.{Divides}
use Rattle.residue.proofs.Divides.{factor_positive}
use Rattle.equations.specs.Vectors.{Below}
use Rattle.elimination.specs.Basis.{pivot}
use Rattle.elimination.proofs.Closure.{Good, good_tail}
use Rattle.elimination.proofs.Residues.{TailsBelow}

pub record RowAt (m k i : ℕ) (B : List (List ℕ)) : Type 0 where
  pub d : ℕ
  pub e : ℕ
  pub r : List ℕ
  pub rest : List (List ℕ)
  pub here : drop i B ≡ (d ∷ r) ∷ rest
  pub factor : m ≡ d * e
  pub pivot_is : pivot i B ≡ d
  pub long : length r ≡ length rest + k

pub row_at : (m k i : ℕ) (B : List (List ℕ)) → Good m k B → i < length B → RowAt m k i B
row_at m k i [] good h = absurd (omega arith)
row_at m k i ([] ∷ B) good h = absurd good.shape
row_at m k zero ((d ∷ r) ∷ B) good h = record {
  d = d;
  e = good.closure.0.e;
  r = r;
  rest = B;
  here = refl;
  factor = good.closure.0.factor;
  pivot_is = refl;
  long = good.shape.0;
}
row_at m k (suc i) ((d ∷ r) ∷ B) good h =
    let a = row_at m k i B (good_tail good) (omega arith) in
    record {
      d = a.d;
      e = a.e;
      r = a.r;
      rest = a.rest;
      here = a.here;
      factor = a.factor;
      pivot_is = a.pivot_is;
      long = a.long;
    }

pub row-quotient : (m k i : ℕ) (B : List (List ℕ)) → 0 < m → (a : RowAt m k i B) → m / pivot i B ≡ a.e
row-quotient m k i B pos a =
    ap (λ (d : ℕ). m / d) a.pivot_is
    ∙ div-eq_of_eq-mul_right (factor_positive m a.d a.e a.factor pos) a.factor

module _ (m k i : ℕ) (B : List (List ℕ)) (pos : 0 < m) (good : Good m k B) (at : i < length B) where
  pub pivot_divides : Divides (pivot i B) m
  pivot_divides =
      let a = row_at m k i B good at in
      record { quotient = a.e; eq = a.factor ∙ ap (λ (z : ℕ). z * a.e) (sym a.pivot_is) }

  pub pivot_positive : 0 < pivot i B
  pivot_positive = factor_positive m (pivot i B) pivot_divides.quotient pivot_divides.eq pos

pub tail_at : (m d i : ℕ) (r : List ℕ) (B rest : List (List ℕ)) → TailsBelow m B → drop i B ≡ (d ∷ r) ∷ rest → Below m r
tail_at m d zero r [] rest tails h = absurd (let z : ◌≡◌ {A = ℕ} 0 1 = cc in omega arith)
tail_at m d (suc i) r [] rest tails h = absurd (let z : ◌≡◌ {A = ℕ} 0 1 = cc in omega arith)
tail_at m d zero r ([] ∷ B) rest tails h = absurd (let z : ◌≡◌ {A = ℕ} 0 1 = cc in omega arith)
tail_at m d zero r ((d' ∷ r') ∷ B) rest tails h = let e : r' ≡ r = cc in rw e at tails.0
tail_at m d (suc i) r ([] ∷ B) rest tails h = tail_at m d i r B rest tails h
tail_at m d (suc i) r ((d' ∷ r') ∷ B) rest tails h = tail_at m d i r B rest tails.1 h

pub good_drop : (m k j : ℕ) (B : List (List ℕ)) → Good m k B → Good m k (drop j B)
good_drop m k zero B good = good
good_drop m k (suc j) [] good = record { shape = tt; closure = tt }
good_drop m k (suc j) ([] ∷ B) good = absurd good.shape
good_drop m k (suc j) ((d ∷ r) ∷ B) good = good_drop m k j B (good_tail good)
