-- Cofactors computed forward along Euclid's chain. A cofactor z of the pair that the chain began with is s·u − t·v,
-- where s and t are the cofactors of the pair (x, y) that it has come to, and the column (u, v) is made of natural
-- numbers: it is t·v − s·u after an odd number of divisions. The sum v·x + u·y stays what it was, so the column
-- stays small.
--   column-first, column_second   the two columns that the chain begins with
--   column-step                   one division
--   column-given                  b divided by a, for a below b: two divisions, and the first has the quotient 0
--   column_end, column-quotient   the cofactor at the end of the chain, and the quotient of the sum by the divisor
use mathlib.Core.Bool.{Bool, true, false, not, cond, not-not}
use mathlib.Core.Path.{◌≡◌, sym, ap, ◌∙◌}
use Prim.Native.Nat.{ℕ, ◌+◌, ◌-◌, ◌*◌, ◌/◌, ◌%◌, ◌<◌}
use native.Mathlib.Nat.{div-add-mod', sub-add_cancel, mod-eq_of_lt, div-eq_of_lt, div-eq_of_eq-mul_left, le_of_lt}
use native.Mathlib.Omega.{arith}
use Rattle.residue.specs.Congruent.{Congruent}
use Rattle.residue.specs.Negative.{negative}
use Rattle.residue.specs.Bezout.{Cofactors, cofactors}
use Rattle.residue.specs.Bezout.Steps.{cofactors-zero, cofactors-step}
use Rattle.residue.proofs.Bezout.{cofactors_bezout}
use Rattle.residue.proofs.Congruent.{congruent_of, congruent_of_eq, congruent_refl, congruent_sym, congruent_trans, congruent_add, congruent_mul, congruent_mod}
use Rattle.residue.proofs.Negative.{negative-unique}

abbrev Signed : Bool → ℕ → ℕ → ℕ → ℕ → ℕ → ℕ → Type 0
Signed false m z s t u v = Congruent m (z + t * v) (s * u)
Signed true m z s t u v = Congruent m (z + s * u) (t * v)

pub record Column (odd : Bool) (m sum z x y u v : ℕ) : Type 0 where
  pub value : Signed odd m z (cofactors m x y).s (cofactors m x y).t u v
  pub size : v * x + u * y ≡ sum

pub column-first : (m a b : ℕ) → Column false m b (cofactors m a b).s a b 1 0
column-first m a b = record { value = congruent_of_eq (omega arith); size = omega arith }

pub column_second : (m a b : ℕ) → Column true m a (cofactors m a b).t a b 0 1
column_second m a b = record { value = congruent_of_eq (omega arith); size = omega arith }

signed_step : (odd : Bool) (m z s t q s' t' u v : ℕ) → s ≡ t' → Congruent m (t + q * t') s'
    → Signed odd m z s t u v → Signed (not odd) m z s' t' v (u + q * v)
signed_step false m z s t q s' t' u v e h g =
    congruent_trans {b = z + (t + q * t') * v}
    (congruent_add congruent_refl (congruent_mul (congruent_sym h) congruent_refl))
    (congruent_trans {b = z + t * v + q * t' * v} (congruent_of_eq (omega arith))
    (congruent_trans (congruent_add g congruent_refl) (congruent_of_eq (rw e (omega arith)))))
signed_step true m z s t q s' t' u v e h g =
    congruent_trans {b = z + s * u + q * t' * v} (congruent_of_eq (rw e (omega arith)))
    (congruent_trans (congruent_add g congruent_refl)
    (congruent_trans {b = (t + q * t') * v} (congruent_of_eq (omega arith)) (congruent_mul h congruent_refl)))

-- t + q·t' ≡ s' for t = s' − q·t', taken mod m
next_cofactor : (m s q t : ℕ) → t < m → Congruent m ((s + q * (m - t)) % m + q * t) s
next_cofactor m s q t small =
    congruent_trans (congruent_add (congruent_mod m (s + q * (m - t))) congruent_refl)
    (congruent_of 0 q (go (m - t) (sub-add_cancel (le_of_lt small))))
  where
    go : (n : ℕ) → n + t ≡ m → s + q * n + q * t + 0 * m ≡ s + q * m
    go n e = omega (arith, ap (λ (w : ℕ). q * w) e)

size_step : (x y u v sum q r : ℕ) → q * y + r ≡ x → v * x + u * y ≡ sum → (u + q * v) * y + v * r ≡ sum
size_step x y u v sum q r e h = omega (arith, ap (λ (w : ℕ). v * w) e)

pub column-step : (odd : Bool) {m sum z x y u v : ℕ} → 0 < m → 0 < y
    → Column odd m sum z x y u v → Column (not odd) m sum z y (x % y) v (u + x / y * v)
column-step odd {m} {sum} {z} {x} {y} {u} {v} pos h c =
    let e = cofactors-step m x y h in
    let rest = cofactors m y (x % y) in
    record {
      value = signed_step odd m z _ _ (x / y) rest.s rest.t u v (ap (λ (k : Cofactors). k.s) e)
          (rw (ap (λ (k : Cofactors). k.t) e)
          (next_cofactor m rest.s (x / y) rest.t (cofactors_bezout m y (x % y) pos).t-small))
          c.value;
      size = size_step x y u v sum (x / y) (x % y) (div-add-mod' x y) c.size;
    }

pub column-given : (odd : Bool) {m sum z a b u v : ℕ} → 0 < m → 0 < a → a < b
    → Column odd m sum z a b u v → Column odd m sum z a (b % a) u (v + b / a * u)
column-given odd {m} {sum} {z} {a} {b} {u} {v} pos h small c =
    rw (not-not odd) at (column-step (not odd) pos h swapped)
  where
    swapped : Column (not odd) m sum z b a v u
    swapped =
        let e : u + a / b * v ≡ u = rw (div-eq_of_lt small) (omega arith) in
        rw (e, mod-eq_of_lt small) at (column-step odd pos (omega arith) c)

times-one : (m u : ℕ) → Congruent m (1 % m * u) u
times-one m u =
    congruent_trans (congruent_mul (congruent_mod m 1) congruent_refl) (congruent_of_eq {a = 1 * u} (omega arith))

pub column_end : (odd : Bool) {m sum z x u v : ℕ} → z < m → Column odd m sum z x 0 u v
    → z ≡ cond odd (negative m u % m) (u % m)
column_end false {m} {sum} {z} {x} {u} {v} small c =
    let h : Congruent m (z + 0 * v) (1 % m * u) = rw (cofactors-zero m x) at c.value in
    sym (mod-eq_of_lt small)
    ∙ (congruent_trans {b = z + 0 * v} (congruent_of_eq (omega arith)) (congruent_trans h (times-one m u))).same
column_end true {m} {sum} {z} {x} {u} {v} small c =
    let h : Congruent m (z + 1 % m * u) (0 * v) = rw (cofactors-zero m x) at c.value in
    sym (mod-eq_of_lt small)
    ∙ (negative-unique m u (omega arith)
    (congruent_trans (congruent_add congruent_refl (congruent_sym (times-one m u)))
    (congruent_trans h (congruent_of_eq (omega arith))))).same

pub column-quotient : {odd : Bool} {m sum z x u v : ℕ} → 0 < x → Column odd m sum z x 0 u v → v ≡ sum / x
column-quotient {u = u} h c = sym (div-eq_of_eq-mul_left h (omega (arith, c.size)))
