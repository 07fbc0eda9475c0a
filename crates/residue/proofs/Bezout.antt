-- What cofactors are good for. `cofactors_bezout`: the divisor of a pair divides both, and the cofactors make the
-- quotients' combination 1 mod m. The induction follows Euclid's chain and keeps the statement for the quotients, since
-- cofactors of the pair reduced mod m would give it mod m / g only.
use mathlib.Core.Path.{◌≡◌, ap}
use Prim.Native.Nat.{ℕ, suc, ◌+◌, ◌-◌, ◌*◌, ◌/◌, ◌%◌, ◌<◌}
use native.Mathlib.Nat.{div-add-mod', mod-lt, zero-lt-suc, sub-add_cancel}
use native.Mathlib.Omega.{arith}
use Rattle.residue.specs.Congruent.{Congruent}
use Rattle.residue.proofs.Induction.{euclid_induction}
use Rattle.residue.specs.Gcd.{gcd, gcd-zero, gcd-step}
use Rattle.residue.specs.Bezout.{cofactors}
use Rattle.residue.specs.Bezout.Steps.{cofactors-zero, cofactors-step}
use Rattle.residue.proofs.Congruent.{congruent_of, congruent_of_eq, congruent_refl, congruent_trans, congruent_add, congruent_mul, congruent_mod}

-- g divides a and b, with quotients q and p, and s·q + t·p ≡ 1
pub record Bezout (m a b g s t : ℕ) : Type 0 where
  pub q : ℕ
  pub p : ℕ
  pub left : a ≡ g * q
  pub right : b ≡ g * p
  pub one : Congruent m (s * q + t * p) 1
  pub s-small : s < m
  pub t-small : t < m

one_kept : (m s t u q p k : ℕ) → u + t ≡ m → t * (k * q + p) + (s + k * u) * q + 0 * m ≡ s * q + t * p + k * q * m
one_kept m s t u q p k h = omega (arith, ap (λ (z : ℕ). z * (k * q)) h)

left-kept : (a b g q p k r : ℕ) → k * b + r ≡ a → b ≡ g * q → r ≡ g * p → a ≡ g * (k * q + p)
left-kept a b g q p k r h i j = omega (arith, ap (λ (z : ℕ). k * z) i)

bezout_last : (m a g : ℕ) → 0 < m → g ≡ a → Bezout m a 0 g (1 % m) 0
bezout_last m a g pos h = record {
  q = 1;
  p = 0;
  left = h';
  right = omega arith;
  one = congruent_trans (congruent_of_eq {b = 1 % m} (omega arith)) (congruent_mod m 1);
  s-small = mod-lt 1 pos;
  t-small = pos;
}
  where
    h' : a ≡ g * 1
    h' = omega (arith, h)

bezout_next : (m a b g s t : ℕ) → 0 < m
    → Bezout m (suc b) (a % suc b) g s t → Bezout m a (suc b) g t ((s + (a / suc b) * (m - t)) % m)
bezout_next m a b g s t pos h = record {
  q = a / suc b * h.q + h.p;
  p = h.q;
  left = left-kept a (suc b) g h.q h.p (a / suc b) (a % suc b) (div-add-mod' a (suc b)) h.left h.right;
  right = h.left;
  one =
      congruent_trans
      (congruent_add congruent_refl (congruent_mul (congruent_mod m (s + a / suc b * (m - t))) congruent_refl))
      (congruent_trans
      (congruent_of 0 (a / suc b * h.q)
      (one_kept m s t (m - t) h.q h.p (a / suc b) (sub-add_cancel (omega (arith, h.t-small)))))
      h.one);
  s-small = h.t-small;
  t-small = mod-lt _ pos;
}

pub cofactors_bezout : (m a b : ℕ) → 0 < m → Bezout m a b (gcd a b) (cofactors m a b).s (cofactors m a b).t
cofactors_bezout m a b pos =
    euclid_induction (λ a b. Bezout m a b (gcd a b) (cofactors m a b).s (cofactors m a b).t) last next a b
  where
    last : (a : ℕ) → Bezout m a 0 (gcd a 0) (cofactors m a 0).s (cofactors m a 0).t
    last a = rw (cofactors-zero m a) (bezout_last m a (gcd a 0) pos (gcd-zero a))

    next : (a b : ℕ)
        → Bezout m (suc b) (a % suc b) (gcd (suc b) (a % suc b))
        (cofactors m (suc b) (a % suc b)).s (cofactors m (suc b) (a % suc b)).t
        → Bezout m a (suc b) (gcd a (suc b)) (cofactors m a (suc b)).s (cofactors m a (suc b)).t
    next a b h =
        rw (gcd-step a (suc b) (zero-lt-suc b), cofactors-step m a (suc b) (zero-lt-suc b))
        (bezout_next m a b _ _ _ pos h)
