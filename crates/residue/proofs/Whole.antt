-- Whole numbers mod m, by numbers that are not negative.
--   plus_part, minus_part     what a whole number has on either side of 0
--   Leaves                  x leaves what r leaves, mod m
--   leaves_number, leaves_negative, leaves_sum, leaves_difference, leaves_product   so do numbers made of others
--   leaves_on               r can be any number congruent to it
--   whole_congruent         x ≡ y (mod m) exactly where what they leave is congruent
use mathlib.Core.Path.{◌≡◌, refl, sym, ap, subst}
use mathlib.Core.Logic.{◌↔◌}
use mathlib.Core.Bool.{Bool, true, false, cond}
use Prim.Native.Nat.{ℕ, zero, suc, ◌+◌, ◌-◌, ◌*◌, ◌<◌, ◌≤◌}
use native.Mathlib.Omega.{arith}
use borrow.Author.Tests.{ltb-true, ltb-false}
use lib.Dec.{ltb}
use lib.IntN.{ℤ, pos, negsuc, neg_ℤ, sub_ℕ, ◌+ℤ◌, ◌-ℤ◌, ◌*ℤ◌}
use Rattle.residue.specs.Congruent.{Congruent}
use Rattle.residue.specs.Whole.{CongruentWhole}
use Rattle.residue.proofs.Congruent.{congruent_of, congruent_witness, congruent_of_eq, congruent_refl, congruent_sym, congruent_trans, congruent_add, congruent_mul, congruent_cancel}

-- ---- whole numbers as differences

abbrev pub plus_part : ℤ → ℕ
plus_part (pos a) = a
plus_part (negsuc a) = 0

abbrev pub minus_part : ℤ → ℕ
minus_part (pos a) = 0
minus_part (negsuc a) = suc a

-- x is p - q
record Is (x : ℤ) (p q : ℕ) : Type 0 where
  pub eq : plus_part x + q ≡ p + minus_part x

is_unique : (x y : ℤ) {p q : ℕ} → Is x p q → Is y p q → x ≡ y
is_unique (pos a) (pos b) h k = ap pos (omega (arith, h.eq, k.eq))
is_unique (pos a) (negsuc b) h k = absurd (omega (arith, h.eq, k.eq))
is_unique (negsuc a) (pos b) h k = absurd (omega (arith, h.eq, k.eq))
is_unique (negsuc a) (negsuc b) h k = ap negsuc (omega (arith, h.eq, k.eq))

is_sub : (a b : ℕ) → Is (sub_ℕ a b) a b
is_sub a b = by (ltb a b) refl
  where
    by : (t : Bool) → ltb a b ≡ t → Is (cond t (negsuc (b - suc a)) (pos (a - b))) a b
    by true e = let less : a < b = ltb-true a b e in record { eq = omega arith }
    by false e = let least : b ≤ a = ltb-false a b e in record { eq = omega arith }

is_negative : (x : ℤ) → Is (neg_ℤ x) (minus_part x) (plus_part x)
is_negative (pos zero) = record { eq = refl }
is_negative (pos (suc a)) = record { eq = omega arith }
is_negative (negsuc a) = record { eq = omega arith }

is_sum : (x y : ℤ) → Is (x +ℤ y) (plus_part x + plus_part y) (minus_part x + minus_part y)
is_sum (pos a) (pos b) = record { eq = omega arith }
is_sum (pos a) (negsuc b) = record { eq = omega (arith, (is_sub a (suc b)).eq) }
is_sum (negsuc a) (pos b) = record { eq = omega (arith, (is_sub b (suc a)).eq) }
is_sum (negsuc a) (negsuc b) = record { eq = omega arith }

is_product : (x y : ℤ)
    → Is (x *ℤ y) (plus_part x * plus_part y + minus_part x * minus_part y) (plus_part x * minus_part y + minus_part x * plus_part y)
is_product (pos a) (pos b) = record { eq = omega arith }
is_product (pos a) (negsuc b) = record { eq = omega (arith, (is_negative (pos (a * suc b))).eq) }
is_product (negsuc a) (pos b) = record { eq = omega (arith, (is_negative (pos (suc a * b))).eq) }
is_product (negsuc a) (negsuc b) = record { eq = omega arith }

-- ---- what they leave mod m

pub record Leaves (m : ℕ) (x : ℤ) (r : ℕ) : Type 0 where
  pub same : Congruent m (plus_part x) (r + minus_part x)

module _ {m : ℕ} where
  -- x is p - q, and p leaves what r + q leaves
  leaves_of : {x : ℤ} {p q r : ℕ} → Is x p q → Congruent m p (r + q) → Leaves m x r
  leaves_of {x} {p} {q} {r} is h =
      record {
        same =
            congruent_cancel q
            (congruent_trans (congruent_of_eq is.eq)
            (congruent_trans (congruent_add h (congruent_refl {a = minus_part x})) (congruent_of_eq (omega arith))));
      }

  pub leaves_number : (k : ℕ) → Leaves m (pos k) k
  leaves_number k = record { same = congruent_of_eq (omega arith) }

  pub leaves_on : {x : ℤ} {r s : ℕ} → Leaves m x r → Congruent m r s → Leaves m x s
  leaves_on {x} h k = record { same = congruent_trans h.same (congruent_add k (congruent_refl {a = minus_part x})) }

  -- s + r leaves 0
  pub leaves_negative : {x : ℤ} {r : ℕ} (s : ℕ) → Leaves m x r → Congruent m (s + r) 0 → Leaves m (neg_ℤ x) s
  leaves_negative {x} {r} s h zeros =
      leaves_of (is_negative x)
      (congruent_sym
      (congruent_trans (congruent_add (congruent_refl {a = s}) h.same)
      (congruent_trans (congruent_of_eq (omega arith))
      (congruent_trans (congruent_add zeros (congruent_refl {a = minus_part x})) (congruent_of_eq (omega arith))))))

  pub leaves_sum : {x y : ℤ} {r s : ℕ} → Leaves m x r → Leaves m y s → Leaves m (x +ℤ y) (r + s)
  leaves_sum {x} {y} {r} {s} h k =
      leaves_of (is_sum x y) (congruent_trans (congruent_add h.same k.same) (congruent_of_eq (omega arith)))

  pub leaves_difference : {x y : ℤ} {r s : ℕ} (t : ℕ) → Leaves m x r → Leaves m y s → Congruent m (t + s) 0
      → Leaves m (x -ℤ y) (r + t)
  leaves_difference t h k zeros = leaves_sum h (leaves_negative t k zeros)

  pub leaves_product : {x y : ℤ} {r s : ℕ} → Leaves m x r → Leaves m y s → Leaves m (x *ℤ y) (r * s)
  leaves_product {x} {y} {r} {s} h k =
      let a = minus_part x in let b = minus_part y in
      leaves_of (is_product x y)
      (congruent_trans (congruent_add (congruent_mul h.same k.same) (congruent_refl {a = a * b}))
      (congruent_trans (congruent_of_eq (omega arith))
      (congruent_add (congruent_refl {a = r * s})
      (congruent_sym (congruent_add (congruent_mul h.same (congruent_refl {a = b})) (congruent_mul (congruent_refl {a = a}) k.same))))))

-- ---- congruence

module _ (m : ℕ) (x y : ℤ) where
  -- y and a multiple of m, in ℕ
  stepped : (d : ℤ) → plus_part (y +ℤ d *ℤ pos m) + minus_part y + minus_part d * m
      ≡ plus_part y + minus_part (y +ℤ d *ℤ pos m) + plus_part d * m
  stepped d = omega (arith, (is_product d (pos m)).eq, (is_sum y (d *ℤ pos m)).eq)

  crossed : CongruentWhole m x y → Congruent m (plus_part x + minus_part y) (plus_part y + minus_part x)
  crossed c =
      let d = c.times in
      subst (λ (z : ℤ). Congruent m (plus_part z + minus_part y) (plus_part y + minus_part z)) (sym c.eq)
      (congruent_of (minus_part d) (plus_part d) (stepped d))

  apart : Congruent m (plus_part x + minus_part y) (plus_part y + minus_part x) → CongruentWhole m x y
  apart c =
      let w = congruent_witness c in
      let d = sub_ℕ w.l w.k in
      let many : plus_part d * m + w.k * m ≡ w.l * m + minus_part d * m =
      omega (arith, ap (λ (z : ℕ). z * m) (is_sub w.l w.k).eq) in
      record {
        times = d;
        eq = is_unique x (y +ℤ d *ℤ pos m) (record { eq = refl }) (record { eq = omega (arith, stepped d, many, w.eq) });
      }

  pub whole_congruent : {r s : ℕ} → Leaves m x r → Leaves m y s → CongruentWhole m x y ↔ Congruent m r s
  whole_congruent {r} {s} h k = (
    λ c.
        congruent_cancel (minus_part x + minus_part y)
        (congruent_trans (congruent_of_eq (omega arith))
        (congruent_trans (congruent_add (congruent_sym h.same) (congruent_refl {a = minus_part y}))
        (congruent_trans (crossed c)
        (congruent_trans (congruent_add k.same (congruent_refl {a = minus_part x})) (congruent_of_eq (omega arith)))))),
    λ c.
        apart
        (congruent_trans (congruent_add h.same (congruent_refl {a = minus_part y}))
        (congruent_trans (congruent_of_eq (omega arith))
        (congruent_trans (congruent_add (congruent_add c (congruent_refl {a = minus_part y})) (congruent_refl {a = minus_part x}))
        (congruent_add (congruent_sym k.same) (congruent_refl {a = minus_part x}))))),
  )
