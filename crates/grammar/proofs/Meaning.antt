-- A linear tree's value at v is the sum of its coefficients times the entries of v, plus its plain number, mod m.
--   minus_one_lem             what m - 1 does: (m - 1)·x + x = x·m
--   length-coefficients   there are n of them
--   dot_two               a combination of the coefficients of two trees
--   value-linear          the law of the title
use mathlib.Core.Path.{◌≡◌, refl, sym, ◌∙◌}
use mathlib.Core.Bool.{true, false, not, ◌&&◌}
use mathlib.Core.List.{List}
use Prim.Native.Nat.{ℕ, zero, suc, ◌+◌, ◌-◌, ◌*◌, ◌%◌, ◌<◌}
use native.Mathlib.Omega.{arith}
use borrow.Author.Tests.{ltb-true}
use lib.ListN.{length, get_or, length-replicate}
use lib.IntN.{ℤ}
use Rattle.residue.specs.Congruent.{Congruent}
use Rattle.residue.proofs.Congruent.{congruent_of, congruent_of_eq, congruent_refl, congruent_sym, congruent_trans, congruent_add, congruent_mul, congruent_mod, congruent_combine}
use Rattle.residue.proofs.Whole.{Leaves, leaves_on, leaves_number, leaves_negative, leaves_sum, leaves_difference, leaves_product}
use Rattle.equations.specs.Vectors.{combine}
use Rattle.equations.specs.Equation.{dot}
use Rattle.equations.proofs.Dot.{dot_zeros, length-combine, dot-combine}
use Rattle.equations.proofs.Unit.{length-unit, dot-unit}
use Rattle.grammar.specs.Tree.{Tree, number, unknown, minus, sum, difference, product}
use Rattle.grammar.specs.Meaning.{value}
use Rattle.grammar.specs.Linear.{has_unknown, within, linear, minus_one, constant, coefficients}
use Rattle.grammar.proofs.Tests.{both_left, both_right, or_left, or_right, not_both}

-- ---- minus one

pub minus_one_lem : (m x : ℕ) → 0 < m → minus_one m * x + x ≡ x * m
minus_one_lem zero x pos = absurd (omega arith)
minus_one_lem (suc m) x pos = let e : suc m - 1 ≡ m = omega arith in rw e (omega arith)

-- hence (m - 1)·x stands for -x
opposite : (m x : ℕ) → 0 < m → Congruent m (minus_one m * x + x) 0
opposite m x pos = congruent_of 0 x (omega (arith, minus_one_lem m x pos))

-- ---- coefficients

module _ (m n : ℕ) where
  pub length-coefficients : (t : Tree) → length (coefficients m n t) ≡ n
  length-coefficients (number k) = length-replicate n 0
  length-coefficients (unknown j) = length-unit n j
  length-coefficients (minus t) = length-combine m (minus_one m) 0 (coefficients m n t) (coefficients m n t) refl
      ∙ length-coefficients t
  length-coefficients (sum a b) =
      length-combine m 1 1 (coefficients m n a) (coefficients m n b) (length-coefficients a ∙ sym (length-coefficients b))
      ∙ length-coefficients a
  length-coefficients (difference a b) =
      length-combine m 1 (minus_one m) (coefficients m n a) (coefficients m n b)
      (length-coefficients a ∙ sym (length-coefficients b))
      ∙ length-coefficients a
  length-coefficients (product a b) =
      length-combine m (constant m a) (constant m b) (coefficients m n b) (coefficients m n a)
      (length-coefficients b ∙ sym (length-coefficients a))
      ∙ length-coefficients b

  -- the sum of a combination of the coefficients of two trees
  pub dot_two : (s t : ℕ) (a b : Tree) (v : List ℕ)
      → Congruent m (dot (combine m s t (coefficients m n a) (coefficients m n b)) v)
      (s * dot (coefficients m n a) v + t * dot (coefficients m n b) v)
  dot_two s t a b v =
      dot-combine m s t (coefficients m n a) (coefficients m n b) v (length-coefficients a ∙ sym (length-coefficients b))

  module _ (v : List ℕ) where
    -- two trees without unknowns
    none_two : (s t : ℕ) (a b : Tree) → Congruent m (dot (coefficients m n a) v) 0 → Congruent m
        (dot (coefficients m n b) v) 0
        → Congruent m (dot (combine m s t (coefficients m n a) (coefficients m n b)) v) 0
    none_two s t a b h k = congruent_trans (dot_two s t a b v) (congruent_combine s t h k)

    pub coefficients-none : (t : Tree) → has_unknown t ≡ false → Congruent m (dot (coefficients m n t) v) 0
    coefficients-none (number k) h = congruent_of_eq (dot_zeros n v)
    coefficients-none (unknown j) h = let z : ◌≡◌ {A = ℕ} 0 1 = cc in absurd (omega arith)
    coefficients-none (minus t) h = let k = coefficients-none t h in none_two (minus_one m) 0 t t k k
    coefficients-none (sum a b) h =
        none_two 1 1 a b (coefficients-none a (or_left _ _ h)) (coefficients-none b (or_right (has_unknown a) _ h))
    coefficients-none (difference a b) h =
        none_two 1 (minus_one m) a b (coefficients-none a (or_left _ _ h))
        (coefficients-none b (or_right (has_unknown a) _ h))
    coefficients-none (product a b) h =
        none_two (constant m a) (constant m b) b a (coefficients-none b (or_right (has_unknown a) _ h))
        (coefficients-none a (or_left _ _ h))

    -- ---- values

    -- d + c where d counts for nothing is a number, and multiplies e + k
    scaled : (d e c k : ℕ) → Congruent m d 0 → Congruent m ((d + c) * (e + k)) (c * e + k * d + c * k)
    scaled d e c k none =
        congruent_trans (congruent_mul (congruent_add none (congruent_refl {a = c})) (congruent_refl {a = e + k}))
        (congruent_trans (congruent_of_eq (omega arith))
        (congruent_add (congruent_add (congruent_refl {a = c * e}) (congruent_sym (congruent_mul (congruent_refl {a = k}) none)))
        (congruent_refl {a = c * k})))

    module _ (pos : 0 < m) where
      -- what is put together of y, which coefficients that give d stand for, and of c
      assemble : {x : ℤ} {r d : ℕ} (y c : ℕ) → Leaves m x r → Congruent m r (y + c) → Congruent m d y
          → Leaves m x (d + c % m)
      assemble y c h same k =
          leaves_on h (congruent_trans same (congruent_add (congruent_sym k) (congruent_sym (congruent_mod m c))))

      -- what a tree's coefficients and number say of its value
      abbrev Says : Tree → Type 0
      Says t = Leaves m (value v t) (dot (coefficients m n t) v + constant m t)

      number-says : (k : ℕ) → Says (number k)
      number-says k =
          leaves_on (leaves_number k)
          (congruent_trans (congruent_sym (congruent_mod m k)) (congruent_of_eq (omega (arith, dot_zeros n v))))

      minus-says : (t : Tree) → Says t → Says (minus t)
      minus-says t h =
          let d = dot (coefficients m n t) v in let c = constant m t in
          assemble (minus_one m * d + 0 * d) (minus_one m * c)
          (leaves_negative (minus_one m * (d + c)) h (opposite m (d + c) pos))
          (congruent_of_eq (omega arith)) (dot_two (minus_one m) 0 t t v)

      sum-says : (a b : Tree) → Says a → Says b → Says (sum a b)
      sum-says a b h k =
          assemble (1 * dot (coefficients m n a) v + 1 * dot (coefficients m n b) v) (constant m a + constant m b)
          (leaves_sum h k) (congruent_of_eq (omega arith)) (dot_two 1 1 a b v)

      difference-says : (a b : Tree) → Says a → Says b → Says (difference a b)
      difference-says a b h k =
          let e = dot (coefficients m n b) v in let c = constant m b in
          assemble (1 * dot (coefficients m n a) v + minus_one m * e) (constant m a + minus_one m * c)
          (leaves_difference (minus_one m * (e + c)) h k (opposite m (e + c) pos))
          (congruent_of_eq (omega arith)) (dot_two 1 (minus_one m) a b v)

      product-says : (a b : Tree) → not (has_unknown a && has_unknown b) ≡ true → Says a → Says b → Says (product a b)
      product-says a b one h k =
          assemble (c * e + l * d) (c * l) (leaves_product h k) expanded (dot_two c l b a v)
        where
          d : ℕ
          d = dot (coefficients m n a) v

          e : ℕ
          e = dot (coefficients m n b) v

          c : ℕ
          c = constant m a

          l : ℕ
          l = constant m b

          expanded : Congruent m ((d + c) * (e + l)) (c * e + l * d + c * l)
          expanded =
              not_both (has_unknown a) (has_unknown b) one (λ none. scaled d e c l (coefficients-none a none))
              (λ none.
              congruent_trans (congruent_of_eq (omega arith))
              (congruent_trans (scaled e d l c (coefficients-none b none)) (congruent_of_eq (omega arith))))

      pub value-linear : (t : Tree) → within n t ≡ true → linear t ≡ true → Says t
      value-linear (number k) i l = number-says k
      value-linear (unknown j) i l =
          leaves_on (leaves_number (get_or v j 0)) (congruent_of_eq (omega (arith, dot-unit n j v (ltb-true j n i))))
      value-linear (minus t) i l = minus-says t (value-linear t i l)
      value-linear (sum a b) i l =
          sum-says a b (value-linear a (both_left _ _ i) (both_left _ _ l))
          (value-linear b (both_right (within n a) _ i) (both_right (linear a) _ l))
      value-linear (difference a b) i l =
          difference-says a b (value-linear a (both_left _ _ i) (both_left _ _ l))
          (value-linear b (both_right (within n a) _ i) (both_right (linear a) _ l))
      value-linear (product a b) i l =
          let parts = both_left (linear a && linear b) _ l in
          product-says a b (both_right (linear a && linear b) _ l)
          (value-linear a (both_left _ _ i) (both_left _ _ parts))
          (value-linear b (both_right (within n a) _ i) (both_right (linear a) _ parts))
