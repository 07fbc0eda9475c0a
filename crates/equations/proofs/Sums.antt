-- Sums over consecutive numbers, for counting.
--   sum             f x + f (x + 1) + .., k of them
--   sum_cong        equal terms
--   sum-none        terms that are 0
--   sum_single      all terms but one are 0
--   sum-append      a sum in two parts
--   sum_rotate      over all residues y the order is free: y + a mod m instead of y
--   sum-multiples   e multiples of d below e·d
use mathlib.Core.Path.{◌≡◌, refl, ap, ap₂, ◌∙◌, sym}
use mathlib.Core.Logic.{◌⊎◌, inl, inr}
use mathlib.Core.Bool.{true, false}
use Prim.Native.Nat.{ℕ, zero, suc, ◌+◌, ◌-◌, ◌*◌, ◌%◌, ◌≤◌, ◌<◌}
use native.Mathlib.Nat.{mod-eq_of_lt, lt_of_mul-lt-mul_right}
use native.Mathlib.Omega.{arith}
use lib.Dec.{eqb}
use borrow.Author.Tests.{eqb-true, eqb-false}
use Rattle.residue.specs.Congruent.{Congruent}
use Rattle.residue.proofs.Congruent.{congruent_of_eq, congruent_refl, congruent_trans, congruent_add, congruent_mod, congruent_multiple, remainder_of_congruent}
use Rattle.equations.proofs.Truth.{true_or_false}

abbrev pub sum : (ℕ → ℕ) → ℕ → ℕ → ℕ
sum f x zero = 0
sum f x (suc k) = f x + sum f (suc x) k

pub sum_cong : (f g : ℕ → ℕ) (x k : ℕ) → ((y : ℕ) → x ≤ y → y < x + k → f y ≡ g y) → sum f x k ≡ sum g x k
sum_cong f g x zero h = refl
sum_cong f g x (suc k) h =
    ap₂ ◌+◌ (h x (omega arith) (omega arith)) (sum_cong f g (suc x) k (λ y a b. h y (omega arith) (omega arith)))

pub sum-none : (f : ℕ → ℕ) (x k : ℕ) → ((y : ℕ) → x ≤ y → y < x + k → f y ≡ 0) → sum f x k ≡ 0
sum-none f x zero h = refl
sum-none f x (suc k) h =
    ap₂ ◌+◌ (h x (omega arith) (omega arith)) (sum-none f (suc x) k (λ y a b. h y (omega arith) (omega arith)))

pub sum_single : (f : ℕ → ℕ) (z x k : ℕ) → ((y : ℕ) → (y ≡ z → ⊥) → f y ≡ 0) → sum f x k ≤ f z
sum_single f z x zero others = omega arith
sum_single f z x (suc k) others = go (true_or_false (eqb x z)) (sum_single f z (suc x) k others)
  where
    go : (eqb x z ≡ true) ⊎ (eqb x z ≡ false) → sum f (suc x) k ≤ f z → f x + sum f (suc x) k ≤ f z
    go (inl e) rest =
        let here : x ≡ z = eqb-true x z e in
        omega (arith, ap f here, sum-none f (suc x) k (λ y low high. others y (λ there. omega arith)))
    go (inr e) rest = omega (arith, others x (eqb-false x z e))

-- l = j + k terms from x: j from x, then k from y = x + j
pub sum-append : (f : ℕ → ℕ) (x j k l y : ℕ) → l ≡ j + k → y ≡ x + j → sum f x l ≡ sum f x j + sum f y k
sum-append f x zero k l y h g =
    let same_start : x ≡ y = omega arith in
    let same_length : l ≡ k = omega arith in
    ap₂ (sum f) same_start same_length ∙ omega arith
sum-append f x (suc j) k zero y h g = absurd (omega arith)
sum-append f x (suc j) k (suc l) y h g =
    omega (arith, sum-append f (suc x) j k l y (omega arith) (omega arith))

-- ---- in another order

sum-suc : (f : ℕ → ℕ) (x k : ℕ) → sum (λ y. f (suc y)) x k ≡ sum f (suc x) k
sum-suc f x zero = refl
sum-suc f x (suc k) = ap (λ (z : ℕ). f (suc x) + z) (sum-suc f (suc x) k)

rotate_one : (f : ℕ → ℕ) (m : ℕ) → 0 < m → sum (λ y. f ((y + 1) % m)) 0 m ≡ sum f 0 m
rotate_one f zero pos = absurd (omega arith)
rotate_one f (suc k) pos =
    omega (arith, last, others, sum-append (λ y. f ((y + 1) % suc k)) 0 k 1 (suc k) k (omega arith) (omega arith))
  where
    turned : Congruent (suc k) (k + 1) 0
    turned = congruent_trans {b = 1 * suc k} (congruent_of_eq (omega arith)) (congruent_multiple 1)

    last : f ((k + 1) % suc k) ≡ f 0
    last = ap f (remainder_of_congruent turned)

    others : sum (λ y. f ((y + 1) % suc k)) 0 k ≡ sum f 1 k
    others =
        sum_cong (λ y. f ((y + 1) % suc k)) (λ y. f (suc y)) 0 k
        (λ y low high. ap f (mod-eq_of_lt (omega arith) ∙ omega arith))
        ∙ sum-suc f 0 k

pub sum_rotate : (f : ℕ → ℕ) (m a : ℕ) → 0 < m → sum (λ y. f ((y + a) % m)) 0 m ≡ sum f 0 m
sum_rotate f m zero pos =
    sum_cong (λ y. f ((y + 0) % m)) f 0 m
    (λ y low high. ap f (ap (λ (z : ℕ). z % m) (omega arith) ∙ mod-eq_of_lt (omega arith)))
sum_rotate f m (suc a) pos =
    sum_cong (λ y. f ((y + suc a) % m)) (λ y. f (((y + 1) % m + a) % m)) 0 m (λ y low high. ap f (sym (turned y).same))
    ∙ rotate_one (λ y. f ((y + a) % m)) m pos
    ∙ sum_rotate f m a pos
  where
    turned : (y : ℕ) → Congruent m ((y + 1) % m + a) (y + suc a)
    turned y =
        congruent_trans (congruent_add (congruent_mod m (y + 1)) (congruent_refl {a = a}))
        (congruent_of_eq (omega arith))

-- ---- at multiples only

module _ (f : ℕ → ℕ) (d c : ℕ) (pos : 0 < d) where
  -- one multiple of d, and the numbers up to the next
  block : (i : ℕ) → f (i * d) ≡ c
      → ((y : ℕ) → y < i * d + d → ((j : ℕ) → y ≡ j * d → ⊥) → f y ≡ 0) → sum f (i * d) d ≡ c
  block i at others =
      omega (arith, sum-append f (i * d) 1 (d - 1) d (suc (i * d)) (omega arith) (omega arith), rest)
    where
      between : (j y : ℕ) → y ≡ j * d → i * d < y → y < i * d + d → ⊥
      between j y h a b =
          let low : i < j = lt_of_mul-lt-mul_right d (omega arith) in
          let high : j < suc i = lt_of_mul-lt-mul_right d (omega arith) in
          omega arith

      rest : sum f (suc (i * d)) (d - 1) ≡ 0
      rest =
          sum-none f (suc (i * d)) (d - 1)
          (λ y a b. others y (omega arith) (λ j h. between j y h (omega arith) (omega arith)))

  pub sum-multiples : (e m : ℕ) → m ≡ e * d → ((i : ℕ) → i < e → f (i * d) ≡ c)
      → ((y : ℕ) → y < m → ((j : ℕ) → y ≡ j * d → ⊥) → f y ≡ 0) → sum f 0 m ≡ e * c
  sum-multiples zero m h at others =
      let none_left : m ≡ 0 = omega arith in ap (sum f 0) none_left ∙ omega arith
  sum-multiples (suc e) m h at others =
      omega (
        arith,
        sum-append f 0 (e * d) d m (e * d) (omega arith) (omega arith),
        sum-multiples e (e * d) refl (λ i lt. at i (omega arith))
            (λ y lt no_multiple. others y (omega arith) no_multiple),
        block e (at e (omega arith)) (λ y lt no_multiple. others y (omega arith) no_multiple),
      )
