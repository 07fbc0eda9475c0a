-- Reading without trees gives what the trees would.
--   largest-within, largest_some   the last unknown tells whether all are among n, and whether there is one
--   fold-forms                     a tree's value among the forms is its form
--   forms-found                    the forms of a typed equation's sides are found
--   take-coefficients              the first n of more coefficients
--   equation_is                    hence the equation of the forms is the one of the trees
use mathlib.Core.Path.{◌≡◌, refl, ap, ap₂, sym, ◌∙◌}
use mathlib.Core.Bool.{Bool, ◌&&◌, ◌||◌}
use mathlib.Core.List.{List, [], ◌∷◌}
use Prim.Native.Nat.{ℕ, zero, suc, ◌*◌, ◌+◌, ◌%◌, ◌≤◌, max}
use native.Mathlib.Omega.{arith}
use borrow.Author.Tests.{lt-ltb, le-leb}
use lib.Dec.{ltb, leb, leb→le, le→leb}
use lib.ListN.{length, take, replicate}
use mir.Facts.{and_yes, yes_and}
use Rattle.equations.specs.Vectors.{unit, combine}
use Rattle.equations.proofs.Truth.{same_of_both}
use Rattle.equations.proofs.Unit.{take_zeros}
use Rattle.grammar.specs.Tree.{Tree, Sides, number, unknown, minus, sum, difference, product}
use Rattle.grammar.specs.Model.Algebra.{fold}
use Rattle.grammar.specs.Grammar.{Typed, largest_unknown}
use Rattle.grammar.specs.Linear.{minus_one, has_unknown, within, linear, constant, coefficients, equation_of}
use Rattle.grammar.specs.Model.Reader.{found, sides_of}
use Rattle.grammar.proofs.Meaning.{length-coefficients}
use Rattle.typed.specs.Model.Forms.{largest, zero_form, added_form, product_form, forms, form_of, forms_equation}
use Rattle.grammar.proofs.Equations.{sides_complete}

-- ---- the last unknown

max-within : (n a b : ℕ) → leb (max a b) n ≡ (leb a n && leb b n)
max-within n a b =
    same_of_both (leb (max a b) n) (leb a n && leb b n)
    (λ h. let most = leb→le (max a b) n h in yes_and (leb a n) (leb b n) (le→leb a n (omega arith)) (le→leb b n (omega arith)))
    (λ h.
    let (p, q) = and_yes (leb a n) (leb b n) h in
    let first = leb→le a n p in
    let second = leb→le b n q in
    le→leb (max a b) n (omega arith))

max_some : (a b : ℕ) → ltb 0 (max a b) ≡ (ltb 0 a || ltb 0 b)
max_some zero zero = refl
max_some zero (suc b) = lt-ltb 0 (max 0 (suc b)) (omega arith) ∙ sym (lt-ltb 0 (suc b) (omega arith))
max_some (suc a) b = lt-ltb 0 (max (suc a) b) (omega arith) ∙ ap (λ (x : Bool). x || ltb 0 b)
    (sym (lt-ltb 0 (suc a) (omega arith)))

pub largest-within : (n : ℕ) (t : Tree) → leb (largest t) n ≡ within n t
largest-within n (number k) = le-leb 0 n (omega arith)
largest-within n (unknown j) = refl
largest-within n (minus t) = largest-within n t
largest-within n (sum a b) = max-within n (largest a) (largest b) ∙ ap₂ ◌&&◌ (largest-within n a) (largest-within n b)
largest-within n (difference a b) = max-within n (largest a) (largest b) ∙ ap₂ ◌&&◌ (largest-within n a)
    (largest-within n b)
largest-within n (product a b) = max-within n (largest a) (largest b) ∙ ap₂ ◌&&◌ (largest-within n a) (largest-within n b)

pub largest_some : (t : Tree) → ltb 0 (largest t) ≡ has_unknown t
largest_some (number k) = refl
largest_some (unknown j) = lt-ltb 0 (suc j) (omega arith)
largest_some (minus t) = largest_some t
largest_some (sum a b) = max_some (largest a) (largest b) ∙ ap₂ ◌||◌ (largest_some a) (largest_some b)
largest_some (difference a b) = max_some (largest a) (largest b) ∙ ap₂ ◌||◌ (largest_some a) (largest_some b)
largest_some (product a b) = max_some (largest a) (largest b) ∙ ap₂ ◌||◌ (largest_some a) (largest_some b)

-- ---- forms

-- minus is the difference from 0
zeros_less : (m s w : ℕ) (cs : List ℕ) → length cs ≡ w → combine m 1 s (replicate w 0) cs ≡ combine m s 0 cs cs
zeros_less m s zero [] h = refl
zeros_less m s zero (x ∷ cs) h = absurd (omega arith)
zeros_less m s (suc w) [] h = absurd (omega arith)
zeros_less m s (suc w) (x ∷ cs) h =
    ap₂ {C = List ℕ} ◌∷◌ (ap (λ (z : ℕ). z % m) (entry s x)) (zeros_less m s w cs (omega arith))
  where
    entry : (s x : ℕ) → 1 * 0 + s * x ≡ s * x + 0 * x
    entry s x = omega arith

module _ (m w : ℕ) where
  minus_form : (t : Tree) → added_form m (minus_one m) (zero_form w) (form_of m w t) ≡ form_of m w (minus t)
  minus_form t =
      let cs = zeros_less m (minus_one m) w (coefficients m w t) (length-coefficients m w t) in
      let k = ap (λ (z : ℕ). z % m) (alone (minus_one m * constant m t)) in
      let l = none (largest t) in
      λ i. record { coefficients = cs i; constant = k i; largest = l i; linear = linear t }
    where
      alone : (x : ℕ) → 0 + x ≡ x
      alone x = omega arith

      none : (x : ℕ) → max 0 x ≡ x
      none x = omega arith

  sum_form : (a b : Tree) → added_form m 1 (form_of m w a) (form_of m w b) ≡ form_of m w (sum a b)
  sum_form a b =
      let k = ap (λ (z : ℕ). z % m) (once (constant m a) (constant m b)) in
      λ i. record {
        coefficients = coefficients m w (sum a b);
        constant = k i;
        largest = largest (sum a b);
        linear = linear (sum a b);
      }
    where
      once : (x y : ℕ) → x + 1 * y ≡ x + y
      once x y = omega arith

  pub fold-forms : (t : Tree) → fold (forms m w) t ≡ form_of m w t
  fold-forms (number k) = refl
  fold-forms (unknown j) = refl
  fold-forms (minus t) = ap (added_form m (minus_one m) (zero_form w)) (fold-forms t) ∙ minus_form t
  fold-forms (sum a b) = ap₂ (added_form m 1) (fold-forms a) (fold-forms b) ∙ sum_form a b
  fold-forms (difference a b) = ap₂ (added_form m (minus_one m)) (fold-forms a) (fold-forms b)
  fold-forms (product a b) =
      ap₂ (product_form m) (fold-forms a) (fold-forms b) ∙ rw (largest_some a, largest_some b)

  pub forms-found : {e : Sides} {text : List ℕ} → Typed e text
      → sides_of (forms m w) text ≡ found (form_of m w e.left) (form_of m w e.right)
  forms-found {e} typed = sides_complete (forms m w) typed ∙ ap₂ found (fold-forms e.left) (fold-forms e.right)

-- ---- the first n coefficients

pub take-combine : (m s t n : ℕ) (v w : List ℕ) → take n (combine m s t v w) ≡ combine m s t (take n v) (take n w)
take-combine m s t zero v w = refl
take-combine m s t (suc n) [] w = refl
take-combine m s t (suc n) (x ∷ v) [] = refl
take-combine m s t (suc n) (x ∷ v) (y ∷ w) = ap (λ (z : List ℕ). ((s * x + t * y) % m) ∷ z) (take-combine m s t n v w)

take-unit : (n w j : ℕ) → n ≤ w → take n (unit w j) ≡ unit n j
take-unit zero w j h = refl
take-unit (suc n) zero j h = absurd (omega arith)
take-unit (suc n) (suc w) zero h = ap (λ (z : List ℕ). 1 ∷ z) (take_zeros n w (omega arith))
take-unit (suc n) (suc w) (suc j) h = ap (λ (z : List ℕ). 0 ∷ z) (take-unit n w j (omega arith))

module _ (m n w : ℕ) (fits : n ≤ w) where
  pub take-coefficients : (t : Tree) → take n (coefficients m w t) ≡ coefficients m n t
  take-coefficients (number k) = take_zeros n w fits
  take-coefficients (unknown j) = take-unit n w j fits
  take-coefficients (minus t) =
      take-combine m (minus_one m) 0 n (coefficients m w t) (coefficients m w t)
      ∙ ap₂ (combine m (minus_one m) 0) (take-coefficients t) (take-coefficients t)
  take-coefficients (sum a b) =
      take-combine m 1 1 n (coefficients m w a) (coefficients m w b)
      ∙ ap₂ (combine m 1 1) (take-coefficients a) (take-coefficients b)
  take-coefficients (difference a b) =
      take-combine m 1 (minus_one m) n (coefficients m w a) (coefficients m w b)
      ∙ ap₂ (combine m 1 (minus_one m)) (take-coefficients a) (take-coefficients b)
  take-coefficients (product a b) =
      take-combine m (constant m a) (constant m b) n (coefficients m w b) (coefficients m w a)
      ∙ ap₂ (combine m (constant m a) (constant m b)) (take-coefficients b) (take-coefficients a)

-- the equation of the forms is the one of the trees
pub equation_is : (m n : ℕ) → n ≤ largest_unknown → (e : Sides)
    → forms_equation m n (form_of m largest_unknown e.left) (form_of m largest_unknown e.right) ≡ equation_of m n e
unfolding equation_of
equation_is m n fits e =
    rw (take-coefficients m n largest_unknown fits e.left, take-coefficients m n largest_unknown fits e.right)
