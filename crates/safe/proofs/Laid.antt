-- The lines of a safe's equations: how long they are, what stands in them, and how they are written.
--   length-coefficients, length-line, length-lines   their lengths
--   coefficient_at                                   one coefficient
--   line_at                                          the line of one lock
--   line_end                                         the right side stored behind the coefficients
--   lines-below                                      all numbers are residues
--   part_more                                        a part written behind a front
--   line-fits                                        there is room for one line more
--   lines_on_lem, lines_end                              one line more is written, and all are
use mathlib.Core.Bool.{Bool, true, false, cond}
use mathlib.Core.List.{List, [], ◌∷◌, ◌++◌, append_assoc, append-nil}
use mathlib.Core.Path.{◌≡◌, refl, sym, ap, ap₂, ◌∙◌}
use Prim.Native.Nat.{ℕ, zero, suc, ◌+◌, ◌-◌, ◌*◌, ◌%◌, ◌≤◌, ◌<◌}
use native.Mathlib.Nat.{mod-lt, mul-le-mul}
use native.Mathlib.Omega.{arith}
use lib.ListN.{length, take, drop, get_or, set, length-append, drop_of_length-le}
use lib.Seq.{take_at, drop_at, set_at, drop-cons, take_all, take-add, drop-drop, length-take-le}
use Rattle.residue.specs.Negative.{negative}
use Rattle.equations.specs.Vectors.{Below}
use Rattle.equations.proofs.Vectors.{below-append}
use Rattle.safe.specs.Locks.{meets}
use Rattle.safe.specs.Model.Lines.{coefficient, coefficients, line_of, lines_from}

-- ---- lengths

pub length-coefficients : (columns i p k : ℕ) → length (coefficients columns i p k) ≡ k
length-coefficients columns i p zero = refl
length-coefficients columns i p (suc k) = ap suc (length-coefficients columns i (suc p) k)

pub length-line : (m columns n i x : ℕ) → length (line_of m columns n i x) ≡ n + 1
length-line m columns n i x =
    omega (arith, length-append (coefficients columns i 0 n) (negative m x % m ∷ []), length-coefficients columns i 0 n)

pub length-lines : (m columns n i : ℕ) (values : List ℕ)
    → length (lines_from m columns n i values) ≡ length values * (n + 1)
length-lines m columns n i [] = omega arith
length-lines m columns n i (x ∷ values) =
    omega (
      arith,
      length-append (line_of m columns n i x) (lines_from m columns n (suc i) values),
      length-line m columns n i x,
      length-lines m columns n (suc i) values,
    )

-- ---- what stands where

pub coefficient_at : (columns i p k j q : ℕ) → q ≡ p + j → j < k
    → get_or (coefficients columns i p k) j 0 ≡ coefficient columns i q
coefficient_at columns i p zero j q e lt = absurd (omega arith)
coefficient_at columns i p (suc k) zero q e lt =
    let same : p ≡ q = omega arith in ap (coefficient columns i) same
coefficient_at columns i p (suc k) (suc j) q e lt =
    coefficient_at columns i (suc p) k j q (omega arith) (omega arith)

pub line_at : (m columns n i j k : ℕ) (values : List ℕ) → k ≡ i + j → j < length values
    → take (n + 1) (drop (j * (n + 1)) (lines_from m columns n i values)) ≡ line_of m columns n k (get_or values j 0)
line_at m columns n i j k [] e lt = absurd (omega arith)
line_at m columns n i zero k (x ∷ values) e lt =
    let none : 0 * (n + 1) ≡ 0 = omega arith in
    let same : i ≡ k = omega arith in
    ap (λ (z : ℕ). take (n + 1) (drop z (lines_from m columns n i (x ∷ values)))) none
    ∙ take_at (line_of m columns n i x) (lines_from m columns n (suc i) values) (n + 1) (length-line m columns n i x)
    ∙ ap (λ (z : ℕ). line_of m columns n z x) same
line_at m columns n i (suc j) k (x ∷ values) e lt =
    let all = lines_from m columns n i (x ∷ values) in
    let rest = lines_from m columns n (suc i) values in
    let far : suc j * (n + 1) ≡ (n + 1) + j * (n + 1) = omega arith in
    ap (λ (z : ℕ). take (n + 1) (drop z all)) far
    ∙ ap (take (n + 1)) (sym (drop-drop (j * (n + 1)) (n + 1) all))
    ∙ ap (λ (z : List ℕ). take (n + 1) (drop (j * (n + 1)) z))
    (drop_at (line_of m columns n i x) rest (n + 1) (length-line m columns n i x))
    ∙ line_at m columns n (suc i) j k values (omega arith) (omega arith)

-- ---- residues

module _ (m columns : ℕ) (lt : 1 < m) where
  coefficients-below : (i p k : ℕ) → Below m (coefficients columns i p k)
  coefficients-below i p zero = tt
  coefficients-below i p (suc k) = (one (meets columns p i), coefficients-below i (suc p) k)
    where
      one : (b : Bool) → cond b 1 0 < m
      one true = lt
      one false = omega arith

  pub lines-below : (n i : ℕ) (values : List ℕ) → Below m (lines_from m columns n i values)
  lines-below n i [] = tt
  lines-below n i (x ∷ values) =
      below-append m (line_of m columns n i x) (lines_from m columns n (suc i) values)
      (below-append m (coefficients columns i 0 n) (negative m x % m ∷ []) (coefficients-below i 0 n)
      (mod-lt (negative m x) (omega arith), tt))
      (lines-below n (suc i) values)

-- ---- written

pub line_end : (n b : ℕ) (cs old : List ℕ) → length cs ≡ n → length old ≡ n + 1
    → set (take n cs ++ drop n old) n b ≡ cs ++ (b ∷ [])
line_end n b cs old h k =
    ap₂ (λ (v w : List ℕ). set (v ++ w) n b) (take_all n cs (omega arith)) (drop-cons old n 0 (omega arith))
    ∙ set_at cs (get_or old n 0) (drop (suc n) old) b n h
    ∙ ap (λ (z : List ℕ). cs ++ (b ∷ z)) (drop_of_length-le old {i = suc n} (omega arith))

-- the part from `at` to `end` is lent where the front of xs is written, and comes back with the next of xs
pub part_more : (at end : ℕ) (xs old part : List ℕ) → at ≤ end → end ≤ length xs → part ≡ take (end - at) (drop at xs)
    → take at (take at xs ++ drop at old) ++ (part ++ drop (end - at) (drop at (take at xs ++ drop at old)))
    ≡ take end xs ++ drop end old
part_more at end xs old part low high is =
    let long : length (take at xs) ≡ at = length-take-le at xs (omega arith) in
    let whole : at + (end - at) ≡ end = omega arith in
    ap₂ (λ (v w : List ℕ). v ++ (part ++ drop (end - at) w)) (take_at (take at xs) (drop at old) at long)
    (drop_at (take at xs) (drop at old) at long)
    ∙ ap₂ (λ (v w : List ℕ). take at xs ++ (v ++ w)) is (drop-drop (end - at) at old ∙ ap (λ (k : ℕ). drop k old) whole)
    ∙ sym (append_assoc (take at xs) (take (end - at) (drop at xs)) (drop end old))
    ∙ ap (λ (z : List ℕ). z ++ drop end old)
    (sym (take-add at (end - at) xs) ∙ ap (λ (k : ℕ). take k xs) whole)

pub line-fits : (n i at : ℕ) → i < n → at ≡ i * (n + 1) → at + n + 1 ≤ n * (n + 1)
line-fits n i at lt e =
    omega (arith, mul-le-mul {n₁ = i + 1} {m₁ = n + 1} {n₂ = n} {m₂ = n + 1} (omega arith) (omega arith))

module _ (m columns : ℕ) (values old : List ℕ) where
  abbrev n : ℕ
  n = length values

  abbrev all : List ℕ
  all = lines_from m columns n 0 values

  pub lines_on_lem : (i at : ℕ) (lines part : List ℕ) → i < n → at ≡ i * (n + 1)
      → lines ≡ take at all ++ drop at old → part ≡ line_of m columns n i (get_or values i 0)
      → take at lines ++ (part ++ drop (at + (n + 1) - at) (drop at lines))
      ≡ take ((i + 1) * (n + 1)) all ++ drop ((i + 1) * (n + 1)) old
  lines_on_lem i at lines part lt e is it =
      let width : n + 1 ≡ at + (n + 1) - at = omega arith in
      let end : at + (n + 1) ≡ (i + 1) * (n + 1) = omega (arith, e) in
      let line : part ≡ take (at + (n + 1) - at) (drop at all) =
      it ∙ sym (line_at m columns n 0 i i values (omega arith) lt)
      ∙ ap₂ (λ (k j : ℕ). take k (drop j all)) width (sym e) in
      ap (λ (z : List ℕ). take at z ++ (part ++ drop (at + (n + 1) - at) (drop at z))) is
      ∙ part_more at (at + (n + 1)) all old part (omega arith)
      (omega (arith, line-fits n i at lt e, length-lines m columns n 0 values))
      line
      ∙ ap (λ (k : ℕ). take k all ++ drop k old) end

  pub lines_end : (i at : ℕ) → i ≡ n → at ≡ i * (n + 1) → length old ≡ n * (n + 1) → take at all ++ drop at old ≡ all
  lines_end i at e h long =
      let size : at ≡ n * (n + 1) = h ∙ ap (λ (z : ℕ). z * (n + 1)) e in
      ap₂ (λ (v w : List ℕ). v ++ w)
      (take_all at all (omega (arith, length-lines m columns n 0 values)))
      (drop_of_length-le old {i = at} (omega arith))
      ∙ append-nil all
