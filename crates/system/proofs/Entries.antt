-- The entries of vectors at one place, as loops find them that take a vector off the front in each turn.
--   entries_cut, entries_none     the entry of the first vector that is left, and no vector left
--   EntriesLeft                   i vectors are off and `rest` is left
--   left_some, left_entry         the first that is left has the place i,
--   left_less                     and is taken off
--   left-none                     none is left
--   divisor_less, divisor_none    their common divisor
use mathlib.Core.Path.{◌≡◌, sym, ap, ◌∙◌}
use mathlib.Core.List.{List, [], ◌∷◌, ◌++◌, head-eq_of_cons-eq, tail-eq_of_cons-eq}
use Prim.Native.Nat.{ℕ, suc, ◌+◌, ◌<◌, ◌≤◌}
use native.Mathlib.Numerals.{add-one}
use native.Mathlib.Omega.{arith}
use lib.ListN.{length, drop, get_or, length-drop}
use lib.Seq.{drop-cons}
use Rattle.residue.specs.Gcd.{gcd}
use Rattle.elimination.specs.Relations.{entries_at, divisor_with}
use Rattle.system.specs.Claims.{vectors_of}
use Rattle.system.proofs.Chunks.{vector_cut, vectors-none}

module _ (n p : ℕ) (at : p < n) (rest : List ℕ) where
  pub entries_cut : (v left : List ℕ) → rest ≡ v ++ left → length v ≡ n
      → entries_at p (vectors_of n rest) ≡ get_or v p 0 ∷ entries_at p (vectors_of n left)
  entries_cut v left cut long = ap (entries_at p) (vector_cut n v left rest (omega arith) cut long)

  pub entries_none : length rest < n → entries_at p (vectors_of n rest) ≡ []
  entries_none h = ap (entries_at p) (vectors-none n rest h)

-- ---- one behind the other

-- xs are all entries
abbrev pub EntriesLeft : ℕ → ℕ → List ℕ → ℕ → List ℕ → Type 0
EntriesLeft n p xs i rest = entries_at p (vectors_of n rest) ≡ drop i xs

module _ (n p : ℕ) (at : p < n) (xs : List ℕ) (i : ℕ) (rest : List ℕ) (left : EntriesLeft n p xs i rest) where
  module _ (v after : List ℕ) (parts : rest ≡ v ++ after) (long : length v ≡ n) where
    shown : get_or v p 0 ∷ entries_at p (vectors_of n after) ≡ drop i xs
    shown = sym (entries_cut n p at rest v after parts long) ∙ left

    pub left_some : i < length xs
    left_some = omega (arith, ap length shown, length-drop i xs)

    cut : get_or v p 0 ∷ entries_at p (vectors_of n after) ≡ get_or xs i 0 ∷ drop (suc i) xs
    cut = shown ∙ drop-cons xs i 0 left_some

    pub left_entry : get_or v p 0 ≡ get_or xs i 0
    left_entry = head-eq_of_cons-eq cut

    pub left_less : EntriesLeft n p xs (i + 1) after
    left_less = tail-eq_of_cons-eq cut ∙ ap (λ (k : ℕ). drop k xs) (sym (add-one i))

  pub left-none : length rest < n → i ≤ length xs → i ≡ length xs
  left-none h le =
      omega (arith, ap length (sym (entries_none n p at rest h) ∙ left), length-drop i xs)

-- ---- their common divisor

module _ (n p : ℕ) (at : p < n) (rest : List ℕ) (d : ℕ) where
  pub divisor_less : (v left : List ℕ) → rest ≡ v ++ left → length v ≡ n
      → (next : ℕ) → next ≡ gcd (get_or v p 0) d → divisor_with next (entries_at p (vectors_of n left)) ≡ divisor_with d (entries_at p (vectors_of n rest))
  divisor_less v left cut long next is =
      ap (λ (c : ℕ). divisor_with c (entries_at p (vectors_of n left))) is
      ∙ ap (divisor_with d) (sym (entries_cut n p at rest v left cut long))

  pub divisor_none : length rest < n → d ≡ divisor_with d (entries_at p (vectors_of n rest))
  divisor_none h = ap (divisor_with d) (sym (entries_none n p at rest h))
