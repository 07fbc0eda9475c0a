-- Words with a minus sign.
--   number_read, turned, turned-fits  a number of 32 bits as one of 64, and its negative there
--   residues-count, residues-below    there are as many residues as words, and they are below m
--   residues_of_lem                       and they are those of the words' whole numbers
--   residues-plain                    residues in words without a sign are their own
use mathlib.Core.Path.{◌≡◌, refl, sym, ap, ap₂, subst, ◌∙◌}
use mathlib.Core.Bool.{false}
use mathlib.Core.List.{List, [], ◌∷◌, map}
use Prim.Native.Nat.{ℕ, zero, suc, ◌<◌, ◌≤◌}
use native.Mathlib.Nat.{le_refl, mod-eq_of_lt}
use native.Mathlib.Omega.{arith}
use lib.IntN.{ℤ, pos, neg_ℤ, ◌-ℤ◌, +ℤ_idl}
use lib.ListN.{length}
use lib.Signed.{mag}
use mir.Syntax.{w32, w64}
use mir.Val.{Fits, SFits, to_z}
use mir.ValLaws.{to_z_pos}
use Rattle.residue.specs.Residue.{residue_of}
use Rattle.residue.proofs.Residue.{residue_below}
use Rattle.equations.specs.Vectors.{Below}
use Rattle.words.specs.declared.unpacking.Word.{Word}
use Rattle.words.specs.Signs.{has_minus, whole_of, wholes_of, residues_of}
use Rattle.words.proofs.Words.{residue_in, parts_count}

-- ---- the negative

module _ (n : ℕ) (fits : Fits w32 n) where
  pub number_read : to_z w64 n ≡ pos n
  number_read = to_z_pos w64 n (omega (arith, fits.fits))

  pub turned : pos 0 -ℤ to_z w64 n ≡ neg_ℤ (pos n)
  turned = ap (λ (y : ℤ). pos 0 -ℤ y) number_read ∙ +ℤ_idl (neg_ℤ (pos n))

  small : (k : ℕ) → mag (neg_ℤ (pos k)) ≤ k
  small zero = le_refl 0
  small (suc k) = omega arith

  pub turned-fits : SFits w64 (pos 0 -ℤ to_z w64 n)
  turned-fits = subst (SFits w64) (sym turned) (record { sfits = omega (arith, small n, fits.fits) })

-- ---- residues

pub residues-count : (m : ℕ) (words : List Word) → length (residues_of m words) ≡ length words
residues-count m = parts_count (residue_in m)

pub residues-below : (m : ℕ) (words : List Word) → 0 < m → Below m (residues_of m words)
residues-below m [] positive = tt
residues-below m (w ∷ words) positive = (residue_below m (whole_of w) positive, residues-below m words positive)

pub residues_of_lem : (m : ℕ) (words : List Word) → residues_of m words ≡ map (residue_of m) (wholes_of words)
residues_of_lem m [] = refl
residues_of_lem m (w ∷ words) = ap (λ (xs : List ℕ). residue_of m (whole_of w) ∷ xs) (residues_of_lem m words)

module _ (m k : ℕ) (plain : has_minus k ≡ false) where
  residue_plain : (x : ℕ) → x < m → residue_of m (whole_of (record { kind = k; number = x })) ≡ x
  unfolding residue_of
  residue_plain x h = rw plain (mod-eq_of_lt h)

  pub residues-plain : (xs : List ℕ) → Below m xs → residues_of m (map (λ (x : ℕ). record { kind = k; number = x }) xs) ≡ xs
  residues-plain [] h = refl
  residues-plain (x ∷ xs) h = ap₂ ◌∷◌ (residue_plain x h.0) (residues-plain xs h.1)
