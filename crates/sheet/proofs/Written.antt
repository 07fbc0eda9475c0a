-- Numbers written from a place on, in a list and in the parts of a sheet.
--   set-written                      one number
--   put_written                      a part is lent, and comes back with xs at its front
--   moduli-written, cells_written    among the moduli, or in the cells
use mathlib.Core.Path.{◌≡◌, refl, sym, ap, ap₂, ◌∙◌}
use mathlib.Core.List.{List, [], ◌∷◌, ◌++◌, append_assoc}
use Prim.Native.Nat.{ℕ, zero, suc, ◌+◌, ◌≤◌, ◌<◌}
use native.Mathlib.Omega.{arith}
use lib.ListN.{length, take, drop, set, length-drop}
use lib.Seq.{take-append-le, drop-append-le}
use Rattle.slices.specs.Over.{over}
use Rattle.slices.proofs.Parts.{lent, put_back, lent_is, put_back_is}
use Rattle.ledger.specs.Ledger.{most_equations}
use Rattle.sheet.specs.Record.{sheet_of, written_at}

pub set-written : (ys : List ℕ) (i x : ℕ) → i < length ys → set ys i x ≡ written_at i (x ∷ []) ys
set-written [] i x at = absurd (omega arith)
set-written (y ∷ ys) zero x at = refl
set-written (y ∷ ys) (suc i) x at = ap (λ (zs : List ℕ). y ∷ zs) (set-written ys i x (omega arith))

pub put_written : (at : ℕ) (xs ys : List ℕ) {part : List ℕ} → part ≡ over xs (lent at ys) → put_back at ys part ≡ written_at at xs ys
put_written at xs ys {part} written =
    put_back_is at ys part ∙ ap (λ (z : List ℕ). take at ys ++ z) (written ∙ ap (over xs) (lent_is at ys))

-- ---- in one of two parts

written_in_front : (i : ℕ) (xs front rest : List ℕ) → i + length xs ≤ length front
    → written_at i xs (front ++ rest) ≡ written_at i xs front ++ rest
written_in_front i xs front rest fits =
    ap₂ (λ (p q : List ℕ). p ++ over xs q) (take-append-le i front rest (omega arith)) (drop-append-le i front rest (omega arith))
    ∙ ap (λ (z : List ℕ). take i front ++ (xs ++ z))
    (drop-append-le (length xs) (drop i front) rest (omega (arith, length-drop i front)))
    ∙ ap (λ (z : List ℕ). take i front ++ z) (sym (append_assoc xs (drop (length xs) (drop i front)) rest))
    ∙ sym (append_assoc (take i front) (over xs (drop i front)) rest)

written_behind : (i : ℕ) (xs front rest : List ℕ) (k : ℕ) → k ≡ length front + i
    → written_at k xs (front ++ rest) ≡ front ++ written_at i xs rest
written_behind i xs [] rest k is =
    let same : k ≡ i = omega (arith, is) in ap (λ (j : ℕ). written_at j xs rest) same
written_behind i xs (y ∷ front) rest zero is = absurd (omega (arith, is))
written_behind i xs (y ∷ front) rest (suc k) is =
    ap (λ (zs : List ℕ). y ∷ zs) (written_behind i xs front rest k (omega (arith, is)))

-- ---- in a sheet

module _ (m n held : ℕ) (moduli cells : List ℕ) (long : length moduli ≡ most_equations) (i at : ℕ) (xs : List ℕ) where
  pub moduli-written : at ≡ 3 + i → i + length xs ≤ most_equations
      → written_at at xs (sheet_of m n held moduli cells) ≡ sheet_of m n held (written_at i xs moduli) cells
  moduli-written is fits =
      let place : at ≡ suc (suc (suc i)) = omega (arith, is) in
      ap (λ (k : ℕ). written_at k xs (sheet_of m n held moduli cells)) place
      ∙ ap (λ (zs : List ℕ). m ∷ n ∷ held ∷ zs) (written_in_front i xs moduli cells (omega (arith, long)))

  pub cells_written : at ≡ 19 + i
      → written_at at xs (sheet_of m n held moduli cells) ≡ sheet_of m n held moduli (written_at i xs cells)
  cells_written is =
      let place : at ≡ suc (suc (suc (16 + i))) = omega (arith, is) in
      ap (λ (k : ℕ). written_at k xs (sheet_of m n held moduli cells)) place
      ∙ ap (λ (zs : List ℕ). m ∷ n ∷ held ∷ zs) (written_behind i xs moduli cells (16 + i) (omega (arith, long)))
