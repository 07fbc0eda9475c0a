-- Packed rows and the rows behind the first one.
--   kept-front, kept-behind   what a basis keeps to, of its first row and of the rows behind it
--   kept_from                 and of the rows behind the first i
use mathlib.Core.Path.{◌≡◌}
use mathlib.Core.List.{List}
use Prim.Native.Nat.{ℕ, zero, suc, ◌-◌, ◌<◌, ◌≤◌}
use native.Mathlib.Omega.{arith}
use lib.ListN.{take, drop}
use Rattle.tableau.specs.Packed.{rows, triangle, RowKept, Kept}
use Rattle.tableau.proofs.Packed.{rows_split, drop-row}

pub kept-front : (m w l : ℕ) (b : List ℕ) → 0 < w → Kept m (rows w l b) → RowKept m (take l b)
kept-front m w l b h k = (rw (rows_split w l b h) at k).0

pub kept-behind : (m w l : ℕ) (b : List ℕ) → 0 < w → Kept m (rows w l b) → Kept m (rows (w - 1) (l - 1) (drop l b))
kept-behind m w l b h k = (rw (rows_split w l b h) at k).1

pub kept_from : (m i j l : ℕ) (b : List ℕ) → i ≤ j → Kept m (rows j l b)
    → Kept m (rows (j - i) (l - i) (drop (triangle i l) b))
kept_from m zero j l b h k =
    let e : j - 0 ≡ j = omega arith in
    let f : l - 0 ≡ l = omega arith in
    rw (e, f) k
kept_from m (suc i) j l b h k =
    let e : j - i - 1 ≡ j - suc i = omega arith in
    let f : l - i - 1 ≡ l - suc i = omega arith in
    let rest = kept-behind m (j - i) (l - i) (drop (triangle i l) b) (omega arith) (kept_from m i j l b (omega arith) k) in
    rw (e, f, drop-row i l b) at rest
