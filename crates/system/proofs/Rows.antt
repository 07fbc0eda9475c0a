-- Where the rows of a packed basis lie.
--   triangle-closed   i rows, the first of l numbers, as a product
--   rows-count        how many rows there are
--   triangle-within   the next row begins in the list
--   pivot-rows        and its first number is its pivot
--   pivot-kept        which is not 0
--   carried_rows      the last row but for its pivot stands at the end of the list
--   extend-rows       back substitution of j columns looks at the first j rows only
--   extend_zeros      and zeros at the end of the entries behind them may be left out
use mathlib.Core.Path.{◌≡◌, refl, sym, ap, ◌∙◌}
use mathlib.Core.List.{List, [], ◌∷◌, ◌++◌}
use Prim.Native.Nat.{ℕ, zero, suc, pred, ◌+◌, ◌-◌, ◌*◌, ◌/◌, ◌<◌, ◌≤◌}
use native.Mathlib.Nat.{div-eq_of_eq-mul_right}
use native.Mathlib.Numerals.{add-one}
use native.Mathlib.Omega.{arith}
use lib.ListN.{length, take, drop, get_or, replicate, length-drop}
use lib.Seq.{get_or-drop, drop-drop, take_all}
use Rattle.equations.specs.Equation.{dot}
use Rattle.equations.proofs.Dot.{dot_comm, dot_zeros}
use Rattle.elimination.specs.Basis.{pivot}
use Rattle.elimination.specs.Substitution.{extend, fit, place}
use Rattle.tableau.specs.Packed.{rows, triangle, Kept}

triangle_twice : (i l : ℕ) → i ≤ l → 2 * triangle i l + i * i ≡ i * (2 * l + 1)
triangle_twice zero l h = omega arith
triangle_twice (suc i) zero h = absurd (omega arith)
triangle_twice (suc i) (suc l) h = omega (arith, triangle_twice i l (omega arith))

pub triangle-closed : (i l : ℕ) → i ≤ l → i * (2 * l + 1 - i) / 2 ≡ triangle i l
triangle-closed i l h = div-eq_of_eq-mul_right (omega arith) (product (2 * l + 1 - i) (omega arith))
  where
    product : (k : ℕ) → k + i ≡ 2 * l + 1 → i * k ≡ 2 * triangle i l
    product k e = omega (arith, triangle_twice i l h, ap (λ (z : ℕ). i * z) e)

pub rows-count : (w l : ℕ) (s : List ℕ) → length (rows w l s) ≡ w
rows-count zero l s = refl
rows-count (suc w) l s = ap suc (rows-count w (pred l) (drop l s))

pub triangle-within : (w i l : ℕ) → i < w → w ≤ l → triangle i l < triangle w l
triangle-within zero i l h g = absurd (omega arith)
triangle-within (suc w) i zero h g = absurd (omega arith)
triangle-within (suc w) zero (suc l) h g = omega arith
triangle-within (suc w) (suc i) (suc l) h g = omega (arith, triangle-within w i l (omega arith) (omega arith))

first-number : (l : ℕ) (s : List ℕ) (B : List (List ℕ)) → 0 < l → pivot 0 (take l s ∷ B) ≡ get_or s 0 0
first-number zero s B h = absurd (omega arith)
first-number (suc l) [] B h = refl
first-number (suc l) (x ∷ s) B h = refl

pub pivot-rows : (w i l : ℕ) (s : List ℕ) → i < w → i < l → pivot i (rows w l s) ≡ get_or s (triangle i l) 0
pivot-rows zero i l s h g = absurd (omega arith)
pivot-rows (suc w) i zero s h g = absurd (omega arith)
pivot-rows (suc w) zero (suc l) s h g = first-number (suc l) s (rows w l (drop (suc l) s)) (omega arith)
pivot-rows (suc w) (suc i) (suc l) s h g =
    pivot-rows w i l (drop (suc l) s) (omega arith) (omega arith) ∙ get_or-drop (suc l) s (triangle i l) 0

pub extend-rows : (m j w l : ℕ) (s T : List ℕ) → j ≤ w → extend m j (rows j l s) T ≡ extend m j (rows w l s) T
extend-rows m zero w l s T h = refl
extend-rows m (suc j) zero l s T h = absurd (omega arith)
extend-rows m (suc j) (suc w) l s T h =
    ap (λ (Y : List ℕ). fit m (take l s) Y ∷ Y) (extend-rows m j w (pred l) (drop l s) T (omega arith))

dot-behind : (r Y : List ℕ) (z : ℕ) → dot r (Y ++ replicate z 0) ≡ dot r Y
dot-behind [] Y z = refl
dot-behind (a ∷ r) [] z = dot_comm (a ∷ r) (replicate z 0) ∙ dot_zeros z (a ∷ r)
dot-behind (a ∷ r) (y ∷ Y) z = ap (λ (s : ℕ). a * y + s) (dot-behind r Y z)

fit-behind : (m z : ℕ) (r Y : List ℕ) → fit m r (Y ++ replicate z 0) ≡ fit m r Y
fit-behind m z [] Y = refl
fit-behind m z (d ∷ r) Y = ap (place m d) (dot-behind r Y z)

pub extend_zeros : (m j z : ℕ) (B : List (List ℕ)) (T : List ℕ)
    → extend m j B (T ++ replicate z 0) ≡ extend m j B T ++ replicate z 0
extend_zeros m zero z B T = refl
extend_zeros m (suc j) z [] T = refl
extend_zeros m (suc j) z (r ∷ B) T =
    ap (λ (Y : List ℕ). fit m r Y ∷ Y) (extend_zeros m j z B T)
    ∙ ap {B = List ℕ} (λ x. x ∷ (extend m j B T ++ replicate z 0)) (fit-behind m z r (extend m j B T))

pub pivot-kept : (m w i l : ℕ) (s : List ℕ) → i < w → w ≤ l → length s ≡ triangle w l → Kept m (rows w l s)
    → 0 < pivot i (rows w l s)
pivot-kept m zero i l s h g e k = absurd (omega arith)
pivot-kept m (suc w) i zero s h g e k = absurd (omega arith)
pivot-kept m (suc w) zero (suc l) [] h g e k = absurd (omega arith)
pivot-kept m (suc w) zero (suc l) (x ∷ s) h g e k = k.0.0
pivot-kept m (suc w) (suc i) (suc l) s h g e k =
    pivot-kept m w i l (drop (suc l) s) (omega arith) (omega arith) (length-drop (suc l) s ∙ omega arith) k.1

carried : (n l k : ℕ) (s : List ℕ) → l ≡ suc n + k → length s ≡ triangle (suc n) l
    → drop 1 (get_or (rows (suc n) l s) n []) ≡ drop (length s - k) s
carried zero l k s e h =
    let a : length s - k ≡ 1 = omega arith in
    ap (λ (z : List ℕ). drop 1 z) (take_all l s (omega arith)) ∙ ap (λ (z : ℕ). drop z s) (sym a)
carried (suc n) zero k s e h = absurd (omega arith)
carried (suc n) (suc l) k s e h =
    let a : suc l + (length (drop (suc l) s) - k) ≡ length s - k = omega (arith, length-drop (suc l) s) in
    carried n l k (drop (suc l) s) (omega arith) (omega (arith, length-drop (suc l) s))
    ∙ drop-drop (length (drop (suc l) s) - k) (suc l) s
    ∙ ap (λ (z : ℕ). drop z s) a

-- the last row but for its pivot is what stands at the end of the list
pub carried_rows : (n k : ℕ) (s : List ℕ) → length s ≡ triangle (n + 1) (n + 1 + k)
    → drop 1 (get_or (rows (n + 1) (n + 1 + k) s) n []) ≡ drop (length s - k) s
carried_rows n k s h =
    ap (λ (w : ℕ). drop 1 (get_or (rows w (n + 1 + k) s) n [])) (add-one n)
    ∙ carried n (n + 1 + k) k s (omega arith) (h ∙ ap (λ (w : ℕ). triangle w (n + 1 + k)) (add-one n))
