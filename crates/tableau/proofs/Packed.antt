-- Packed rows, one row more.
--   rows_split       the first row and the rows behind it
--   rows_behind      a row in front of packed rows
--   rows_whole       the rows of a list that is as long as they are all of it
--   triangle-front   the first row lies in the list
--   triangle-behind  and this is what lies behind it
--   triangle-last    one row more at the end
--   triangle_mono    fewer and shorter rows are fewer numbers
--   drop-row         what lies behind i rows, without the next one
--   clear_next       a blank row in front of a cleared basis
--   length_zeros     how many numbers zeros are
use mathlib.Core.Path.{◌≡◌, refl, sym, ap, ap₂, ◌∙◌}
use mathlib.Core.List.{List, [], ◌∷◌, ◌++◌, flatten}
use Prim.Native.Nat.{ℕ, zero, suc, pred, ◌+◌, ◌-◌, ◌<◌, ◌≤◌}
use native.Mathlib.Omega.{arith}
use lib.ListN.{length, take, drop, replicate, length-drop, length-replicate, take-append-drop}
use lib.Seq.{take_at, drop_at, drop-drop, length-take-le}
use Rattle.elimination.specs.Basis.{empty}
use Rattle.tableau.specs.Packed.{rows, triangle}

pub rows_split : (w l : ℕ) (s : List ℕ) → 0 < w → rows w l s ≡ take l s ∷ rows (w - 1) (l - 1) (drop l s)
rows_split zero l s h = absurd (omega arith)
rows_split (suc w) l s h =
    let e : suc w - 1 ≡ w = omega arith in
    let f : l - 1 ≡ pred l = omega arith in
    rw (e, f)

pub rows_behind : (w l : ℕ) (r x : List ℕ) → 0 < w → length r ≡ l → rows w l (r ++ x) ≡ r ∷ rows (w - 1) (l - 1) x
rows_behind w l r x h g =
    rows_split w l (r ++ x) h
    ∙ ap₂ {C = List (List ℕ)} (λ a c. a ∷ rows (w - 1) (l - 1) c) (take_at r x l g) (drop_at r x l g)

pub rows_whole : (w l : ℕ) (s : List ℕ) → length s ≡ triangle w l → flatten (rows w l s) ≡ s
unfolding flatten
rows_whole zero l [] h = refl
rows_whole zero l (x ∷ s) h = absurd (omega arith)
rows_whole (suc w) l s h =
    ap (λ (z : List ℕ). take l s ++ z) (rows_whole w (pred l) (drop l s) (omega (arith, length-drop l s)))
    ∙ take-append-drop l s

pub triangle-front : (w l : ℕ) → 0 < w → l ≤ triangle w l
triangle-front zero l h = absurd (omega arith)
triangle-front (suc w) l h = omega arith

pub triangle-behind : (w l : ℕ) → 0 < w → triangle w l ≡ l + triangle (w - 1) (l - 1)
triangle-behind zero l h = absurd (omega arith)
triangle-behind (suc w) l h =
    let e : suc w - 1 ≡ w = omega arith in
    let f : l - 1 ≡ pred l = omega arith in
    rw (e, f)

pub triangle-last : (i l : ℕ) → triangle (suc i) l ≡ triangle i l + (l - i)
triangle-last zero l = omega arith
triangle-last (suc i) l = omega (arith, triangle-last i (pred l))

pub triangle_mono : (w l a b : ℕ) → w ≤ a → l ≤ b → triangle w l ≤ triangle a b
triangle_mono zero l a b h g = omega arith
triangle_mono (suc w) l zero b h g = absurd (omega arith)
triangle_mono (suc w) l (suc a) b h g = omega (arith, triangle_mono w (pred l) a (pred b) (omega arith) (omega arith))

pub drop-row : (i l : ℕ) (b : List ℕ) → drop (l - i) (drop (triangle i l) b) ≡ drop (triangle (suc i) l) b
drop-row i l b = drop-drop (l - i) (triangle i l) b ∙ ap (λ (n : ℕ). drop n b) (sym (triangle-last i l))

pub rows_fit : (w l : ℕ) (b : List ℕ) → 0 < w → length b ≡ triangle w l → l ≤ length b
rows_fit w l b h g = omega (arith, triangle-front w l h)

pub front_length_lem : (w l : ℕ) (b : List ℕ) → 0 < w → length b ≡ triangle w l → length (take l b) ≡ l
front_length_lem w l b h g = length-take-le l b (rows_fit w l b h g)

-- the blank row r is one of w + k numbers, as the code has it
pub clear_next : (m k w : ℕ) (r x : List ℕ) → 0 < w → length r ≡ w + k → r ≡ m ∷ replicate (w + k - 1) 0
    → rows (w - 1) (w - 1 + k) x ≡ empty m k (w - 1) → rows w (w + k) (r ++ x) ≡ empty m k w
clear_next m k zero r x h g e f = absurd (omega arith)
clear_next m k (suc w) r x h g e f =
    let a : suc w - 1 ≡ w = omega arith in
    let b : suc w + k - 1 ≡ w + k = omega arith in
    rows_behind (suc w) (suc w + k) r x h g
    ∙ (rw (e, a, b) (ap (λ (B : List (List ℕ)). (m ∷ replicate (w + k) 0) ∷ B) (rw a at f)))

pub length_zeros : (t : ℕ) {s : List ℕ} → s ≡ replicate t 0 → length s ≡ t
length_zeros t e = ap length e ∙ length-replicate t 0
