-- Back substitution, a column in each turn: before a turn the entries from i on are known, and the row of column i - 1 is the next.
--   Extended                        what holds before a turn
--   extended_next                   one turn
--   extended_ends, -asks            the next row lies in the list, is kept, and is as long as is wanted
use mathlib.Core.Path.{◌≡◌, refl, sym, ap, ap₂, ◌∙◌, subst}
use mathlib.Core.List.{List, ◌∷◌}
use Prim.Native.Nat.{ℕ, suc, ◌+◌, ◌-◌, ◌≤◌, ◌<◌}
use native.Mathlib.Nat.{le_refl}
use native.Mathlib.Numerals.{add-one}
use native.Mathlib.Omega.{arith}
use lib.ListN.{length, take, drop, set, length-drop, length-set}
use lib.Seq.{length-take-le, take-take, set_split, drop_at}
use Rattle.equations.specs.Vectors.{Below}
use Rattle.elimination.specs.Substitution.{fit, extend}
use Rattle.tableau.specs.Packed.{rows, triangle, RowKept, Kept}
use Rattle.slices.proofs.Parts.{lent, lent_is, lent_length}
use Rattle.tableau.proofs.Packed.{rows_split, triangle-last, triangle_mono, drop-row}
use Rattle.tableau.proofs.Column.{row_head}
use Rattle.tableau.proofs.Walk.{kept-front, kept_from}
use Rattle.tableau.proofs.Entry.{row-short, fit-short, extend_split}

-- X are the entries before the first turn, x those before this one; the j rows in b begin with one of l numbers
pub record Extended (m j l : ℕ) (b X x : List ℕ) (at i : ℕ) : Type 0 where
  pub passed : i ≤ j
  pub place_is : at ≡ triangle i l
  pub size : length x ≡ length X
  pub same : drop i x ≡ extend m (j - i) (rows (j - i) (l - i) (drop at b)) (drop j X)
  pub below : Below m (drop i x)

drop-stored : (p v : ℕ) (x : List ℕ) → p < length x → drop p (set x p v) ≡ v ∷ drop (suc p) x
drop-stored p v x h =
    ap (drop p) (set_split x p v h) ∙ drop_at (take p x) (v ∷ drop (suc p) x) p (length-take-le p x (omega arith))

less_one : (n p : ℕ) → n - p - 1 ≡ n - suc p
less_one n p = omega arith

-- ---- one turn: the row of column p begins at o

module _ (m j l : ℕ) (b X x : List ℕ) (at p o : ℕ) (E : Extended m j l b X x at (suc p)) (inside : j ≤ length X)
    (wide : length X ≤ l) (room : triangle j l ≤ length b) (begins : o ≡ at - (l - p)) where
  begins_at : o ≡ triangle p l
  begins_at = omega (arith, begins, E.place_is, triangle-last p l)

  fits : o + (l - p) ≤ length b
  fits = omega (arith, begins_at, triangle-last p l, triangle_mono (suc p) l j l E.passed (le_refl l), room)

  behind-fits : l - p ≤ length (drop o b)
  behind-fits = omega (arith, length-drop o b, fits)

  left : 0 < j - p
  left = omega (arith, E.passed)

  -- the numbers of the row that are lent
  row_kept : Kept m (rows j l b) → RowKept m (take (length X - p) (drop o b))
  row_kept kept =
      let n = length-take-le (l - p) (drop o b) behind-fits in
      let k = kept_from m p j l b (omega (arith, E.passed)) kept in
      let h : length X - p ≤ l - p = omega (arith, wide) in
      subst (RowKept m) (take-take (length X - p) (l - p) (drop o b) h)
      (row-short m (length X - p) (take (l - p) (drop o b)) (omega (arith, n, h))
      (kept-front m (j - p) (l - p) (drop o b) left
      (subst (λ (n : ℕ). Kept m (rows (j - p) (l - p) (drop n b))) (sym begins_at) k)))

  rest_is : drop (l - p) (drop o b) ≡ drop at b
  rest_is =
      ap (λ (n : ℕ). drop (l - p) (drop n b)) begins_at ∙ drop-row p l b ∙ ap (λ (n : ℕ). drop n b) (sym E.place_is)

  short : p < length x
  short = omega (arith, E.passed, E.size)

  next : (v : ℕ) → v ≡ fit m (take (length X - p) (drop o b)) (drop (suc p) x) → v < m
      → Extended m j l b X (set x p v) o p
  next v is small = record {
    passed = omega (arith, E.passed);
    place_is = begins_at;
    size = length-set x p v ∙ E.size;
    same = drop-stored p v x short ∙ ap₂ {C = List ℕ} (λ y s. y ∷ s) entry E.same ∙ sym split;
    below = subst (Below m) (sym (drop-stored p v x short)) (small, E.below);
  }
    where
      Y : List ℕ
      Y = extend m (j - suc p) (rows (j - suc p) (l - suc p) (drop at b)) (drop j X)

      entry : v ≡ fit m (take (l - p) (drop o b)) Y
      entry =
          is
          ∙ fit-short m (l - p) (length X - p) (drop o b) (drop (suc p) x)
          (omega (arith, length-drop (suc p) x, E.size, short))
          (omega (arith, wide))
          ∙ ap (fit m (take (l - p) (drop o b))) E.same

      split : extend m (j - p) (rows (j - p) (l - p) (drop o b)) (drop j X) ≡ fit m (take (l - p) (drop o b)) Y ∷ Y
      split =
          ap (λ (B : List (List ℕ)). extend m (j - p) B (drop j X)) (rows_split (j - p) (l - p) (drop o b) left)
          ∙ extend_split m (j - p) (take (l - p) (drop o b)) (rows (j - p - 1) (l - p - 1) (drop (l - p) (drop o b))) (drop j X)
          left
          ∙ rw (less_one j p, less_one l p, rest_is)

-- ---- as the code has it: the row of column i - 1, of which as much is lent as there are entries

module _ (m j k : ℕ) (b X x : List ℕ) (at i : ℕ) (E : Extended m j (length X + k) b X x at i) (some : 0 < i)
    (inside : j ≤ length X) (room : triangle j (length X + k) ≤ length b) where
  abbrev p : ℕ
  p = i - 1

  abbrev l : ℕ
  l = length X + k

  abbrev o : ℕ
  o = at - (l - p)

  abbrev end : ℕ
  end = o + (length X - p)

  before : Extended m j l b X x at (suc p)
  before = let e : i ≡ suc (i - 1) = omega arith in subst (Extended m j l b X x at) e E

  wide : length X ≤ l
  wide = omega arith

  whole : o + (l - p) ≤ length b
  whole = fits m j l b X x at p o before inside wide room refl

  pub extended_ends : end ≤ length b
  extended_ends = omega (arith, whole)

  size_is : end - o ≡ length X - p
  size_is = omega arith

  met : p < length X
  met = omega (arith, before.passed, inside)

  row-length : length (take (end - o) (drop o b)) ≡ length X - p
  row-length =
      ap (λ (n : ℕ). length (take n (drop o b))) size_is
      ∙ length-take-le (length X - p) (drop o b) (omega (arith, length-drop o b, whole))

  rest_length : length (lent (p + 1) x) ≡ length X - suc p
  rest_length = lent_length (p + 1) x ∙ ap₂ (λ (n q : ℕ). n - q) before.size (add-one p)

  pub extended_asks : length X ≤ 65536 → Kept m (rows j l b)
      → (0 < m) × (length (take (end - o) (drop o b)) ≡ length (lent (p + 1) x) + 1) × (length (lent (p + 1) x) ≤ 65536)
      × RowKept m (take (end - o) (drop o b)) × Below m (lent (p + 1) x)
  extended_asks few kept =
      let r : RowKept m (take (end - o) (drop o b)) = subst (λ (n : ℕ). RowKept m (take n (drop o b))) (sym size_is)
      (row_kept m j l b X x at p o before inside wide room refl kept) in
      let d = row_head m (take (end - o) (drop o b)) (omega (arith, row-length, met)) r in (
        omega (arith, d.0, d.1),
        omega (arith, row-length, rest_length, met),
        omega (arith, rest_length),
        r,
        subst (Below m) (sym (lent_is (p + 1) x ∙ ap (λ (n : ℕ). drop n x) (add-one p))) before.below,
      )

  pub extended_next : (v : ℕ) → v ≡ fit m (take (end - o) (drop o b)) (lent (p + 1) x) → v < m
      → Extended m j l b X (set x p v) o p
  extended_next v is small =
      next m j l b X x at p o before inside wide room refl v
      (is
      ∙ ap₂ (λ (n : ℕ) (y : List ℕ). fit m (take n (drop o b)) y) size_is
      (lent_is (p + 1) x ∙ ap (λ (n : ℕ). drop n x) (add-one p)))
      small
