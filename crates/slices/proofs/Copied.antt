-- A loop that writes a list to the front of a lent one, an element a turn: one invariant for every such loop.
--   Copied       the first i elements of xs are written, and behind them the lent list is as it was
--   copied_none  before the first turn
--   copied_more  a turn
--   copied_all   after the last
--   moving_length, moving_next   so it is where xs lies in the lent list itself, further back: what is read is not written yet
use mathlib.Core.Path.{◌≡◌, refl, sym, ap, ap₂, ◌∙◌}
use mathlib.Core.List.{List, ◌++◌}
use Prim.Native.Nat.{ℕ, suc, ◌+◌, ◌<◌, ◌≤◌}
use native.Mathlib.Numerals.{add-one}
use native.Mathlib.Omega.{arith}
use lib.ListN.{length, take, drop, get_or, set, length-set, length-drop}
use lib.Seq.{take-length, take-suc, drop-cons, set_at, append_snoc, length-take-le, get_or-take, get_or-drop, get_or-append-add}
use Rattle.slices.specs.Over.{over}

module _ {A : Type 0} where
  abbrev pub Copied : ℕ → List A → List A → List A → Type 0
  Copied i xs old new = (i ≤ length xs) × (length new ≡ length old) × (new ≡ take i xs ++ drop i old)

  pub copied_none : (xs old : List A) → Copied 0 xs old old
  copied_none xs old = (omega arith, refl, refl)

  one_more : (i : ℕ) (xs old : List A) (z : A) → i < length xs → i < length old
      → set (take i xs ++ drop i old) i (get_or xs i z) ≡ take (i + 1) xs ++ drop (i + 1) old
  one_more i xs old z h g =
      rw (add-one, drop-cons old i z, take-suc xs i z)
      (set_at (take i xs) (get_or old i z) (drop (suc i) old) (get_or xs i z) i (length-take-le i xs (omega arith))
      ∙ sym (append_snoc (take i xs) (get_or xs i z) (drop (suc i) old)))

  pub copied_more : (i : ℕ) (xs old : List A) (z : A) {new : List A} {x : A} → Copied i xs old new → i < length xs
      → i < length old → x ≡ get_or xs i z → Copied (i + 1) xs old (set new i x)
  copied_more i xs old z {new} {x} (_, long, is) h g e = (
    omega arith,
    length-set new i x ∙ long,
    ap₂ (λ (l : List A) (y : A). set l i y) is e ∙ one_more i xs old z h g,
  )

  pub copied_all : (i : ℕ) (xs old : List A) {new : List A} → Copied i xs old new → i ≡ length xs → new ≡ over xs old
  copied_all i xs old (_, _, is) h =
      is ∙ ap (λ (k : ℕ). take k xs ++ drop k old) h ∙ ap (λ (l : List A). l ++ drop (length xs) old) (take-length xs)

  module _ (by count : ℕ) (old : List A) (fits : by + count ≤ length old) where
    pub moving_length : length (take count (drop by old)) ≡ count
    moving_length = length-take-le count (drop by old) (omega (arith, length-drop by old))

    -- behind the i elements that are written, the list is as it was
    pub moving_next : (i : ℕ) {new : List A} (z : A) → Copied i (take count (drop by old)) old new → i < count
        → get_or new (by + i) z ≡ get_or (take count (drop by old)) i z
    moving_next i {new} z (_, _, is) h =
        let front = take i (take count (drop by old)) in
        let long : length front ≡ i = length-take-le i (take count (drop by old)) (omega (arith, moving_length)) in
        let place : by + i ≡ length front + by = omega (arith, long) in
        let same : i + by ≡ by + i = omega arith in
        ap₂ (λ (l : List A) (k : ℕ). get_or l k z) is place
        ∙ get_or-append-add front (drop i old) by z
        ∙ get_or-drop i old by z
        ∙ ap (λ (k : ℕ). get_or old k z) same
        ∙ sym (get_or-take count (drop by old) i z h ∙ get_or-drop by old i z)
