-- The walk over the columns: before column j the rows in front of `at` are done, and v rows are left, the first of q numbers.
-- Whatever list x these rows become, if it is the insertion of the rest of the line, then the whole is the insertion of the line.
--   Walked                    what holds before column j
--   walked_fits, walked_asks  the next row lies in the basis, and may be lent
--   walked_next, walked_stop  from one column to the next, and no further
use mathlib.Core.Path.{◌≡◌, sym, ap, ap₂, ◌∙◌, subst}
use mathlib.Core.List.{List, ◌∷◌, ◌++◌, append_assoc}
use Prim.Native.Nat.{ℕ, ◌+◌, ◌-◌, ◌≤◌, ◌<◌}
use native.Mathlib.Omega.{arith}
use lib.ListN.{length, take, drop, length-append, length-drop}
use lib.Seq.{take_at, drop_at, drop-drop, length-take-le}
use Rattle.equations.specs.Vectors.{Below}
use Rattle.equations.proofs.Vectors.{below-drop}
use Rattle.elimination.specs.Basis.{insert}
use Rattle.tableau.specs.Packed.{rows, triangle, RowKept, Kept}
use Rattle.tableau.specs.Column.{Inserted, UsedUp}
use Rattle.slices.proofs.Parts.{lent, put_back, lent_is, put_back_is}
use Rattle.tableau.proofs.Packed.{rows_split, rows_behind, triangle-front, triangle-behind}
use Rattle.tableau.proofs.Walk.{kept-front, kept-behind}

-- b₀ and L₀ are the basis and the line before the walk, b and L what they are now
pub record Walked (m w l : ℕ) (b₀ L₀ b L : List ℕ) (at j v q : ℕ) : Type 0 where
  pub columns : v + j ≡ w
  pub numbers : q + j ≡ l
  pub inside : v ≤ q
  pub same_size : length b ≡ length b₀
  pub basis-size : length b ≡ at + triangle v q
  pub line-size : length L ≡ l
  pub below : Below m (drop j L)
  pub kept : Kept m (rows v q (drop at b))
  pub finish : (x : List ℕ) → rows v q x ≡ insert m (rows v q (drop at b)) (drop j L) → Kept m (rows v q x)
      → (rows w l (take at b ++ x) ≡ insert m (rows w l b₀) L₀) × Kept m (rows w l (take at b ++ x))

module _ (m w l : ℕ) (b₀ L₀ b L : List ℕ) (at j v q : ℕ) (W : Walked m w l b₀ L₀ b L at j v q) (some : 0 < v) where
  room : q ≤ length (drop at b)
  room = omega (arith, length-drop at b, W.basis-size, triangle-front v q some)

  pub walked_fits : at + q ≤ length b
  walked_fits = omega (arith, W.basis-size, triangle-front v q some)

  walked_row : (length (take q (drop at b)) ≡ q) × RowKept m (take q (drop at b))
  walked_row = (length-take-le q (drop at b) room, kept-front m v q (drop at b) some W.kept)

  -- the row comes back as r, and nothing is left of the line
  stop : (r : List ℕ) → length r ≡ q → UsedUp m (take q (drop at b)) (drop j L) r
      → (rows w l (take at b ++ (r ++ drop q (drop at b))) ≡ insert m (rows w l b₀) L₀)
      × Kept m (rows w l (take at b ++ (r ++ drop q (drop at b))))
  stop r r-len used =
      let rest = drop q (drop at b) in
      W.finish (r ++ rest)
      (rows_behind v q r rest some r-len
      ∙ sym (used.same (rows (v - 1) (q - 1) rest))
      ∙ ap (λ (B : List (List ℕ)). insert m B (drop j L)) (sym (rows_split v q (drop at b) some)))
      (subst (Kept m) (sym (rows_behind v q r rest some r-len)) (used.kept, kept-behind m v q (drop at b) some W.kept))

  -- the row comes back as r, and the line from its entry j on as L'
  module _ (r L' : List ℕ) (r-len : length r ≡ q) (L'-len : length L' ≡ q)
      (column : Inserted m (take q (drop at b)) (drop j L) r L') where
    abbrev rest : List ℕ
    rest = drop q (drop at b)

    front_length_lem : length (take at b ++ r) ≡ at + q
    front_length_lem = omega (arith, length-append (take at b) r, length-take-le at b (omega (arith, walked_fits)))

    front_is : take (at + q) (take at b ++ (r ++ rest)) ≡ take at b ++ r
    front_is =
        ap (take (at + q)) (sym (append_assoc (take at b) r rest)) ∙ take_at (take at b ++ r) rest (at + q) front_length_lem

    rest_is : drop (at + q) (take at b ++ (r ++ rest)) ≡ rest
    rest_is =
        ap (drop (at + q)) (sym (append_assoc (take at b) r rest)) ∙ drop_at (take at b ++ r) rest (at + q) front_length_lem

    whole_length : length (take at b ++ (r ++ rest)) ≡ length b
    whole_length =
        omega (
          arith,
          length-append (take at b) (r ++ rest),
          length-append r rest,
          length-append (take at b) r,
          front_length_lem,
          length-drop q (drop at b),
          length-drop at b,
          room,
          walked_fits,
        )

    line_is : drop (j + 1) (take j L ++ L') ≡ drop 1 L'
    line_is =
        sym (drop-drop 1 j (take j L ++ L'))
        ∙ ap (drop 1) (drop_at (take j L) L' j (length-take-le j L (omega (arith, W.line-size, W.numbers))))

    finish_next : (x : List ℕ) → rows (v - 1) (q - 1) x ≡ insert m (rows (v - 1) (q - 1) rest) (drop 1 L')
        → Kept m (rows (v - 1) (q - 1) x)
        → (rows w l (take at b ++ (r ++ x)) ≡ insert m (rows w l b₀) L₀) × Kept m (rows w l (take at b ++ (r ++ x)))
    finish_next x e k =
        W.finish (r ++ x)
        (rows_behind v q r x some r-len
        ∙ ap (λ (B : List (List ℕ)). r ∷ B) e
        ∙ sym (column.same (rows (v - 1) (q - 1) rest))
        ∙ ap (λ (B : List (List ℕ)). insert m B (drop j L)) (sym (rows_split v q (drop at b) some)))
        (subst (Kept m) (sym (rows_behind v q r x some r-len)) (column.kept, k))

    next : Walked m w l b₀ L₀ (take at b ++ (r ++ rest)) (take j L ++ L') (at + q) (j + 1) (v - 1) (q - 1)
    next = record {
      columns = omega (arith, W.columns);
      numbers = omega (arith, W.numbers, W.inside);
      inside = omega (arith, W.inside);
      same_size = omega (arith, whole_length, W.same_size);
      basis-size = omega (arith, whole_length, W.basis-size, triangle-behind v q some);
      line-size =
          omega (
            arith,
            length-append (take j L) L',
            length-take-le j L (omega (arith, W.line-size, W.numbers)),
            W.numbers,
            W.line-size,
          );
      below = subst (Below m) (sym line_is) (below-drop m 1 L' column.below);
      kept = subst (λ (s : List ℕ). Kept m (rows (v - 1) (q - 1) s)) (sym rest_is) (kept-behind m v q (drop at b) some W.kept);
      finish = λ x e k.
          rw front_is (rw append_assoc (finish_next x
          (e ∙ ap₂ (λ (s u : List ℕ). insert m (rows (v - 1) (q - 1) s) u) rest_is line_is) k));
    }

-- ---- as the code has it: w - j rows are left, and those that are lent end at `end`

module _ (m w l : ℕ) (b₀ L₀ b L : List ℕ) (at j end : ℕ) (W : Walked m w l b₀ L₀ b L at j (w - j) (l - j)) (some : j < w)
    (ends : end ≡ at + (l - j)) where
  size : end - at ≡ l - j
  size = omega arith

  pub walked_asks : (0 < length (take (end - at) (drop at b))) × (length (take (end - at) (drop at b)) ≡ length (lent j L))
      × RowKept m (take (end - at) (drop at b)) × Below m (lent j L)
  walked_asks =
      let row = walked_row m w l b₀ L₀ b L at j (w - j) (l - j) W (omega arith) in
      let d : length (drop j L) ≡ l - j = length-drop j L ∙ ap (λ (n : ℕ). n - j) W.line-size in
      rw (size, lent_is j L) (
        omega (arith, row.0, W.numbers, W.columns, W.inside),
        row.0 ∙ sym d,
        row.1,
        W.below,
      )

  pub walked_next : (r L' : List ℕ) → length r ≡ length (take (end - at) (drop at b)) → length L' ≡ length (lent j L)
      → Inserted m (take (end - at) (drop at b)) (lent j L) r L'
      → Walked m w l b₀ L₀ (take at b ++ (r ++ drop (end - at) (drop at b))) (put_back j L L') end (j + 1)
      (w - (j + 1)) (l - (j + 1))
  walked_next r L' r-len L'-len column =
      let row = walked_row m w l b₀ L₀ b L at j (w - j) (l - j) W (omega arith) in
      let d : length (drop j L) ≡ l - j = length-drop j L ∙ ap (λ (n : ℕ). n - j) W.line-size in
      let e : w - (j + 1) ≡ w - j - 1 = omega arith in
      let f : l - (j + 1) ≡ l - j - 1 = omega arith in
      rw (size, put_back_is j L L', e, f, ends)
      (next m w l b₀ L₀ b L at j (w - j) (l - j) W (omega arith) r L'
      ((rw size at r-len) ∙ row.0)
      (L'-len ∙ ap length (lent_is j L) ∙ d)
      (rw (size, lent_is j L) at column))

  -- nothing is left of the line
  pub walked_stop : (r : List ℕ) → length r ≡ length (take (end - at) (drop at b))
      → UsedUp m (take (end - at) (drop at b)) (lent j L) r
      → (rows w l (take at b ++ (r ++ drop (end - at) (drop at b))) ≡ insert m (rows w l b₀) L₀)
      × Kept m (rows w l (take at b ++ (r ++ drop (end - at) (drop at b))))
  walked_stop r r-len used =
      let row = walked_row m w l b₀ L₀ b L at j (w - j) (l - j) W (omega arith) in
      rw size
      (stop m w l b₀ L₀ b L at j (w - j) (l - j) W (omega arith) r ((rw size at r-len) ∙ row.0) (rw (size, lent_is j L) at used))
