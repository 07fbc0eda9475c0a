-- One column of the insertion, in the four ways that the code goes. Where parts of the row R and the line W are lent, they are
-- written as the code lends them: without their first entries.
--   row_head, row_rest                the row's first entry is a pivot, those behind it are residues
--   column-zero                       the line's entry is 0
--   column-divided                    the pivot divides it
--   column-reduced                    neither; with `divided` and `quotient_le` of its quotients, and `reduction`, its numbers
--   column-first                      the row holds nothing yet
--   column_used_up                    and its new pivot is 1, so that nothing is left of the line
--   not_both                          a line is used up or it is not
use mathlib.Core.Path.{◌≡◌, refl, sym, ap, ap₂, ◌∙◌, subst, subst₂}
use mathlib.Core.Bool.{Bool, true, false}
use mathlib.Core.List.{List, [], ◌∷◌}
use Prim.Native.Nat.{ℕ, zero, suc, ◌+◌, ◌-◌, ◌*◌, ◌/◌, ◌%◌, ◌≤◌, ◌<◌}
use native.Mathlib.Nat.{suc_inj, sub-zero, div-one, div-le_self, div-add-mod', mod-lt, zero-mod, mod_self, mod-eq_of_lt}
use native.Mathlib.Omega.{arith}
use lib.ListN.{length, drop, get_or, set, replicate}
use borrow.Author.Tests.{eq-eqb, ne_eqb}
use Rattle.residue.specs.Gcd.{gcd}
use Rattle.residue.specs.Bezout.{cofactors}
use Rattle.residue.specs.Negative.{negative}
use Rattle.residue.specs.Cofactors.{bezout_of}
use Rattle.residue.specs.declared.extended.Bezout.{Bezout}
use Rattle.residue.proofs.Divides.{divides_le}
use Rattle.residue.proofs.Gcd.{gcd_positive, gcd_divides_right}
use Rattle.equations.specs.Vectors.{combine, Below}
use Rattle.equations.proofs.Vectors.{below-combine}
use Rattle.elimination.specs.Step.{step_of}
use Rattle.elimination.specs.Basis.{insert}
use Rattle.tableau.specs.Packed.{RowKept}
use Rattle.tableau.specs.Column.{Inserted, UsedUp}
use Rattle.slices.proofs.Parts.{lent, put_back, lent_is, put_back_is}

pub row_head : (m : ℕ) (R : List ℕ) → 0 < length R → RowKept m R → (0 < get_or R 0 0) × (get_or R 0 0 ≤ m)
row_head m [] h k = absurd (omega arith)
row_head m (d ∷ R) h k = (k.0, k.1)

pub row_rest : (m : ℕ) (R : List ℕ) → RowKept m R → Below m (drop 1 R)
row_rest m [] k = tt
row_rest m (d ∷ R) k = k.2

-- 1·r + 0·w is r
combine-left : (m : ℕ) (r w : List ℕ) → length r ≡ length w → Below m r → combine m 1 0 r w ≡ r
combine-left m [] w h b = refl
combine-left m (x ∷ r) [] h b = absurd (omega arith)
combine-left m (x ∷ r) (y ∷ w) h b =
    let e : 1 * x + 0 * y ≡ x = omega arith in
    ap₂ {C = List ℕ} (λ z s. z ∷ s) (ap (λ (z : ℕ). z % m) e ∙ mod-eq_of_lt b.0) (combine-left m r w (suc_inj h) b.1)

pub column-zero : (m : ℕ) (R W : List ℕ) → 0 < length R → length R ≡ length W → RowKept m R → Below m W → get_or W 0 0 ≡ 0
    → Inserted m R W R W
column-zero m [] W h g k b z = absurd (omega arith)
column-zero m (d ∷ R) [] h g k b z = absurd (omega arith)
column-zero m (d ∷ R) (suc v ∷ W) h g k b z = absurd (omega arith)
column-zero m (d ∷ R) (zero ∷ W) h g k b z = record { same = λ B. refl; kept = k; below = b }

divided-insert : (m d v : ℕ) (R W : List ℕ) (B : List (List ℕ)) → length R ≡ length W → Below m R → suc v % d ≡ 0
    → insert m ((d ∷ R) ∷ B) (suc v ∷ W) ≡ (d ∷ R) ∷ insert m B (combine m (suc v / d) (negative m 1 % m) R W)
unfolding step_of
divided-insert m d v R W B h b e =
    rw (eq-eqb (suc v % d) 0 e)
    (ap (λ (r : List ℕ). (d ∷ r) ∷ insert m B (combine m (suc v / d) (negative m 1 % m) R W)) (combine-left m R W h b))

pub column-divided : (m : ℕ) (R W l : List ℕ) → 0 < length R → length R ≡ length W → RowKept m R → Below m W → 0 < get_or W 0 0
    → get_or W 0 0 % get_or R 0 0 ≡ 0
    → l ≡ combine m (get_or W 0 0 / get_or R 0 0) (negative m 1 % m) (lent 1 R) (lent 1 W)
    → Inserted m R W R (put_back 1 W l)
column-divided m [] W l h g k b p z e = absurd (omega arith)
column-divided m (d ∷ R) [] l h g k b p z e = absurd (omega arith)
column-divided m (d ∷ R) (zero ∷ W) l h g k b p z e = absurd (omega arith)
column-divided m (d ∷ R) (suc v ∷ W) l h g k b p z e =
    subst (Inserted m (d ∷ R) (suc v ∷ W) (d ∷ R)) (sym (put_back_is 1 (suc v ∷ W) l)) (record {
      same = λ B. divided-insert m d v R W B (suc_inj g) k.2 z ∙ ap (λ (w : List ℕ). (d ∷ R) ∷ insert m B w) (sym f);
      kept = k;
      below = (b.0, subst (Below m) (sym f) (below-combine m _ _ R W (omega (arith, k.0, k.1))));
    })
  where
    f : l ≡ combine m (suc v / d) (negative m 1 % m) R W
    f = e ∙ ap₂ (combine m (suc v / d) (negative m 1 % m)) (lent_is 1 (d ∷ R)) (lent_is 1 (suc v ∷ W))

reduced-insert : (m d v : ℕ) (R W : List ℕ) (B : List (List ℕ)) → (suc v % d ≡ 0 → ⊥)
    → insert m ((d ∷ R) ∷ B) (suc v ∷ W)
    ≡ (gcd d (suc v) ∷ combine m (cofactors m d (suc v)).s (cofactors m d (suc v)).t R W)
    ∷ insert m B (combine m (suc v / gcd d (suc v)) (negative m (d / gcd d (suc v)) % m) R W)
unfolding step_of
reduced-insert m d v R W B e = rw (ne_eqb (suc v % d) 0 e)

-- the numbers of the step, as the code has them from its callees
abbrev pub Reduction : ℕ → ℕ → ℕ → ℕ → ℕ → ℕ → ℕ → ℕ → Type 0
Reduction m d v g s t p n =
    (g ≡ gcd d v) × (s ≡ (cofactors m d v).s) × (t ≡ (cofactors m d v).t) × (p ≡ v / g) × (n ≡ negative m (d / g) % m)

pub divided : (v d q r : ℕ) → 0 < d → q ≡ v / d → r ≡ v % d → (v ≡ r + q * d) × (r < d)
divided v d q r pos e f = (rw (e, f) (sum (v / d * d) (v % d) (div-add-mod' v d)), rw f (mod-lt v pos))
  where
    sum : (x y : ℕ) → x + y ≡ v → v ≡ y + x
    sum x y g = omega (arith, g)

pub quotient_le : (m d v : ℕ) (c : Bezout) → c ≡ bezout_of m d v → c.p ≤ v
unfolding bezout_of
quotient_le m d v c e = rw e (div-le_self v (gcd d v))

pub reduction : (m d v : ℕ) (c : Bezout) (n : ℕ) → c ≡ bezout_of m d v → n ≡ negative m c.q % m
    → Reduction m d v c.divisor c.s c.t c.p n
unfolding bezout_of
reduction m d v c n e f = rw (f, e) (refl, refl, refl, refl, refl)

pub column-reduced : (m g s t p n : ℕ) (R W r l : List ℕ) → 0 < length R → length R ≡ length W → RowKept m R → Below m W
    → 0 < get_or W 0 0 → (get_or W 0 0 % get_or R 0 0 ≡ 0 → ⊥) → Reduction m (get_or R 0 0) (get_or W 0 0) g s t p n
    → r ≡ combine m s t (lent 1 R) (lent 1 W)
    → l ≡ combine m p n (lent 1 R) (lent 1 W)
    → Inserted m R W (set (put_back 1 R r) 0 g) (put_back 1 W l)
column-reduced m g s t p n [] W r l h e k b q z x i j = absurd (omega arith)
column-reduced m g s t p n (d ∷ R) [] r l h e k b q z x i j = absurd (omega arith)
column-reduced m g s t p n (d ∷ R) (zero ∷ W) r l h e k b q z x i j = absurd (omega arith)
column-reduced m g s t p n (d ∷ R) (suc v ∷ W) r l h e k b q z (eg, es, et, ep, en) i j =
    subst₂ (Inserted m (d ∷ R) (suc v ∷ W)) (sym (ap (λ (w : List ℕ). set w 0 g) (put_back_is 1 (d ∷ R) r)))
    (sym (put_back_is 1 (suc v ∷ W) l)) (record {
      same = λ B. reduced-insert m d v R W B z
          ∙ ap₂ {C = List (List ℕ)} (λ u w. u ∷ insert m B w) (sym row) (sym line);
      kept = (
        positive,
        omega (arith, small),
        subst (Below m) (sym f) (below-combine m s t R W (omega (arith, k.0, k.1))),
        λ full. absurd (omega (arith, small)),
      );
      below = (b.0, subst (Below m) (sym y) (below-combine m p n R W (omega (arith, k.0, k.1))));
    })
  where
    f : r ≡ combine m s t R W
    f = i ∙ ap₂ (combine m s t) (lent_is 1 (d ∷ R)) (lent_is 1 (suc v ∷ W))

    y : l ≡ combine m p n R W
    y = j ∙ ap₂ (combine m p n) (lent_is 1 (d ∷ R)) (lent_is 1 (suc v ∷ W))

    row : ◌≡◌ {A = List ℕ} (g ∷ r) (gcd d (suc v) ∷ combine m (cofactors m d (suc v)).s (cofactors m d (suc v)).t R W)
    row = ap₂ {C = List ℕ} (λ u w. u ∷ w) eg (f ∙ ap₂ (λ (u w : ℕ). combine m u w R W) es et)

    line : l ≡ combine m (suc v / gcd d (suc v)) (negative m (d / gcd d (suc v)) % m) R W
    line =
        y ∙ ap₂ (λ (u w : ℕ). combine m u w R W) (ep ∙ ap (λ (u : ℕ). suc v / u) eg)
        (en ∙ ap (λ (u : ℕ). negative m (d / u) % m) eg)

    positive : 0 < g
    positive = subst (λ (u : ℕ). 0 < u) (sym eg) (gcd_positive d (suc v) (omega arith))

    small : g < m
    small = omega (arith, eg, b.0, divides_le (omega arith) (gcd_divides_right d (suc v)))

-- a row of zeros in a combination is the line with the factor t alone
zeros_combine : (m s t : ℕ) (r w : List ℕ) → length r ≡ length w → r ≡ replicate (length r) 0
    → combine m s t r w ≡ combine m 0 t w w
zeros_combine m s t r w h z = ap (λ (x : List ℕ). combine m s t x w) (z ∙ ap (λ (l : ℕ). replicate l 0) h) ∙ go w
  where
    go : (w : List ℕ) → combine m s t (replicate (length w) 0) w ≡ combine m 0 t w w
    go [] = refl
    go (y ∷ w) =
        let e : s * 0 + t * y ≡ 0 * y + t * y = omega arith in
        ap₂ {C = List ℕ} (λ x u. x ∷ u) (ap (λ (x : ℕ). x % m) e) (go w)

-- the parts that are lent of a row with the pivot m and of the line
blank_combine : (m s t : ℕ) (R W : List ℕ) → 0 < length R → length R ≡ length W → RowKept m R → get_or R 0 0 ≡ m
    → combine m 0 t (lent 1 W) (lent 1 W) ≡ combine m s t (lent 1 R) (lent 1 W)
blank_combine m s t [] W h g k e = absurd (omega arith)
blank_combine m s t (d ∷ R) [] h g k e = absurd (omega arith)
blank_combine m s t (d ∷ R) (v ∷ W) h g k e =
    ap (λ (w : List ℕ). combine m 0 t w w) (lent_is 1 (v ∷ W))
    ∙ sym (zeros_combine m s t R W (suc_inj g) (k.3 e))
    ∙ sym (ap₂ (combine m s t) (lent_is 1 (d ∷ R)) (lent_is 1 (v ∷ W)))

no_multiple : (m d v : ℕ) → d ≡ m → 0 < v → v < m → v % d ≡ 0 → ⊥
no_multiple m d v e pos small z = omega (arith, mod-eq_of_lt small, ap (λ (x : ℕ). v % x) e, z)

pub column-first : (m : ℕ) (c : Bezout) (n : ℕ) (R W r l : List ℕ) → 0 < length R → length R ≡ length W → RowKept m R
    → Below m W → get_or R 0 0 ≡ m → 0 < get_or W 0 0 → get_or W 0 0 < m → c ≡ bezout_of m m (get_or W 0 0)
    → n ≡ negative m c.q % m
    → r ≡ combine m 0 c.t (lent 1 W) (lent 1 W)
    → l ≡ combine m 0 n (lent 1 W) (lent 1 W)
    → Inserted m R W (set (put_back 1 R r) 0 c.divisor) (put_back 1 W l)
column-first m c n R W r l h e k b full pos small is minus i j =
    let d = get_or R 0 0 in let v = get_or W 0 0 in
    column-reduced m c.divisor c.s c.t c.p n R W r l h e k b pos (no_multiple m d v full pos small)
    (reduction m d v c n (is ∙ ap (λ (x : ℕ). bezout_of m x v) (sym full)) minus)
    (i ∙ blank_combine m c.s c.t R W h e k full)
    (j ∙ blank_combine m c.p n R W h e k full)

-- ---- what is left of the line behind a row that held nothing

insert_zeros : (m k : ℕ) (B : List (List ℕ)) → insert m B (replicate k 0) ≡ B
insert_zeros m k [] = refl
insert_zeros m k ([] ∷ B) = refl
insert_zeros m zero ((d ∷ r) ∷ B) = refl
insert_zeros m (suc k) ((d ∷ r) ∷ B) = ap {B = List (List ℕ)} (λ C. (d ∷ r) ∷ C) (insert_zeros m k B)

nothing_left : (m : ℕ) (w : List ℕ) → combine m 0 0 w w ≡ replicate (length w) 0
nothing_left m [] = refl
nothing_left m (x ∷ w) =
    let e : 0 * x + 0 * x ≡ 0 = omega arith in
    ap₂ {C = List ℕ} (λ y u. y ∷ u) (ap (λ (z : ℕ). z % m) e ∙ zero-mod m) (nothing_left m w)

nothing_inserted : (m q : ℕ) (W : List ℕ) (B : List (List ℕ)) → q ≡ m → insert m B (combine m 0 (negative m q % m) W W) ≡ B
unfolding negative
nothing_inserted m q W B e =
    ap (insert m B) (ap (λ (k : ℕ). combine m 0 k W W) none ∙ nothing_left m W) ∙ insert_zeros m (length W) B
  where
    none : negative m q % m ≡ 0
    none =
        ap (λ (k : ℕ). (m - k % m) % m) e
        ∙ ap (λ (k : ℕ). (m - k) % m) (mod_self m) ∙ ap (λ (k : ℕ). k % m) (sub-zero m) ∙ mod_self m

whole-quotient : (m d v : ℕ) (c : Bezout) → c ≡ bezout_of m d v → c.divisor ≡ 1 → c.q ≡ d
unfolding bezout_of
whole-quotient m d v c e one =
    ap (λ (c : Bezout). c.q) e ∙ ap (λ (g : ℕ). d / g) (sym (ap (λ (c : Bezout). c.divisor) e) ∙ one) ∙ div-one d

pub column_used_up : (m : ℕ) (c : Bezout) (R W r : List ℕ) → 0 < length R → length R ≡ length W → RowKept m R
    → Below m W → get_or R 0 0 ≡ m → 0 < get_or W 0 0 → get_or W 0 0 < m → c ≡ bezout_of m m (get_or W 0 0) → c.divisor ≡ 1
    → r ≡ combine m 0 c.t (lent 1 W) (lent 1 W)
    → UsedUp m R W (set (put_back 1 R r) 0 c.divisor)
column_used_up m c R [] r h e k b full pos small is one i = absurd (omega arith)
column_used_up m c R (v ∷ W) r h e k b full pos small is one i =
    let n = negative m c.q % m in
    let l = combine m 0 n (lent 1 (v ∷ W)) (lent 1 (v ∷ W)) in
    let C = column-first m c n R (v ∷ W) r l h e k b full pos small is refl i refl in
    record {
      same = λ B.
          C.same B
          ∙ ap {B = List (List ℕ)} (λ w. set (put_back 1 R r) 0 c.divisor ∷ w)
          (ap (λ (w : List ℕ). insert m B (drop 1 w)) (put_back_is 1 (v ∷ W) l)
          ∙ nothing_inserted m c.q (lent 1 (v ∷ W)) B (whole-quotient m m v c is one));
      kept = C.kept;
    }

pub not_both : {A : Type 0} {b : Bool} → b ≡ true → b ≡ false → A
not_both t f = let z : ◌≡◌ {A = ℕ} 0 1 = cc in absurd (omega arith)
