-- Sets of lines that are closed under combination mod m, and that the rows of a basis are in such a set if the lines
-- are from which it is built. Whether a line is in the set depends on its sums of products alone.
--   Linear             has every line that is 0 everywhere, and all combinations
--   linear-same        has every line with the sums of one of its lines
--   linear_rest        so have the lines that are in it with a 0 in front
--   linear-zero        the lines that are 0 at X are such a set
--   Rows               every row of a basis is in the set, with zeros at the columns before its own
--   rows-basis         the rows of a basis are in the set if its lines are
--   rows_drop          the row at column j
use mathlib.Core.Path.{◌≡◌, ◌∙◌, subst}
use mathlib.Core.List.{List, [], ◌∷◌, ◌++◌}
use Prim.Native.Nat.{ℕ, zero, suc, ◌+◌, ◌*◌, ◌<◌}
use native.Mathlib.Omega.{arith}
use lib.ListN.{length, drop, replicate}
use Rattle.residue.specs.Congruent.{Congruent}
use Rattle.residue.proofs.Congruent.{congruent_of, congruent_of_eq, congruent_refl, congruent_trans, congruent_combine}
use Rattle.equations.specs.Vectors.{combine}
use Rattle.equations.specs.Equation.{dot}
use Rattle.equations.proofs.Dot.{dot_zeros, length-combine}
use Rattle.elimination.specs.Step.{Step}
use Rattle.elimination.specs.Basis.{insert, inserts, empty, basis}
use Rattle.elimination.proofs.Step.{Numbers, step_numbers, row-value, line-value}
use Rattle.elimination.proofs.Zeros.{Shape, length-insert, shape_insert}
use Rattle.elimination.proofs.Basis.{All, Long, length-basis, good_basis}

-- ---- sets closed under combination

pub record Linear (m : ℕ) (Q : List ℕ → Type 0) : Type 0 where
  pub null : (c : List ℕ) → ((X : List ℕ) → Congruent m (dot c X) 0) → Q c
  pub combined : (s t : ℕ) (a b c : List ℕ) → Q a → Q b
      → ((X : List ℕ) → Congruent m (dot c X) (s * dot a X + t * dot b X)) → Q c

pub linear-same : {m : ℕ} (Q : List ℕ → Type 0) → Linear m Q → (a c : List ℕ) → Q a
    → ((X : List ℕ) → Congruent m (dot c X) (dot a X)) → Q c
linear-same Q linear a c q h =
    linear.combined 1 0 a a c q q (λ X. congruent_trans (h X) (congruent_of_eq (omega arith)))

null_rest : (m : ℕ) (c : List ℕ) → ((X : List ℕ) → Congruent m (dot c X) 0) → (X : List ℕ)
    → Congruent m (dot (0 ∷ c) X) 0
null_rest m c h [] = congruent_refl
null_rest m c h (x ∷ X) = congruent_trans {b = dot c X} (congruent_of_eq (omega arith)) (h X)

combined_rest : (m s t : ℕ) (a b c : List ℕ) → ((X : List ℕ) → Congruent m (dot c X) (s * dot a X + t * dot b X))
    → (X : List ℕ) → Congruent m (dot (0 ∷ c) X) (s * dot (0 ∷ a) X + t * dot (0 ∷ b) X)
combined_rest m s t a b c h [] = congruent_of_eq (omega arith)
combined_rest m s t a b c h (x ∷ X) =
    congruent_trans {b = dot c X} (congruent_of_eq (omega arith))
    (congruent_trans (h X) (congruent_of_eq (omega arith)))

pub linear_rest : (m : ℕ) (Q : List ℕ → Type 0) → Linear m Q → Linear m (λ W. Q (0 ∷ W))
linear_rest m Q linear = record {
  null = λ c h. linear.null (0 ∷ c) (null_rest m c h);
  combined = λ s t a b c p q h. linear.combined s t (0 ∷ a) (0 ∷ b) (0 ∷ c) p q (combined_rest m s t a b c h);
}

pub linear-zero : (m : ℕ) (X : List ℕ) → Linear m (λ W. Congruent m (dot W X) 0)
linear-zero m X = record {
  null = λ c h. h X;
  combined = λ s t a b c p q h. congruent_trans (h X) (congruent_combine s t p q);
}

-- ---- lines and rows in a set

abbrev pub Rows : (List ℕ → Type 0) → List (List ℕ) → Type 0
Rows Q [] = Unit {0}
Rows Q (r ∷ B) = Q r × Rows (λ W. Q (0 ∷ W)) B

pub rows_drop : (Q : List ℕ → Type 0) (j : ℕ) (B rest : List (List ℕ)) (r : List ℕ) → Rows Q B → drop j B ≡ r ∷ rest
    → Q (replicate j 0 ++ r)
rows_drop Q zero [] rest r rows e = absurd (let z : ◌≡◌ {A = ℕ} 0 1 = cc in omega arith)
rows_drop Q zero (a ∷ B) rest r rows e = let f : a ≡ r = cc in subst Q f rows.0
rows_drop Q (suc j) [] rest r rows e = absurd (let z : ◌≡◌ {A = ℕ} 0 1 = cc in omega arith)
rows_drop Q (suc j) (a ∷ B) rest r rows e = rows_drop (λ W. Q (0 ∷ W)) j B rest r rows.1 e

-- ---- a step, an insertion, a basis

module _ {m d v : ℕ} {x : Step} (N : Numbers m d v x) (r W : List ℕ) (len : length r ≡ length W) where
  row-combined : (X : List ℕ)
      → Congruent m (dot (x.g ∷ combine m x.s x.t r W) X) (x.s * dot (d ∷ r) X + x.t * dot (v ∷ W) X)
  row-combined [] = congruent_of_eq (omega arith)
  row-combined (y ∷ X) = row-value N y r W X len

  line-combined : (X : List ℕ)
      → Congruent m (dot (0 ∷ combine m x.p x.n r W) X) (x.p * dot (d ∷ r) X + x.n * dot (v ∷ W) X)
  line-combined [] = congruent_of_eq (omega arith)
  line-combined (y ∷ X) = congruent_trans (congruent_of_eq (omega arith)) (line-value N y r W X len)

rows-insert : (m k : ℕ) (Q : List ℕ → Type 0) (B : List (List ℕ)) (W : List ℕ) → 0 < m → Linear m Q → Shape k B
    → length W ≡ length B + k → Rows Q B → Q W → Rows Q (insert m B W)
rows-insert m k Q [] W pos linear shape len rows q = tt
rows-insert m k Q ([] ∷ B) W pos linear shape len rows q = rows
rows-insert m k Q ((d ∷ r) ∷ B) [] pos linear shape len rows q = rows
rows-insert m k Q ((d ∷ r) ∷ B) (zero ∷ W) pos linear shape len rows q = (
  rows.0,
  rows-insert m k (λ W. Q (0 ∷ W)) B W pos (linear_rest m Q linear) shape.2 (omega arith) rows.1 q,
)
rows-insert m k Q ((d ∷ r) ∷ B) (suc v ∷ W) pos linear shape len rows q =
    let N = step_numbers m d (suc v) pos shape.1 in
    let e : length r ≡ length W = omega arith in (
      linear.combined _ _ (d ∷ r) (suc v ∷ W) _ rows.0 q (row-combined N r W e),
      rows-insert m k (λ W. Q (0 ∷ W)) B _ pos (linear_rest m Q linear) shape.2
          (length-combine m _ _ r W e ∙ shape.0) rows.1
          (linear.combined _ _ (d ∷ r) (suc v ∷ W) _ rows.0 q (line-combined N r W e)),
    )

null_empty : (m j : ℕ) (X : List ℕ) → Congruent m (dot (m ∷ replicate j 0) X) 0
null_empty m j [] = congruent_refl
null_empty m j (x ∷ X) = congruent_of 0 x (omega (arith, dot_zeros j X))

rows_empty : (m k w : ℕ) (Q : List ℕ → Type 0) → Linear m Q → Rows Q (empty m k w)
rows_empty m k zero Q linear = tt
rows_empty m k (suc w) Q linear =
    (linear.null _ (null_empty m (w + k)), rows_empty m k w (λ W. Q (0 ∷ W)) (linear_rest m Q linear))

rows-inserts : (m w k : ℕ) (Q : List ℕ → Type 0) (B ls : List (List ℕ)) → 0 < m → Linear m Q → length B ≡ w → Shape k B
    → Long (w + k) ls → Rows Q B → All Q ls → Rows Q (inserts m B ls)
rows-inserts m w k Q B [] pos linear lb shape long rows q = rows
rows-inserts m w k Q B (l ∷ ls) pos linear lb shape long rows q =
    rows-inserts m w k Q (insert m B l) ls pos linear (length-insert m B l ∙ lb)
    (shape_insert m k B l pos shape (omega arith)) long.1
    (rows-insert m k Q B l pos linear shape (omega arith) rows q.0) q.1

pub rows-basis : (m w k : ℕ) (Q : List ℕ → Type 0) (ls : List (List ℕ)) → 0 < m → Linear m Q → Long (w + k) ls
    → All Q ls
    → Rows Q (basis m w k ls)
unfolding basis
rows-basis m w k Q ls pos linear long q =
    rows-inserts m w k Q (empty m k w) ls pos linear (length-basis m w k pos [])
    (good_basis m w k pos [] tt).shape long (rows_empty m k w Q linear) q
