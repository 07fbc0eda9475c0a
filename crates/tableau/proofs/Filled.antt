-- A basis that is filled line by line: what is inserted already, with the lines that are left, is the whole.
--   Filled, filled_start, -next, -end   before the first line, one more, after the last one
--   filled_asks                         the next line is of residues
use mathlib.Core.Path.{◌≡◌, sym, ap, ap₂, ◌∙◌, subst}
use mathlib.Core.Bool.{Bool}
use mathlib.Core.List.{List, ◌++◌}
use Prim.Native.Nat.{ℕ, zero, suc, ◌+◌, ◌<◌}
use native.Mathlib.Nat.{le_refl}
use native.Mathlib.Omega.{arith}
use lib.ListN.{length, take, drop, replicate, length-append, length-replicate}
use lib.Seq.{take_at, drop_at}
use Rattle.equations.specs.Vectors.{Below}
use Rattle.elimination.specs.Basis.{insert, inserts, empty, basis}
use Rattle.tableau.specs.Packed.{rows, triangle, Kept}
use Rattle.tableau.specs.Lines.{Loadable, line_at, lines_of}
use Rattle.equations.proofs.Vectors.{below_zeros, below-drop, below-take}
use Rattle.tableau.proofs.Lines.{loadable_some, line-front, lines_none, lines_more}

kept-empty : (m k w : ℕ) → 0 < m → Kept m (empty m k w)
kept-empty m k zero h = tt
kept-empty m k (suc w) h = (
  (
    h,
    le_refl m,
    below_zeros m (w + k) h,
    λ e. ap (λ (l : ℕ). replicate l 0) (sym (length-replicate (w + k) 0)),
  ),
  kept-empty m k w h,
)

-- `all` holds all the lines, `rest` those that are left, the first of them with the number i
pub record Filled (plain : Bool) (m n k : ℕ) (all b rest : List ℕ) (i : ℕ) : Type 0 where
  pub size : length b ≡ triangle (n + 1) (n + 1 + k)
  pub below : Below m rest
  pub kept : Kept m (rows (n + 1) (n + 1 + k) b)
  pub same : inserts m (rows (n + 1) (n + 1 + k) b) (lines_of plain m n k i rest) ≡ basis m (n + 1) k (lines_of plain m n k 0 all)

module _ (plain : Bool) (m n k : ℕ) (all : List ℕ) where
  pub filled_start : (b : List ℕ) → Loadable plain m k → Below m all → length b ≡ triangle (n + 1) (n + 1 + k)
      → rows (n + 1) (n + 1 + k) b ≡ empty m k (n + 1) → Filled plain m n k all b all 0
  unfolding basis
  filled_start b h below size e = record {
    size = size;
    below = below;
    kept = rw e (kept-empty m k (n + 1) (loadable_some plain m k h));
    same = ap (λ (B : List (List ℕ)). inserts m B (lines_of plain m n k 0 all)) e;
  }

  module _ (b rest line after : List ℕ) (i : ℕ) (B : Filled plain m n k all b rest i) (cut : rest ≡ line ++ after)
      (long : length line ≡ n + 1) where
    first : take (n + 1) rest ≡ line
    first = ap (take (n + 1)) cut ∙ take_at line after (n + 1) long

    others : drop (n + 1) rest ≡ after
    others = ap (drop (n + 1)) cut ∙ drop_at line after (n + 1) long

    pub filled_asks : Below m line
    filled_asks = subst (Below m) first (below-take m (n + 1) rest B.below)

    pub filled_next : (c : List ℕ) → length c ≡ length b
        → rows (n + 1) (n + 1 + k) c ≡ insert m (rows (n + 1) (n + 1 + k) b) (line_at plain m n k i line)
        → Kept m (rows (n + 1) (n + 1 + k) c) → Filled plain m n k all c after (i + 1)
    filled_next c size e kept = record {
      size = size ∙ B.size;
      below = subst (Below m) others (below-drop m (n + 1) rest B.below);
      kept = kept;
      same =
          ap₂ (λ (C : List (List ℕ)) (s : List ℕ). inserts m C (lines_of plain m n k (i + 1) s))
          (e ∙ ap (λ (x : List ℕ). insert m (rows (n + 1) (n + 1 + k) b) (line_at plain m n k i x)) (sym first)
          ∙ ap (insert m (rows (n + 1) (n + 1 + k) b)) (line-front plain m n k i rest))
          (sym others)
          ∙ ap (inserts m (rows (n + 1) (n + 1 + k) b))
          (sym (lines_more plain m n k i rest (omega (arith, ap length cut, length-append line after, long))))
          ∙ B.same;
    }

  pub filled_end : (b rest : List ℕ) (i : ℕ) → Filled plain m n k all b rest i → length rest < n + 1
      → rows (n + 1) (n + 1 + k) b ≡ basis m (n + 1) k (lines_of plain m n k 0 all)
  filled_end b rest i B h =
      ap (inserts m (rows (n + 1) (n + 1 + k) b)) (sym (lines_none plain m n k i rest (omega arith))) ∙ B.same
