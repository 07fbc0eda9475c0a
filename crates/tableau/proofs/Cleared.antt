-- A basis of no equation, made of zeros: in front of `at` the rows have their pivot m, and `left` rows are still zeros.
--   Cleared                       what holds before each row
--   cleared_next, cleared_end     one row, behind the last one
use mathlib.Core.Path.{◌≡◌, refl, sym, ap, ap₂, ◌∙◌}
use mathlib.Core.List.{List, [], ◌∷◌, ◌++◌, append_assoc, append-nil}
use Prim.Native.Nat.{ℕ, zero, suc, ◌+◌, ◌-◌, ◌<◌}
use native.Mathlib.Omega.{arith}
use lib.ListN.{length, take, drop, set, replicate, length-append, length-replicate, take-append-drop, replicate-append-replicate}
use lib.Seq.{take_at, drop_at, set_at, take-length, length-take-le}
use Rattle.elimination.specs.Basis.{empty}
use Rattle.tableau.specs.Packed.{rows, triangle}
use Rattle.tableau.proofs.Packed.{clear_next}

pub record Cleared (m k w : ℕ) (b : List ℕ) (at left : ℕ) : Type 0 where
  pub size : length b ≡ at + triangle left (left + k)
  pub zeros : drop at b ≡ replicate (triangle left (left + k)) 0
  pub finish : (x : List ℕ) → rows left (left + k) x ≡ empty m k left → rows w (w + k) (take at b ++ x) ≡ empty m k w

triangle-suc : (v k : ℕ) → triangle (suc v) (suc v + k) ≡ suc (v + k) + triangle v (v + k)
triangle-suc v k = let e : suc v + k ≡ suc (v + k) = omega arith in rw e

module _ (m k w : ℕ) (b : List ℕ) (at v : ℕ) (C : Cleared m k w b at (suc v)) where
  -- the row with its pivot, and the zeros behind it
  abbrev row : List ℕ
  row = m ∷ replicate (v + k) 0

  abbrev rest : List ℕ
  rest = replicate (triangle v (v + k)) 0

  front : length (take at b) ≡ at
  front = length-take-le at b (omega (arith, C.size))

  front-row : length (take at b ++ row) ≡ at + (suc v + k)
  front-row = omega (arith, length-append (take at b) row, front, length-replicate {A = ℕ} (v + k) 0)

  behind : drop at b ≡ 0 ∷ (replicate (v + k) 0 ++ rest)
  behind =
      C.zeros ∙ ap (λ (n : ℕ). replicate n 0) (triangle-suc v k)
      ∙ sym (replicate-append-replicate {A = ℕ} (suc (v + k)) (triangle v (v + k)) 0)

  stored : set b at m ≡ (take at b ++ row) ++ rest
  stored =
      ap (λ (s : List ℕ). set s at m) (sym (take-append-drop at b))
      ∙ ap (λ (s : List ℕ). set (take at b ++ s) at m) behind
      ∙ set_at (take at b) 0 (replicate (v + k) 0 ++ rest) m at front
      ∙ sym (append_assoc (take at b) row rest)

  next : Cleared m k w (set b at m) (at + (suc v + k)) v
  next = record {
    size = ap length stored ∙ length-append (take at b ++ row) rest ∙ ap₂ (λ (x y : ℕ). x + y) front-row (length-replicate {A = ℕ} (triangle v (v + k)) 0);
    zeros = ap (drop (at + (suc v + k))) stored ∙ drop_at (take at b ++ row) rest (at + (suc v + k)) front-row;
    finish = λ x e.
        ap (λ (s : List ℕ). rows w (w + k) (s ++ x))
        (ap (take (at + (suc v + k))) stored ∙ take_at (take at b ++ row) rest (at + (suc v + k)) front-row)
        ∙ ap (rows w (w + k)) (append_assoc (take at b) row x)
        ∙ C.finish (row ++ x) (more x e);
  }
    where
      more : (x : List ℕ) → rows v (v + k) x ≡ empty m k v → rows (suc v) (suc v + k) (row ++ x) ≡ empty m k (suc v)
      more x e =
          let a : suc v - 1 ≡ v = omega arith in
          let d : suc v + k - 1 ≡ v + k = omega arith in
          clear_next m k (suc v) row x (omega arith) (omega (arith, length-replicate {A = ℕ} (v + k) 0)) (rw d) (rw a e)

pub cleared_next : (m k w : ℕ) (b : List ℕ) (at left : ℕ) → 0 < left → Cleared m k w b at left
    → Cleared m k w (set b at m) (at + (left - 1 + 1 + k)) (left - 1)
cleared_next m k w b at zero h C = absurd (omega arith)
cleared_next m k w b at (suc v) h C =
    let a : suc v - 1 ≡ v = omega arith in
    let e : v + 1 ≡ suc v = omega arith in
    rw (a, e) (next m k w b at v C)

pub cleared_end : (m k w : ℕ) (b : List ℕ) (at left : ℕ) → left ≡ 0 → Cleared m k w b at left → rows w (w + k) b ≡ empty m k w
cleared_end m k w b at zero h C =
    let e : at ≡ length b = omega (arith, C.size) in
    ap (rows w (w + k)) (sym (append-nil (take at b) ∙ ap (λ (n : ℕ). take n b) e ∙ take-length b)) ∙ C.finish [] refl
cleared_end m k w b at (suc left) h C = absurd (omega arith)
