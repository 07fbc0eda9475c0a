-- The pivots of two bases compared, from the last place to the first: `goal` is the
-- outcome for all places, and j of them are left.
--   agree_of_apart                     the pivots agree exactly where no place is apart
--   apart_start                        all places are left
--   apart_stop, apart_on               the pivots at the last of them do not multiply to m, they do
use mathlib.Core.Path.{◌≡◌, refl, sym, ap, ap₂, ◌∙◌}
use mathlib.Core.Bool.{Bool, true, false, cond, not}
use mathlib.Core.List.{List}
use Prim.Native.Nat.{ℕ, zero, suc, ◌+◌, ◌-◌, ◌*◌, ◌<◌}
use native.Mathlib.Omega.{arith}
use lib.Dec.{eqb}
use Rattle.std.specs.Prelude.{Option, Some}
use Rattle.std.specs.Option.{is_some}
use Rattle.elimination.specs.Basis.{pivot}
use Rattle.elimination.specs.Marking.{agree}
use Rattle.elimination.specs.Missed.{apart_for, apart}
use Rattle.elimination.proofs.Missed.{apart-agree}
use Rattle.system.specs.Places.{placed}
use Rattle.system.proofs.Placed.{none_told}

module _ (m n : ℕ) (B C : List (List ℕ)) where
  pub agree_of_apart : (place : Option ℕ) (none : Bool) → place ≡ placed (apart m n B C) → is_some place ≡ not none → none ≡ agree m n B C
  agree_of_apart place none is told = none_told _ place none is told ∙ sym (apart-agree m n B C)

  pub apart_start : apart m n B C ≡ apart_for m n B C n
  unfolding apart
  apart_start = refl

  apart-suc : (j : ℕ) → 0 < j
      → apart_for m n B C j ≡ cond (eqb (pivot (j - 1) C * pivot (n - 1 - (j - 1)) B) m) (apart_for m n B C (j - 1)) j
  apart-suc zero h = absurd (omega arith)
  apart-suc (suc j) h =
      let a : j ≡ suc j - 1 = omega arith in
      let b : n - suc j ≡ n - 1 - (suc j - 1) = omega arith in
      ap₂ (λ (i k : ℕ). cond (eqb (pivot i C * pivot k B) m) (apart_for m n B C i) (suc j)) a b

  -- the code's pivots at the last place, and its outcome there
  module _ (j goal : ℕ) (result : Bool) (c b : ℕ) (h : 0 < j) (g : goal ≡ apart_for m n B C j)
      (e : result ≡ eqb (c * b) m) (of_steps : c ≡ pivot (j - 1) C) (of-equations : b ≡ pivot (n - 1 - (j - 1)) B) where
    test : (t : Bool) → result ≡ t → goal ≡ cond t (apart_for m n B C (j - 1)) j
    test t f =
        g ∙ apart-suc j h
        ∙ ap (λ (z : Bool). cond z (apart_for m n B C (j - 1)) j)
        (sym (ap₂ (λ (x y : ℕ). eqb (x * y) m) of_steps of-equations) ∙ sym e ∙ f)

    pub apart_stop : result ≡ false → Some (j - 1 + 1) ≡ placed goal
    apart_stop f =
        let last : j ≡ suc (j - 1) = omega arith in
        let place : j - 1 + 1 ≡ suc (j - 1) = omega arith in
        ap Some place ∙ ap placed (sym (test false f ∙ last))

    pub apart_on : result ≡ true → goal ≡ apart_for m n B C (j - 1)
    apart_on f = test true f
