-- A basis of w columns in the front of an array: `size` numbers of the array are lent, come back as p, and are lent again.
--   cleared        the array
--   lent_zeros     the front of any array of zeros
--   front-within   the front lies in it
--   front_zeros    it is zeros
--   front_length_lem   how long it is
--   front_fits     it still lies in the array
--   front-size     and is as long as before
--   rows_alone     packed rows with no carried column
use mathlib.Core.Path.{◌≡◌, sym, ap, ◌∙◌}
use mathlib.Core.List.{List, ◌++◌}
use Prim.Native.Nat.{ℕ, ◌+◌, ◌≤◌}
use native.Mathlib.Nat.{add-zero}
use native.Mathlib.Omega.{arith}
use lib.ListN.{length, take, drop, replicate}
use lib.Seq.{length-take-le}
use Rattle.equations.proofs.Unit.{take_zeros}
use Rattle.slices.proofs.Parts.{joined-fit, relent_length}
use Rattle.tableau.specs.Packed.{rows, triangle}
use Rattle.tableau.proofs.Packed.{triangle_mono}

-- enough for 17 columns
abbrev pub cleared : List ℕ
cleared = replicate 153 0

pub lent_zeros : (t c size : ℕ) → size ≡ t → t ≤ c → take size (replicate {A = ℕ} c 0) ≡ replicate t 0
lent_zeros t c size is h = ap (λ (l : ℕ). take l (replicate {A = ℕ} c 0)) is ∙ take_zeros t c h

module _ (w size : ℕ) (few : w ≤ 17) (is : size ≡ triangle w w) where
  pub front-within : size ≤ length cleared
  front-within = omega (arith, triangle_mono w w 17 17 few few, is)

  pub front_zeros : take size cleared ≡ replicate (triangle w w) 0
  front_zeros = lent_zeros (triangle w w) 153 size is (triangle_mono w w 17 17 few few)

  pub front_length_lem : length (take size cleared) ≡ triangle w w
  front_length_lem = length-take-le size cleared front-within ∙ is

  module _ (p : List ℕ) (e : length p ≡ length (take size cleared)) where
    whole : length p ≡ size
    whole = e ∙ length-take-le size cleared front-within

    pub front-size : length (take size (p ++ drop size cleared)) ≡ triangle w w
    front-size = relent_length size cleared p whole ∙ is

    pub front_fits : size ≤ length (p ++ drop size cleared)
    front_fits = joined-fit size cleared p whole

pub rows_alone : (w l : ℕ) (s : List ℕ) (B : List (List ℕ)) → rows w (l + 0) s ≡ B → rows w l s ≡ B
rows_alone w l s B g = ap (λ (i : ℕ). rows w i s) (sym (add-zero l)) ∙ g
