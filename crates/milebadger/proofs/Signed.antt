-- Signed results on their way through a function.
--   handed_on        a result that is returned as the callee gave it
--   held-most        what a call counts is at most so much, where it says how many
use mathlib.Core.Path.{◌≡◌, refl, ◌∙◌}
use Prim.Native.Nat.{ℕ, ◌<◌, ◌≤◌, ◌^◌}
use native.Mathlib.Omega.{arith}
use lib.IntN.{ℤ}
use lib.Signed.{mag}
use mir.Facts.{to_z-of_z}
use mir.Syntax.{w64}
use mir.Val.{to_z, of_z}
use Rattle.std.specs.Prelude.{Result, Ok, Err}
use Rattle.sheet.specs.View.{held_by}

pub handed_on : {x y : ℤ} → mag x < 2 ^ 63 → x ≡ y → to_z w64 (of_z w64 x) ≡ y
handed_on fits e = to_z-of_z {w = w64} (record { sfits = fits }) ∙ e

pub held-most : (most : ℕ) (r : Result ℕ ℕ) → ((k : ℕ) → r ≡ Ok k → k ≤ most) → held_by r ≤ most
held-most most (Ok k) few = few k refl
held-most most (Err k) few = omega arith
