-- `filling::unit_vector` meets its contract: zeros, and a 1 stored if there is a place for it.
use mathlib.Core.Path.{◌≡◌, refl, ap, ◌∙◌}
use mathlib.Core.List.{List, ◌∷◌}
use Prim.Native.Nat.{ℕ, zero, suc, ◌≤◌}
use native.Mathlib.Omega.{arith}
use lib.ListN.{length, set, replicate}
use Rattle.equations.specs.Vectors.{unit}
use Rattle.equations.proofs.Unit.{unit_store}
use Rattle.tableau.proofs.filling.unit_vector.Goals as goal

-- a unit vector has no 1 where its place is behind the end
unit_past : (n i : ℕ) → n ≤ i → replicate n 0 ≡ unit n i
unit_past zero i h = refl
unit_past (suc n) zero h = absurd (omega arith)
unit_past (suc n) (suc i) h = ap {B = List ℕ} (λ z. 0 ∷ z) (unit_past n i (omega arith))

pub returns-then-i-out : goal.returns-then-i-out
returns-then-i-out c =
    let a = c.args in
    ap (λ (z : List ℕ). set z a.i 1) (c.fill.ensures.after (λ y e. e))
    ∙ unit_store (length a.out.now) a.i

pub returns-else-i-out : goal.returns-else-i-out
returns-else-i-out c =
    let a = c.args in
    c.fill.ensures.after (λ y e. e) ∙ unit_past (length a.out.now) a.i (omega arith)
