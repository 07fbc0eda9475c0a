-- Memory that the marks of claims about the same lines share: zeros before the first of them, and then as the last one left it. What it
-- holds then is the method's business, so the name is shut: its body is no promise. Kept is for the code that fills it.
use Rattle.std.specs.Prelude.{◌≡◌, refl, ◌⊎◌, List, ℕ, replicate}
use Rattle.std.proofs.Common.{inl}
use Rattle.system.specs.Model.Marking.{basis_room, Prepared}
pub mod Kept

pub Ready : ℕ → ℕ → List ℕ → List ℕ → Type 0
Ready m n lines s = (s ≡ replicate basis_room 0) ⊎ Prepared m n lines s

-- zeros are ready for all lines
pub zeros_ready : (m n : ℕ) (lines : List ℕ) → Ready m n lines (replicate basis_room 0)
unfolding Ready
zeros_ready m n lines = inl refl
