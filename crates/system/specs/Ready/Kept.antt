-- What the shared memory holds: for the proof of the code that fills it, and for nobody else.
use Rattle.std.specs.Prelude.{◌≡◌, ◌⊎◌, List, ℕ, replicate}
use Rattle.std.proofs.Math.Logic.{inr}
use Rattle.system.specs.Model.Marking.{basis_room, Prepared}
use Rattle.system.specs.Ready.{Ready}

module _ (m n : ℕ) (lines s : List ℕ) where
  pub ready_is : Ready m n lines s → (s ≡ replicate basis_room 0) ⊎ Prepared m n lines s
  unfolding Ready
  ready_is ready = ready

  pub prepared_ready : Prepared m n lines s → Ready m n lines s
  unfolding Ready
  prepared_ready there = inr there
