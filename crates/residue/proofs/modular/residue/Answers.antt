-- `residue` meets its contract: size and sign give the residue.
use mathlib.Core.Path.{ap, ◌∙◌}
use mathlib.Core.Bool.{cond}
use Prim.Native.Nat.{ℕ, ◌%◌}
use lib.IntN.{pos}
use lib.Signed.{lt_z}
use mir.Facts.{to_z-of_z}
use mir.Syntax.{w64}
use mir.Val.{to_z, of_z}
use Rattle.residue.specs.Negative.{negative}
use Rattle.residue.specs.Residue.{residue_of}
use Rattle.residue.proofs.Residue.{residue_sized}
use Rattle.residue.proofs.modular.residue.Goals as goal

pub returns : goal.returns
returns c =
    let p = c.args in
    let read = to_z-of_z {w = w64} c.ranges.x in
    let sized = c.unsigned_abs.ensures.value in (
      c.signed.ensures.0
          ∙ ap (λ (k : ℕ). cond (lt_z (to_z w64 (of_z w64 p.x)) (pos 0)) (negative p.m k % p.m) (k % p.m)) sized
          ∙ residue_sized p.m (to_z w64 (of_z w64 p.x)) ∙ ap (residue_of p.m) read,
      c.signed.ensures.1,
    )
