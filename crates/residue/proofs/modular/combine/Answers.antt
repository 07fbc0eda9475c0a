-- `combine` meets its contract: the first product may be reduced before the second is added.
use native.Mathlib.Nat.{mod-add-mod}
use Rattle.residue.proofs.modular.combine.Goals as goal

pub returns : goal.returns
returns c = rw (c.mul.ensures.0, mod-add-mod) at c.mul_add.ensures
