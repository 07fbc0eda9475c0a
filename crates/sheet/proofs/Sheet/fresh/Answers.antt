-- `Sheet::fresh` meets its contract: it is the memory that the definition writes.
use mathlib.Core.Path.{refl}
use Rattle.sheet.specs.Record.{fresh}
use Rattle.sheet.proofs.Sheet.fresh.Goals as goal

pub returns : goal.returns
unfolding fresh
returns c = refl
