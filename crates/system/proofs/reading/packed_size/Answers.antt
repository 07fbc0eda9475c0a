-- `reading::packed_size` meets its contract: the sum of the rows' lengths as a product.
use native.Mathlib.Omega.{arith}
use Rattle.system.proofs.Rows.{triangle-closed}
use Rattle.system.proofs.reading.packed_size.Goals as goal

pub returns : goal.returns
returns c = triangle-closed c.args.w c.args.l (omega arith)
