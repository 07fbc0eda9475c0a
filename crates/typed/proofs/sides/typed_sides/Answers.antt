-- `typed_sides` meets its contract: a text that is too long is none, and of the others the reader tells.
use native.Mathlib.Omega.{arith}
use Rattle.typed.proofs.Whole.{typed_long, typed_short}
use Rattle.typed.proofs.sides.typed_sides.Goals as goal

pub returns-then-text-gt-LONGEST : goal.returns-then-text-gt-LONGEST
returns-then-text-gt-LONGEST c = typed_long c.args.m c.args.text.now (omega arith)

pub returns : goal.returns
returns c = typed_short c.args.m c.args.text.now c.sides.result (omega arith) c.sides.ensures
