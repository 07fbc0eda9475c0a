-- `reading::pivot_at` meets its contract: the rows in front of row i are the first numbers of the basis.
use mathlib.Core.Path.{sym, ap, ◌∙◌}
use Prim.Native.Nat.{ℕ}
use native.Mathlib.Omega.{arith}
use lib.ListN.{get_or}
use Rattle.system.proofs.Rows.{pivot-rows}
use Rattle.system.proofs.reading.pivot_at.Goals as goal

pub returns : goal.returns
returns c w h =
    let a = c.args in
    ap (λ (k : ℕ). get_or a.basis.now k 0) c.packed_size-at.ensures
    ∙ sym (pivot-rows w a.i a.l a.basis.now h (omega arith))
