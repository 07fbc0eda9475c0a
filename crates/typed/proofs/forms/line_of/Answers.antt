-- `line_of` meets its contract: the first n coefficients, and the right side behind them.
use native.Mathlib.Omega.{arith}
use Rattle.typed.proofs.Made.{line_made}
use Rattle.typed.proofs.forms.line_of.Goals as goal

pub returns : goal.returns
returns c =
    let x = c.args in
    line_made x.m x.n x.a.now x.b.now _ (omega arith) (omega arith) c.copy_from_slice.ensures.after c.combine_all-coefficients.ensures
    c.combine.ensures.0
