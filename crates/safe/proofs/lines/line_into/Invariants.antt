-- `lines::line_into` meets its contract. The invariant: the first p coefficients are written, what is behind them as it was.
-- The measure is what is left.
use Rattle.slices.proofs.Copied.{Copied}
use Rattle.safe.specs.Model.Lines.{coefficients}
use Rattle.safe.proofs.lines.line_into.Given as goal

abbrev pub invariant-loop-p : goal.invariant-loop-p
invariant-loop-p l =
    Copied l.p (coefficients l.columns l.i 0 l.n) l.initial.line l.line
