-- `lines::lines_into` meets its contract. The invariant: the lines of the first i locks are written, and what is behind them is as it was.
use mathlib.Core.Path.{refl, ◌∙◌}
use Prim.Native.Nat.{◌+◌, ◌*◌}
use native.Mathlib.Omega.{arith}
use borrow.Author.Rules.{rules}
use lib.ListN.{length}
use Rattle.safe.proofs.Laid.{lines_on_lem, lines_end}
use Rattle.safe.proofs.lines.lines_into.Goals as goal

pub loop-i-preserved : goal.loop-i-preserved
loop-i-preserved c =
    let l = c.loop-i in
    let a = c.args in
    (search rules, lines_on_lem a.m a.columns a.values.now a.lines.now l.i (l.i * (length a.values.now + 1)) l.lines c.line_into.new.line (omega arith) refl l.invariant.1 c.line_into.ensures)

pub returns : goal.returns
returns c =
    let l = c.loop-i in
    let a = c.args in
    l.invariant.1
    ∙ lines_end a.m a.columns a.values.now a.lines.now l.i (l.i * (length a.values.now + 1)) (omega arith) refl c.requires.2
