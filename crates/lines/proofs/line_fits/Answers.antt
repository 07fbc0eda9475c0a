-- `line_fits` meets its contract: a plain line always fits, and of any other both tests are made.
use mathlib.Core.Path.{sym, ◌∙◌}
use borrow.Author.Tests.{eq-eqb}
use Rattle.lines.proofs.Stored.{plain_fits}
use Rattle.lines.proofs.line_fits.Goals as goal

pub returns-then-q-m : goal.returns-then-q-m
returns-then-q-m c =
    let a = c.args in
    eq-eqb a.q a.m c.if-q-m.true ∙ sym (plain_fits a.m a.q a.line.now c.requires c.if-q-m.true)
