-- `lines_fit` meets its contract: plain lines always fit, and others are looked at one by one.
use mathlib.Core.Path.{sym, ◌∙◌}
use Rattle.equations.specs.Lines.{equations_of}
use Rattle.equations.proofs.Truth.{of_true}
use Rattle.lines.proofs.Stored.{all_plain}
use Rattle.lines.proofs.lines_fit.Goals as goal

pub returns-then-all_are : goal.returns-then-all_are
returns-then-all_are c =
    let a = c.args in
    c.if-all_are.true
    ∙ sym (all_plain a.m a.moduli.now (equations_of a.n a.numbers.now) c.requires.0 (of_true (sym c.all_are.ensures ∙ c.if-all_are.true)))
