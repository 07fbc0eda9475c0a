-- `products::join` meets its contract: the remainder of the high sum, with what the low one carries, stands for both.
use mathlib.Core.Path.{◌∙◌}
use Rattle.tableau.proofs.Sums.{join_is}
use Rattle.tableau.proofs.products.join.Goals as goal

pub returns-else-high-eq0 : goal.returns-else-high-eq0
returns-else-high-eq0 c =
    let d = c.divide_wide-halves in
    let a = c.args in
    c.reduce-else-high-eq0.ensures.0
    ∙ join_is a.m a.low a.high d.result.remainder d.result.quotient c.wide.result d.ensures.1 d.ensures.0
    (c.wide.ensures ∙ c.reduce-rest.ensures.0)
