-- `shapes::is_equation` meets its contract: it looks at how many kinds there are, at all but the last, and at the last.
use mathlib.Core.Path.{sym, ◌∙◌}
use mathlib.Core.List.{[], ◌∷◌, ◌++◌}
use native.Mathlib.Omega.{arith}
use borrow.Author.Tests.{not-true, not-false}
use lib.ListN.{replicate}
use Rattle.words.specs.Words.{coefficient_kind, right_kind}
use Rattle.words.proofs.Compared.{kinds_other, kinds_last}
use Rattle.ledger.proofs.Shapes.{equation_kinds}
use Rattle.asking.proofs.shapes.is_equation.Goals as goal

pub returns-then-kinds-n : goal.returns-then-kinds-n
returns-then-kinds-n c =
    let a = c.args in
    sym (kinds_other a.kinds.now (replicate a.n coefficient_kind ++ (right_kind ∷ []))
    (λ e. c.if-kinds-n.true (e ∙ equation_kinds a.n)))

pub returns-then-not-run_of : goal.returns-then-not-run_of
returns-then-not-run_of c =
    let a = c.args in
    rw (
      kinds_last a.n a.kinds.now coefficient_kind right_kind (omega arith),
      sym c.run_of.ensures ∙ not-true _ c.if-not-run_of.true-raw,
    )

pub returns : goal.returns
returns c =
    let a = c.args in
    rw (
      kinds_last a.n a.kinds.now coefficient_kind right_kind (omega arith),
      sym c.run_of.ensures ∙ not-false _ c.if-not-run_of.false-raw,
    )
