-- `testing::every` meets its contract: the chain looks at every number.
use borrow.Author.Rules.{rules}
use borrow.Author.Tests.{tests}
use Rattle.std.proofs.lemmas.Iterator.{YieldsList-from_slice}
use Rattle.equations.proofs.Chains.{every_from_fold}
use Rattle.equations.proofs.testing.every.Goals as goal

pub returns : goal.returns
returns g c =
    λ passes says.
    every_from_fold passes _ _ c.fold.ensures.ran (YieldsList-from_slice c.args.numbers.now cc) (λ a x b q k. search (rules, tests))
