-- `all_are` meets its contract: the chain looks at every modulus.
use Prim.Native.Nat.{ℕ}
use borrow.Author.Rules.{rules}
use borrow.Author.Tests.{tests}
use lib.Dec.{eqb}
use Rattle.std.proofs.lemmas.Iterator.{YieldsList-from_slice}
use Rattle.equations.proofs.Chains.{every_from_all}
use Rattle.lines.proofs.all_are.Goals as goal

pub returns : goal.returns
returns c =
    every_from_all (λ (q : ℕ). eqb q c.args.m) c.all.new.self _ _ c.all.ensures.ran (YieldsList-from_slice c.args.moduli.now cc)
    (λ x q k. search (rules, tests)) (λ x q k. search (rules, tests))
