-- `residues::all_below` meets its contract: the test that every number passes is whether it is below m.
use Prim.Native.Nat.{ℕ}
use borrow.Author.Rules.{rules}
use borrow.Author.Tests.{tests}
use lib.Dec.{ltb}
use Rattle.system.proofs.residues.all_below.Goals as goal

pub returns : goal.returns
returns c = c.every.ensures (λ (x : ℕ). ltb x c.args.m) (λ x said k. search (rules, tests))
