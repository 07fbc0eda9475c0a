-- `kinds::run_of` meets its contract: there are as many, and each is the one.
use mathlib.Core.Path.{◌≡◌, sym, ap, ◌∙◌}
use Prim.Native.Nat.{ℕ}
use native.Mathlib.Omega.{arith}
use borrow.Author.Rules.{rules}
use borrow.Author.Tests.{tests, ne_eqb}
use lib.Dec.{eqb}
use lib.ListN.{length, replicate, length-replicate}
use Rattle.std.proofs.lemmas.Iterator.{YieldsList-from_slice}
use Rattle.equations.specs.Vectors.{same_vector}
use Rattle.equations.proofs.Chains.{every_from_all}
use Rattle.words.proofs.Compared.{run_each, kinds_other}
use Rattle.words.proofs.kinds.run_of.Goals as goal

pub returns-then-kinds-count : goal.returns-then-kinds-count
returns-then-kinds-count c =
    let a = c.args in
    let as_many : length a.kinds.now ≡ a.count = omega arith in
    every_from_all (λ (x : ℕ). eqb x a.kind) c.all.new.self _ _ c.all.ensures.ran (YieldsList-from_slice a.kinds.now cc)
    (λ x q k. search (rules, tests)) (λ x q k. search (rules, tests))
    ∙ sym (run_each a.kind a.kinds.now)
    ∙ ap (λ (n : ℕ). same_vector a.kinds.now (replicate n a.kind)) as_many

pub returns-else-kinds-count : goal.returns-else-kinds-count
returns-else-kinds-count c =
    let a = c.args in
    ne_eqb (length a.kinds.now) a.count (λ e. omega arith)
    ∙ sym (kinds_other a.kinds.now (replicate a.count a.kind) (λ e. omega (arith, e ∙ length-replicate a.count a.kind)))
