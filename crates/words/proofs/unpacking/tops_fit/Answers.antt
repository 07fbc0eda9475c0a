-- `unpacking::tops_fit` meets its contract: the chain looks at every word.
use mathlib.Core.Path.{refl}
use mathlib.Core.Bool.{not}
use borrow.Author.Tests.{tests}
use borrow.Author.Rules.{rules}
use lib.Dec.{eqb}
use Rattle.std.proofs.lemmas.Iterator.Consumers.{YieldsList-from_first}
use Rattle.equations.proofs.Chains.{every_from_all}
use Rattle.words.specs.declared.unpacking.Word.{Word}
use Rattle.words.specs.Words.{top_kind, words_in}
use Rattle.words.proofs.unpacking.tops_fit.Goals as goal

pub returns : goal.returns
returns c =
    every_from_all (λ (w : Word). not (eqb w.kind top_kind)) c.all.new.self _ _ c.all.ensures.ran
    (YieldsList-from_first (λ w. w) (λ s. words_in s.memory.now) {s = record { memory = c.args.memory }} (words_in c.args.memory.now) refl)
    (λ x q k. search (rules, tests)) (λ x q k. search (rules, tests))
