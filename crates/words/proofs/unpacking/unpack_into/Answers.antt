-- `unpacking::unpack_into` meets its contract: what is read of a word is the word.
use borrow.Author.Rules.{rules}
use Rattle.words.proofs.unpacking.unpack_into.Goals as goal

pub returns-clause-kinds_after : goal.returns-clause-kinds_after
returns-clause-kinds_after c = c.read_into.ensures.kinds_after (λ w. w) (λ w r is. search rules)

pub returns-clause-numbers_after : goal.returns-clause-numbers_after
returns-clause-numbers_after c = c.read_into.ensures.numbers_after (λ w. w) (λ w r is. search rules)
