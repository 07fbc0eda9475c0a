-- `signs::residues_into` meets its contract: what is read of a word is its kind without a sign, and its residue.
use borrow.Author.Rules.{rules}
use Rattle.words.specs.Signs.{plain_of}
use Rattle.words.proofs.signs.residues_into.Goals as goal

pub returns-clause-kinds_after : goal.returns-clause-kinds_after
returns-clause-kinds_after c = c.read_into.ensures.kinds_after (plain_of c.args.m) (λ w r is. search rules)

pub returns-clause-residues_after : goal.returns-clause-residues_after
returns-clause-residues_after c = c.read_into.ensures.numbers_after (plain_of c.args.m) (λ w r is. search rules)
