-- What the questions see of a sheet, and how many of a call's words. Definitions only.
use Rattle.std.specs.Prelude.{◌≡◌, cond, List, ℕ, ◌+◌, length}
use Rattle.questions.specs.Questions.{allowed_own}
use Rattle.words.specs.declared.unpacking.Word.{Word}
use Rattle.ledger.specs.Ledger.{Ledger, is_opened, modulus_of, unknowns_of, lines_in, most_unknowns}
use Rattle.ledger.specs.Shapes.{own_modulus}
use Rattle.ledger.specs.Block.{longest_block}
use Rattle.ledger.specs.Classes.{most_claims}
use Rattle.asking.specs.declared.Seen.{Seen}

-- what is seen of a sheet that reads as this ledger
pub record Sees (l : Ledger) (seen : Seen) : Type 0 where
  pub opened : seen.opened ≡ is_opened l
  pub modulus : seen.modulus ≡ modulus_of l
  pub unknowns : seen.unknowns ≡ unknowns_of l
  pub held : seen.held ≡ length (lines_in l)

-- one word more than an opening, an equation and a claim have at most: who sees so many words of a call can tell its shape
abbrev pub opening_room : ℕ
opening_room = 3

abbrev pub equation_room : ℕ
equation_room = most_unknowns + 2

abbrev pub claim_room : ℕ
claim_room = longest_block + 1

-- the modulus by which the residues of an equation's words are taken: its own, or the sheet's where its own is not allowed
abbrev pub used_modulus : ℕ → List Word → ℕ
used_modulus m ws = cond (allowed_own m (own_modulus m ws)) (own_modulus m ws) m

-- so many claims of a class are counted: one more than are marked
abbrev pub counted_claims : ℕ
counted_claims = most_claims + 1
