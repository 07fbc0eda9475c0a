-- The answer block in words. Definitions only.
use Rattle.std.specs.Prelude.{cond, List, [], ◌∷◌, ℕ, zero, suc, ◌+◌, ◌*◌, ltb, length}
use Rattle.system.specs.Lines.{line_block}
use Rattle.words.specs.Words.{numbers_of_a_kind, word, words_of, head_kind, entry_kind, multiplier_kind}
use Rattle.ledger.specs.Ledger.{Ledger, unopened, opened}

-- the numbers of a block as words: "Answer block: the same form" as a claim; "Without solution: head 0, then
-- one multiplier per equation."
abbrev pub block_words : List ℕ → List ℕ
block_words [] = []
block_words (zero ∷ ks) = word head_kind 0 ∷ words_of multiplier_kind ks
block_words (suc k ∷ xs) = word head_kind (suc k) ∷ words_of entry_kind xs

-- how many words the longest block has: a head, and 17 vectors of 16 entries
abbrev pub longest_block : ℕ
longest_block = 273

-- and how many memory words, where each entry takes two: "a buffer's length counts both"
abbrev pub longest_memory : ℕ
longest_memory = 545

-- "For question 8 a multiplier, and an entry that the reason tool shows, counts two words when m is above 2^28."
abbrev pub counts_for : ℕ → ℕ
counts_for m = cond (ltb numbers_of_a_kind m) 2 1

-- how much room question 8 asks for: that of the block's words, but with each multiplier counted so
abbrev pub block_room : ℕ → List ℕ → ℕ
block_room m [] = 0
block_room m (zero ∷ ks) = 1 + length ks * counts_for m
block_room m (suc k ∷ xs) = length (block_words (suc k ∷ xs))

-- the block that answers the lines in the ledger, and its room
unfoldable pub answer_words : Ledger → List ℕ
answer_words unopened = []
answer_words (opened m n ls) = block_words (line_block m n ls)

unfoldable pub answer_room : Ledger → ℕ
answer_room unopened = 0
answer_room (opened m n ls) = block_room m (line_block m n ls)
