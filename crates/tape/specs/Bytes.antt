-- The words that lie in the bytes of a tape. Definitions only.
use Rattle.std.specs.Prelude.{List, [], ◌∷◌, ℕ, zero, suc, ◌+◌, ◌*◌, ◌/◌, length, drop, get_or}

-- the first of them: "Words lie low byte first."
abbrev pub word_at : List ℕ → ℕ
word_at bytes = get_or bytes 0 0 + 256 * get_or bytes 1 0 + 65536 * get_or bytes 2 0 + 16777216 * get_or bytes 3 0

-- the first c of them
abbrev pub words_within : ℕ → List ℕ → List ℕ
words_within zero bytes = []
words_within (suc c) bytes = word_at bytes ∷ words_within c (drop 4 bytes)

-- all of them; the 1 to 3 bytes left over are no word
unfoldable pub words_on : List ℕ → List ℕ
words_on bytes = words_within (length bytes / 4) bytes
