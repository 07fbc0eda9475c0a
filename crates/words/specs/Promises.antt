-- What is promised of reading and writing words. Each promise is a type; proofs/Promises.antt keeps it. Definitions only.
use Rattle.std.specs.Prelude.{◌≡◌, List, ◌++◌, map, ℕ, T, take, drop}
use Rattle.equations.specs.Vectors.{Below}
use Rattle.words.specs.Words.{takes_top, words_in, numbers_of, words_of}
use Rattle.words.specs.Fronts.{front, behind}

-- 2 ^ 32
abbrev pub numbers_of_a_word : ℕ
numbers_of_a_word = 4294967296

-- Memory parts into that of the first k words and what lies behind it, each part reads by itself as it reads in the whole: a word that takes two
-- memory words is never cut, and one that breaks the rule breaks it in its part too.
abbrev pub FrontReads : Type 0
FrontReads =
    (k : ℕ) (ws : List ℕ)
    → (front k ws ++ behind k ws ≡ ws)
    × (words_in (front k ws) ≡ take k (words_in ws)) × (words_in (behind k ws) ≡ drop k (words_in ws))

-- What is written is read back, for numbers of 32 bits and kinds whose number may have a top.
abbrev pub ReadsBack : Type 0
ReadsBack =
    (kind : ℕ) → T (takes_top kind) → (xs : List ℕ) → Below numbers_of_a_word xs
    → words_in (words_of kind xs) ≡ map (λ (x : ℕ). record { kind = kind; number = x }) xs

-- Every number that is read has 32 bits at most.
abbrev pub NumbersFit : Type 0
NumbersFit = (ws : List ℕ) → Below numbers_of_a_word (numbers_of (words_in ws))
