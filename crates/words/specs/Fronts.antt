-- How much memory words take: the first word, and the memory of the first k words, where a call or a claim has so many. Two laws of `Promises`
-- say all of `front` and `behind`.
use Rattle.std.specs.Prelude.{Bool, true, false, cond, List, [], ◌∷◌, ℕ, zero, suc, ◌+◌, ◌<◌, take, drop}
use Rattle.std.proofs.Common.{arith}
use Rattle.words.specs.declared.unpacking.Word.{Word}
use Rattle.words.specs.Words.{word_of, carries, words_in}

-- the first of the words; where there are none, the word of 32 bits that are 0
abbrev pub first_of : List Word → Word
first_of [] = word_of 0
first_of (w ∷ words) = w

-- the first word in memory
abbrev pub first_word : List ℕ → Word
first_word ws = first_of (words_in ws)

-- how many memory words it takes
unfoldable pub first_length : List ℕ → ℕ
first_length [] = 0
first_length (w ∷ []) = 1
first_length (w ∷ v ∷ ws) = cond (carries w v) 2 1

-- how many the first k words take, or all of them where there are fewer: "wherever a call's or claim's words are counted"
unfoldable pub front_length : ℕ → List ℕ → ℕ
front_length zero ws = 0
front_length (suc k) ws = first_length ws + front_length k (drop (first_length ws) ws)

-- the memory of the first k words, and what lies behind it
abbrev pub front : ℕ → List ℕ → List ℕ
front k ws = take (front_length k ws) ws

abbrev pub behind : ℕ → List ℕ → List ℕ
behind k ws = drop (front_length k ws) ws

-- where there are words, the first takes memory, and so do the first k from 1 on
one_or_two : (b : Bool) → 0 < cond b 2 1
one_or_two true = omega arith
one_or_two false = omega arith

pub first_some : (w : ℕ) (ws : List ℕ) → 0 < first_length (w ∷ ws)
unfolding first_length
first_some w [] = omega arith
first_some w (v ∷ ws) = one_or_two (carries w v)

pub front_some : (k w : ℕ) (ws : List ℕ) → 0 < k → 0 < front_length k (w ∷ ws)
unfolding front_length
front_some zero w ws h = absurd (omega arith)
front_some (suc k) w ws h = omega (arith, first_some w ws)
