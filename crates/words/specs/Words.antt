-- The words of documents 01 and 02: a kind and a number. Most take one memory word, 32 bits; a word whose number has more than 28 bits takes
-- two. Definitions only.
use Rattle.std.specs.Prelude.{Bool, cond, ◌&&◌, not, List, [], ◌∷◌, ◌++◌, map, ℕ, ◌+◌, ◌*◌, ◌/◌, ◌%◌, eqb, leb, ltb}
use Rattle.equations.specs.Lists.{every, someone}
use Rattle.equations.specs.Vectors.{same_vector}
use Rattle.words.specs.declared.unpacking.Word.{Word}

-- 2 ^ 28: "the low 28" bits are the number
abbrev pub numbers_of_a_kind : ℕ
numbers_of_a_kind = 268435456

-- "A word has 32 bits: the top 4 are its kind, the low 28 its number.": one memory word, read by itself
abbrev pub word_of : ℕ → Word
word_of w = record { kind = w / numbers_of_a_kind; number = w % numbers_of_a_kind }

-- the 32 bits of a word with this kind and this number
abbrev pub word : ℕ → ℕ → ℕ
word kind number = kind * numbers_of_a_kind + number

-- "Kinds: 1 modulus; 2 unknowns; 3 coefficient; 4 right side; 5 head; 6 vector entry; 7 multiplier; 8 strike; 9 answer."
abbrev pub modulus_kind : ℕ
modulus_kind = 1

abbrev pub unknowns_kind : ℕ
unknowns_kind = 2

abbrev pub coefficient_kind : ℕ
coefficient_kind = 3

abbrev pub right_kind : ℕ
right_kind = 4

abbrev pub head_kind : ℕ
head_kind = 5

abbrev pub entry_kind : ℕ
entry_kind = 6

abbrev pub multiplier_kind : ℕ
multiplier_kind = 7

abbrev pub strike_kind : ℕ
strike_kind = 8

abbrev pub answer_kind : ℕ
answer_kind = 9

-- "Kinds 10 and 11 become a negative coefficient and a negative right side"
abbrev pub minus_coefficient_kind : ℕ
minus_coefficient_kind = 10

abbrev pub minus_right_kind : ℕ
minus_right_kind = 11

-- "a word of kind 12 with q precedes the equation"
abbrev pub own_modulus_kind : ℕ
own_modulus_kind = 12

-- "A word of kind 13 carries the top 4 bits of the next word's number"
abbrev pub top_kind : ℕ
top_kind = 13

-- the kinds whose number may have such a top: "kinds 1, 3, 4, 6, 7, 10, 11 or 12"
abbrev pub takes_top : ℕ → Bool
takes_top kind =
    someone (eqb kind)
    (modulus_kind ∷ coefficient_kind ∷ right_kind ∷ entry_kind ∷ multiplier_kind ∷ minus_coefficient_kind ∷ minus_right_kind
    ∷ own_modulus_kind ∷ [])

-- whether w carries the top of the number of v, the memory word right behind it: w is of kind 13 with a number that is not "0 or above 15",
-- and v of one of those kinds
unfoldable pub carries : ℕ → ℕ → Bool
carries w v =
    eqb (word_of w).kind top_kind && leb 1 (word_of w).number && leb (word_of w).number 15 && takes_top (word_of v).kind

-- the word that both are then
abbrev pub joined : ℕ → ℕ → Word
joined w v = record { kind = (word_of v).kind; number = (word_of w).number * numbers_of_a_kind + (word_of v).number }

-- The words that lie in memory. A word of kind 13 "counts as part of that word" whose top it carries; one "that breaks the rule .. counts as a
-- word of its own".
unfoldable pub words_in : List ℕ → List Word
words_in [] = []
words_in (w ∷ []) = word_of w ∷ []
words_in (w ∷ v ∷ ws) = cond (carries w v) (joined w v ∷ words_in ws) (word_of w ∷ words_in (v ∷ ws))

-- whether no word of kind 13 breaks the rule: only such are words of their own
abbrev pub tops_fit : List Word → Bool
tops_fit words = every (λ (w : Word). not (eqb w.kind top_kind)) words

-- the kinds and the numbers of words
abbrev pub kinds_of : List Word → List ℕ
kinds_of words = map (λ (w : Word). w.kind) words

abbrev pub numbers_of : List Word → List ℕ
numbers_of words = map (λ (w : Word). w.number) words

-- whether the words are of exactly these kinds, in this order; so there are as many words as kinds
abbrev pub have_kinds : List Word → List ℕ → Bool
have_kinds words kinds = same_vector (kinds_of words) kinds

-- memory with a word of this kind and this number: "Writers put it in only for numbers of 2^28 or more."
unfoldable pub words_for : ℕ → ℕ → List ℕ
words_for kind x =
    cond (ltb x numbers_of_a_kind) (word kind x ∷ [])
    (word top_kind (x / numbers_of_a_kind) ∷ word kind (x % numbers_of_a_kind) ∷ [])

-- memory with words of one kind that have these numbers
abbrev pub words_of : ℕ → List ℕ → List ℕ
words_of kind [] = []
words_of kind (x ∷ xs) = words_for kind x ++ words_of kind xs
