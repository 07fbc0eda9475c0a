-- Words in memory.
--   kind_of, number_of, plain_kind_of, residue_in   the parts of a word that a reader takes
--   parts_count                      there are as many of one part as words
--   numbers_below                    a word's number has 32 bits
--   word_kind, word_number           a word has the kind and the number that it was made of
use mathlib.Core.Path.{◌≡◌, sym, subst}
use mathlib.Core.List.{List, map}
use Prim.Native.Nat.{ℕ, ◌<◌}
use native.Mathlib.Omega.{arith}
use lib.ListN.{length, length-map}
use Rattle.residue.specs.Residue.{residue_of}
use Rattle.equations.specs.Vectors.{Below}
use Rattle.words.specs.declared.unpacking.Word.{Word}
use Rattle.words.specs.Words.{numbers_of_a_kind, word_of, word, words_in, numbers_of}
use Rattle.words.specs.Signs.{without_minus, whole_of}
use Rattle.words.specs.Promises.{numbers_of_a_word}
use Rattle.words.proofs.Tops.{along, carries-number, words_none, words_one, words_pair, words_single}

-- the parts of a word that the readers of words take
abbrev pub kind_of : Word → ℕ
kind_of w = w.kind

abbrev pub number_of : Word → ℕ
number_of w = w.number

abbrev pub plain_kind_of : Word → ℕ
plain_kind_of w = without_minus w.kind

abbrev pub residue_in : ℕ → Word → ℕ
residue_in m w = residue_of m (whole_of w)

pub parts_count : (part : Word → ℕ) (words : List Word) → length (map part words) ≡ length words
parts_count part words = length-map words part

abbrev Below32 : List Word → Type 0
Below32 words = Below numbers_of_a_word (numbers_of words)

pub numbers_below : (ws : List ℕ) → Below numbers_of_a_word (numbers_of (words_in ws))
numbers_below =
    along (λ (ws : List ℕ). Below32 (words_in ws)) (subst Below32 (sym words_none) tt)
    (λ w. subst Below32 (sym (words_one w)) (omega arith, tt))
    (λ w v ws h p. subst Below32 (sym (words_pair w v ws h)) (omega (arith, carries-number w v h), p))
    (λ w v ws h p. subst Below32 (sym (words_single w v ws h)) (omega arith, p))

pub word_kind : (k x : ℕ) → x < numbers_of_a_kind → (word_of (word k x)).kind ≡ k
word_kind k x h = omega arith

pub word_number : (k x : ℕ) → x < numbers_of_a_kind → (word_of (word k x)).number ≡ x
word_number k x h = omega arith
