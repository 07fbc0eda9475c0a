-- The words of a block in a buffer.
--   split_length                     the words of the starting vector, and of the steps
--   vectors-written                  the steps behind the starting vector
--   none-length, solution-length     how many words a block has,
--   block_some                       one at least
--   none_written, solution-written   multipliers, or vectors, behind the head
use mathlib.Core.Path.{◌≡◌, sym, ap, ◌∙◌}
use mathlib.Core.List.{List, ◌∷◌, ◌++◌}
use Prim.Native.Nat.{ℕ, zero, suc, ◌+◌, ◌<◌}
use native.Mathlib.Omega.{arith}
use lib.ListN.{length, take, set, length-append, take-append-drop}
use Rattle.slices.specs.Over.{over}
use Rattle.slices.proofs.Parts.{lent, put_back, lent_is}
use Rattle.slices.proofs.Over.{over-behind, head_then}
use Rattle.words.specs.Words.{word, words_of, head_kind, entry_kind, multiplier_kind}
use Rattle.words.proofs.Packed.{words_of_append}
use Rattle.ledger.specs.Block.{block_words}
use Rattle.ledger.proofs.Blocks.{block_words_none, block_words_some}

module _ (kind n : ℕ) (xs : List ℕ) where
  words_split : words_of kind (take n xs) ++ words_of kind (lent n xs) ≡ words_of kind xs
  words_split =
      sym (words_of_append kind (take n xs) (lent n xs))
      ∙ ap (λ (z : List ℕ). words_of kind (take n xs ++ z)) (lent_is n xs)
      ∙ ap (words_of kind) (take-append-drop n xs)

  pub split_length : length (words_of kind (take n xs)) + length (words_of kind (lent n xs)) ≡ length (words_of kind xs)
  split_length = sym (length-append (words_of kind (take n xs)) (words_of kind (lent n xs))) ∙ ap length words_split

  pub vectors-written : (l : ℕ) (old : List ℕ) {whole part : List ℕ} → length (words_of kind (take n xs)) ≡ l
      → whole ≡ over (words_of kind (take n xs)) old → part ≡ over (words_of kind (lent n xs)) (lent l whole)
      → put_back l whole part ≡ over (words_of kind xs) old
  vectors-written l old long start steps =
      over-behind l (words_of kind (take n xs)) (words_of kind (lent n xs)) old long start steps
      ∙ ap (λ (z : List ℕ). over z old) words_split

module _ (head : ℕ) (xs : List ℕ) where
  pub none-length : head ≡ 0 → length (block_words (head ∷ xs)) ≡ suc (length (words_of multiplier_kind xs))
  none-length h = sym (ap length (block_words_none head xs h))

  pub solution-length : 0 < head → length (block_words (head ∷ xs)) ≡ suc (length (words_of entry_kind xs))
  solution-length h = sym (ap length (block_words_some head xs h))

  pub block_some : 0 < length (block_words (head ∷ xs))
  block_some = go head
    where
      go : (k : ℕ) → 0 < length (block_words (k ∷ xs))
      go zero = omega arith
      go (suc k) = omega arith

  module _ (stored : ℕ) (old : List ℕ) (some : 0 < length old) (is : stored ≡ word head_kind head) where
    pub none_written : {part : List ℕ} → head ≡ 0 → part ≡ over (words_of multiplier_kind xs) (lent 1 (set old 0 stored))
        → put_back 1 (set old 0 stored) part ≡ over (block_words (head ∷ xs)) old
    none_written zero-head part-is =
        head_then stored (words_of multiplier_kind xs) old some part-is
        ∙ ap (λ (z : List ℕ). over z old) (ap (λ (w : ℕ). w ∷ words_of multiplier_kind xs) is ∙ block_words_none head xs zero-head)

    pub solution-written : {part : List ℕ} → 0 < head → part ≡ over (words_of entry_kind xs) (lent 1 (set old 0 stored))
        → put_back 1 (set old 0 stored) part ≡ over (block_words (head ∷ xs)) old
    solution-written some-head part-is =
        head_then stored (words_of entry_kind xs) old some part-is
        ∙ ap (λ (z : List ℕ). over z old) (ap (λ (w : ℕ). w ∷ words_of entry_kind xs) is ∙ block_words_some head xs some-head)
