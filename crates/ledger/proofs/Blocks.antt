-- The words of an answer block, and the room that question 8 asks for.
--   block_words_none     behind head 0 stand multipliers
--   block_words_some     behind any other head stand vectors' entries
--   counts-one, counts_two   what a multiplier counts
--   written-fits         the words of numbers below m are no more than the numbers count
--   room-none, room_some what room is asked for, by the head
--   room_fits            the words of a block fit in it,
--   room-long            and it is two for each number behind the head at most
use mathlib.Core.Path.{◌≡◌, refl}
use mathlib.Core.Bool.{Bool, true, false, cond}
use mathlib.Core.List.{List, ◌∷◌}
use Prim.Native.Nat.{ℕ, zero, suc, ◌+◌, ◌*◌, ◌<◌, ◌≤◌}
use native.Mathlib.Nat.{mul-le-mul}
use native.Mathlib.Omega.{arith}
use borrow.Author.Tests.{ltb-false}
use lib.Dec.{ltb}
use lib.ListN.{length}
use Rattle.equations.specs.Vectors.{Below}
use Rattle.equations.proofs.Vectors.{below_mono}
use Rattle.words.specs.Words.{numbers_of_a_kind, word, words_of, head_kind, entry_kind, multiplier_kind}
use Rattle.words.proofs.Packed.{written_one, written_two}
use Rattle.ledger.specs.Block.{block_words, counts_for, block_room}

pub block_words_none : (k : ℕ) (ks : List ℕ) → k ≡ 0
    → word head_kind k ∷ words_of multiplier_kind ks ≡ block_words (k ∷ ks)
block_words_none k ks h = rw h

pub block_words_some : (k : ℕ) (xs : List ℕ) → 0 < k → word head_kind k ∷ words_of entry_kind xs ≡ block_words (k ∷ xs)
block_words_some zero xs h = absurd (omega arith)
block_words_some (suc k) xs h = refl

-- ---- the room

module _ (m : ℕ) where
  pub counts_two : counts_for m ≤ 2
  counts_two = go (ltb numbers_of_a_kind m)
    where
      go : (b : Bool) → cond b 2 1 ≤ 2
      go true = omega arith
      go false = omega arith

  pub written-fits : (kind : ℕ) (xs : List ℕ) → Below m xs → length (words_of kind xs) ≤ length xs * counts_for m
  written-fits kind xs below = go (ltb numbers_of_a_kind m) refl
    where
      go : (b : Bool) → ltb numbers_of_a_kind m ≡ b → length (words_of kind xs) ≤ length xs * cond b 2 1
      go true h = omega (arith, written_two kind xs)
      go false h = omega (arith, written_one kind xs (below_mono m numbers_of_a_kind xs (ltb-false numbers_of_a_kind m h) below))

  pub room-none : (k : ℕ) (ks : List ℕ) → k ≡ 0 → block_room m (k ∷ ks) ≡ 1 + length ks * counts_for m
  room-none k ks h = rw h

  pub room_some : (k : ℕ) (xs : List ℕ) → 0 < k → block_room m (k ∷ xs) ≡ 1 + length (words_of entry_kind xs)
  room_some zero xs h = absurd (omega arith)
  room_some (suc k) xs h = omega arith

  pub room_fits : (k : ℕ) (xs : List ℕ) → Below m xs → length (block_words (k ∷ xs)) ≤ block_room m (k ∷ xs)
  room_fits zero ks below = omega (arith, written-fits multiplier_kind ks below)
  room_fits (suc k) xs below = omega arith

  doubled : (a b : ℕ) → b ≤ 2 → a * b ≤ 2 * a
  doubled a b h = omega (arith, mul-le-mul {n₁ = a} {m₁ = b} {n₂ = a} {m₂ = 2} (omega arith) h)

  pub room-long : (k : ℕ) (xs : List ℕ) → block_room m (k ∷ xs) ≤ 1 + 2 * length xs
  room-long zero ks = omega (arith, doubled (length ks) (counts_for m) counts_two)
  room-long (suc k) xs = omega (arith, written_two entry_kind xs)
