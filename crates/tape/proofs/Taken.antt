-- The words of the first call, seen in enough memory from the rest of a tape.
--   seen_length             so much memory is seen
--   seen_first              the first word, in two memory words
--   seen_count, seen_front  the memory of the first k words, in twice as many
use mathlib.Core.Path.{◌≡◌, sym, ap, ◌∙◌}
use mathlib.Core.List.{List}
use Prim.Native.Nat.{ℕ, ◌/◌, ◌*◌, ◌≤◌, min}
use native.Mathlib.Omega.{arith}
use lib.ListN.{length, take}
use lib.Seq.{take-take, length-take-le}
use Rattle.slices.specs.Over.{over}
use Rattle.slices.proofs.Over.{over-fits, over-front}
use Rattle.words.specs.Fronts.{first_word, front_length, front}
use Rattle.words.proofs.Fronts.{first_cut, front_cut, front_two, front_fits}
use Rattle.tape.specs.Bytes.{words_within, words_on}
use Rattle.tape.proofs.OnTape.{within-length, words_taken, words_length}

pub seen_length : (count : ℕ) (rest old : List ℕ) {new : List ℕ} → new ≡ over (words_within count rest) old → length (take count new) ≡ count
seen_length count rest old {new} written =
    length-take-le count new (omega (arith, over-fits (words_within count rest) old written, within-length count rest))

module _ (c : ℕ) (rest old : List ℕ) {count : ℕ} (few : count ≡ min c (length rest / 4)) {new : List ℕ}
    (written : new ≡ over (words_within count rest) old) where
  seen : take count new ≡ take c (words_on rest)
  seen =
      over-front count (words_within count rest) old written (within-length count rest)
      ∙ ap (λ (k : ℕ). words_within k rest) few ∙ sym (words_taken c rest)

pub seen_first : (rest old : List ℕ) {count : ℕ} → count ≡ min 2 (length rest / 4) → {new : List ℕ}
    → new ≡ over (words_within count rest) old → first_word (take count new) ≡ first_word (words_on rest)
seen_first rest old few written = ap first_word (seen 2 rest old few written) ∙ first_cut (words_on rest)

module _ (k : ℕ) (rest old : List ℕ) {count : ℕ} (few : count ≡ min (2 * k) (length rest / 4)) {new : List ℕ}
    (written : new ≡ over (words_within count rest) old) {r : ℕ} (is : r ≡ front_length k (take count new)) where
  pub seen_count : r ≡ front_length k (words_on rest)
  seen_count =
      is ∙ ap (front_length k) (seen (2 * k) rest old few written) ∙ front_cut k (2 * k) (words_on rest) (front_two k (words_on rest))

  pub seen_front : take r new ≡ front k (words_on rest)
  seen_front =
      let within : r ≤ count =
      omega (arith, seen_count, few, front_two k (words_on rest), front_fits k (words_on rest), words_length rest) in
      sym (take-take r count new within) ∙ ap (take r) (seen (2 * k) rest old few written)
      ∙ take-take r (2 * k) (words_on rest) (omega (arith, within, few)) ∙ ap (λ (j : ℕ). take j (words_on rest)) seen_count
