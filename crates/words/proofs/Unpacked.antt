-- What a reader with room for c words has of the words in memory: a part of each, such as its kind, at the front of lent memory.
--   unpacked_none, unpacked_more, unpacked_all   the loop that writes them there, a word a turn
--   front_length_lem   there are r of them
--   kinds_seen     where fewer kinds than c are asked for, those that are seen tell whether the words have them
--   all_seen       where there are no more words than c, all of them are seen,
--   parts_seen     and they are the first r
--   part_seen      the part of one word that is seen
use mathlib.Core.Path.{◌≡◌, sym, ap, ◌∙◌}
use mathlib.Core.List.{List, map}
use Prim.Native.Nat.{ℕ, ◌+◌, ◌<◌, ◌≤◌, min}
use native.Mathlib.Omega.{arith}
use lib.ListN.{length, take, drop, get_or, set, length-take, get_or-append}
use lib.Seq.{take_all, get_or-take}
use Rattle.slices.specs.Over.{over}
use Rattle.slices.proofs.Over.{over-front}
use Rattle.slices.proofs.Copied.{Copied, copied_none, copied_more, copied_all}
use Rattle.equations.specs.Vectors.{same_vector}
use Rattle.words.specs.declared.unpacking.Word.{Word}
use Rattle.words.specs.Words.{words_in}
use Rattle.words.proofs.Words.{parts_count}
use Rattle.words.proofs.Compared.{kinds_cut}

module _ (part : Word → ℕ) (c : ℕ) (ws old : List ℕ) where
  abbrev parts : List ℕ
  parts = map part (words_in ws)

  -- the first i of them are written
  abbrev pub Unpacked : ℕ → List ℕ → Type 0
  Unpacked i new = Copied i (take c parts) old new

  taken_count : length (take c parts) ≡ min c (length (words_in ws))
  taken_count = length-take c parts ∙ ap (min c) (parts_count part (words_in ws))

  pub unpacked_none : Unpacked 0 old
  unpacked_none = copied_none (take c parts) old

  pub unpacked_more : (i : ℕ) {new : List ℕ} {x : ℕ} → Unpacked i new → i < c → i < length (words_in ws) → i < length old
      → x ≡ get_or parts i 0 → Unpacked (i + 1) (set new i x)
  unpacked_more i so_far room some at is =
      copied_more i (take c parts) old 0 so_far (omega (arith, taken_count)) at (is ∙ sym (get_or-take c parts i 0 room))

  pub unpacked_all : (i : ℕ) {new : List ℕ} → Unpacked i new → i ≡ min c (length (words_in ws)) → new ≡ over (take c parts) old
  unpacked_all i so_far end = copied_all i (take c parts) old so_far (end ∙ sym taken_count)

  module _ {new : List ℕ} (front : new ≡ over (take c parts) old) where
    pub all_seen : length (words_in ws) ≤ c → new ≡ over (map part (words_in ws)) old
    all_seen few =
        front ∙ ap (λ (xs : List ℕ). over xs old) (take_all c parts (omega (arith, parts_count part (words_in ws))))

    pub part_seen : (i : ℕ) → i < c → i < length (words_in ws) → get_or new i 0 ≡ get_or (map part (words_in ws)) i 0
    part_seen i room at =
        ap (λ (xs : List ℕ). get_or xs i 0) front
        ∙ get_or-append (take c parts) (drop (length (take c parts)) old) 0 i (omega (arith, taken_count))
        ∙ get_or-take c parts i 0 room

    module _ {r : ℕ} (count : r ≡ min c (length (words_in ws))) where
      counted : length (take c parts) ≡ r
      counted = taken_count ∙ sym count

      front_is : take r new ≡ take c parts
      front_is = over-front r (take c parts) old front counted

      pub front_length_lem : r ≡ length (take r new)
      front_length_lem = sym (ap length front_is ∙ counted)

      pub kinds_seen : (ks : List ℕ) → length ks < c → same_vector (take r new) ks ≡ same_vector (map part (words_in ws)) ks
      kinds_seen ks few = ap (λ (xs : List ℕ). same_vector xs ks) front_is ∙ kinds_cut c parts ks few

      pub parts_seen : length (words_in ws) ≤ c → take r new ≡ map part (words_in ws)
      parts_seen few = front_is ∙ take_all c parts (omega (arith, parts_count part (words_in ws)))
