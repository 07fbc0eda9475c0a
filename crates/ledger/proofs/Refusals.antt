-- Answers and claims on an opened ledger, accepted and refused.
--   answers-short, answers-fit   the buffer has less room than question 8 asks for, or enough
--   answers-word-plain           the word on tape has the number 0
--   marks-accepted               the claim is well-formed
use mathlib.Core.Path.{◌≡◌}
use mathlib.Core.Bool.{true}
use mathlib.Core.List.{List}
use Prim.Native.Nat.{ℕ, ◌<◌, ◌≤◌}
use borrow.Author.Tests.{le-leb, lt-leb, eq-eqb}
use lib.ListN.{length}
use Rattle.equations.specs.Multipliers.{all_below}
use Rattle.equations.proofs.Truth.{of_true}
use Rattle.words.specs.Words.{words_in}
use Rattle.ledger.specs.Ledger.{Ledger, is_opened, modulus_of, unknowns_of}
use Rattle.ledger.specs.Shapes.{is_claim, entries_of}
use Rattle.ledger.specs.Block.{answer_room}
use Rattle.ledger.specs.Calls.{answers, answers_from_tape, marks, queries}
use Rattle.ledger.specs.Questions.{refusal_of}
use Rattle.ledger.proofs.Shapes.{claim_tops}

module _ (l : Ledger) (h : is_opened l ≡ true) where
  pub answers-short : (buffer : List ℕ) → length buffer < answer_room l → refusal_of l (queries (answers buffer)) ≡ 8
  unfolding refusal_of
  answers-short buffer g = rw (h, lt-leb (answer_room l) (length buffer) g)

  pub answers-fit : (buffer : List ℕ) → answer_room l ≤ length buffer → refusal_of l (queries (answers buffer)) ≡ 0
  unfolding refusal_of
  answers-fit buffer g = rw (h, le-leb (answer_room l) (length buffer) g)

  pub answers-word-plain : (number : ℕ) → number ≡ 0 → refusal_of l (queries (answers_from_tape number)) ≡ 0
  unfolding refusal_of
  answers-word-plain number g = rw (h, eq-eqb number 0 g)

  pub marks-accepted : (ws : List ℕ) → is_claim (unknowns_of l) (words_in ws) ≡ true
      → all_below (modulus_of l) (entries_of (words_in ws)) ≡ true → refusal_of l (queries (marks ws)) ≡ 0
  unfolding refusal_of
  marks-accepted ws g k = rw (h, claim_tops (unknowns_of l) (words_in ws) (of_true g), g, k)
