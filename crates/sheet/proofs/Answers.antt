-- What an answer gives back and leaves in a buffer, and that it is right: what demand 3 says of it.
--   answered_unopened, answered_short, answered_wrote   each way out, result and buffer
--   answered_asked, buffer_asked                        the same by the questions of the call
--   wrote_is, wrote_few                                 what is said to be written, and that it is 545 memory words at most
--   right-room                                          the room that question 8 asks for is right
--   shown_wrote, shown_refused                          each way out of an answer from tape
--   right-block                                         the ledger's block is right
use mathlib.Core.Path.{◌≡◌, refl, sym, ◌∙◌}
use mathlib.Core.Logic.Iff
use mathlib.Core.Logic.{⊎_elim}
use mathlib.Core.Bool.{Bool, true, false, cond}
use mathlib.Core.List.{List, [], ◌∷◌}
use Prim.Native.Nat.{ℕ, ◌<◌, ◌≤◌}
use native.Mathlib.Omega.{arith}
use borrow.Author.Tests.{le-leb, lt-leb, ne_eqb, eqb-true}
use lib.Dec.{T, eqb, leb→le}
use lib.ListN.{length}
use Rattle.std.specs.Prelude.{Ok, Err}
use Rattle.slices.specs.Over.{over}
use Rattle.questions.specs.Questions.{asks, unless_refused}
use Rattle.questions.specs.Reply.{result_of, memory_after}
use Rattle.questions.proofs.Reply.{reply_result, reply_memory}
use Rattle.equations.specs.Line.{Line, Moduli, ShapedLines}
use Rattle.equations.proofs.LinePromises.{line_no_start}
use Rattle.system.specs.declared.solving.Answer.{Answer}
use Rattle.system.specs.Block.{answer_from}
use Rattle.system.specs.Lines.{line_block}
use Rattle.system.proofs.Lines.{line_start_found}
use Rattle.ledger.specs.Ledger.{Ledger, unopened, opened, is_opened, modulus_of, unknowns_of, lines_in}
use Rattle.ledger.specs.Block.{longest_memory, answer_words, answer_room}
use Rattle.ledger.specs.Allowed.{Allowed}
use Rattle.ledger.specs.Calls.{answers, answers_from_tape, queries}
use Rattle.ledger.specs.Questions.{refusal_of}
use Rattle.ledger.proofs.Questions.{accepted-yes}
use Rattle.ledger.proofs.Answer.{answer_some, answer-none, answer_head, room_refuted, room_answered, answer-fits, answer-long}
use Rattle.sheet.specs.Record.{Sheet, ledger_of}
use Rattle.sheet.specs.Calls.{answered_of, buffer_after, shown_of}
use Rattle.sheet.specs.Promises.{RightBlock, RightRoom}
use Rattle.sheet.proofs.Reading.{reads-allowed}

module _ (l : Ledger) (old : List ℕ) where
  pub answered_unopened : is_opened l ≡ false → (Err 4 ≡ answered_of l old) × (old ≡ buffer_after l old)
  unfolding answered_of buffer_after result_of memory_after
  answered_unopened h = (rw h, rw h)

  module _ (h : is_opened l ≡ true) where
    pub answered_short : length old < answer_room l → (Err 8 ≡ answered_of l old) × (old ≡ buffer_after l old)
    unfolding answered_of buffer_after result_of memory_after
    answered_short short =
        let no = lt-leb (answer_room l) (length old) short in (rw (h, no), rw (h, no))

    pub answered_wrote : answer_room l ≤ length old
        → (Ok (length (answer_words l)) ≡ answered_of l old) × (over (answer_words l) old ≡ buffer_after l old)
    unfolding answered_of buffer_after result_of memory_after
    answered_wrote long =
        let yes = le-leb (answer_room l) (length old) long in (rw (h, yes), rw (h, yes))

  pub answered_asked : answered_of l old
      ≡ unless_refused Err (refusal_of l (queries (answers old))) (Ok (length (answer_words l)))
  unfolding answered_of refusal_of
  answered_asked = reply_result (asks 4 (is_opened l) ∷ []) (answer_room l) (Ok (length (answer_words l))) (answer_words l) old Err tt

  pub buffer_asked : buffer_after l old
      ≡ unless_refused (λ (k : ℕ). old) (refusal_of l (queries (answers old))) (over (answer_words l) old)
  unfolding buffer_after refusal_of
  buffer_asked = reply_memory (asks 4 (is_opened l) ∷ []) (answer_room l) (Ok (length (answer_words l))) (answer_words l) old tt

  -- what is said to be written is the answer, and the buffer has the room that is asked for
  wrote_is : {k : ℕ} → answered_of l old ≡ Ok k → T (is_opened l) × (k ≡ length (answer_words l)) × (answer_room l ≤ length old)
  wrote_is {k} said = go (eqb (refusal_of l (queries (answers old))) 0) refl (sym answered_asked ∙ said)
    where
      go : (b : Bool) → eqb (refusal_of l (queries (answers old))) 0 ≡ b
          → cond b (Ok (length (answer_words l))) (Err (refusal_of l (queries (answers old)))) ≡ Ok k
          → T (is_opened l) × (k ≡ length (answer_words l)) × (answer_room l ≤ length old)
      go true none h =
          let same : k ≡ length (answer_words l) = cc in
          let yes = accepted-yes l (queries (answers old)) (eqb-true (refusal_of l (queries (answers old))) 0 none) in
          (yes.0, same, leb→le (answer_room l) (length old) yes.1.0)
      go false some h = let z : ◌≡◌ {A = ℕ} 0 1 = cc in absurd (omega arith)

words_few : (l : Ledger) → T (is_opened l) → Allowed (modulus_of l) (unknowns_of l) (lines_in l) → length (answer_words l) ≤ longest_memory
words_few unopened is allowed = absurd is
words_few (opened m n ls) is allowed =
    let pos : 0 < m = omega (arith, allowed.modulus) in
    omega (
      arith,
      answer-fits m n ls pos allowed.moduli allowed.shaped,
      answer-long m n ls pos allowed.moduli allowed.shaped allowed.equations allowed.unknowns,
    )

pub wrote_few : (s : Sheet) (old : List ℕ) {k : ℕ} → answered_of (ledger_of s) old ≡ Ok k → k ≤ longest_memory
wrote_few s old said =
    let is = wrote_is (ledger_of s) old said in
    omega (arith, is.1, words_few (ledger_of s) is.0 (reads-allowed s is.0))

module _ (l : Ledger) (number : ℕ) where
  pub shown_wrote : refusal_of l (queries (answers_from_tape number)) ≡ 0 → (b : Answer)
      → b ≡ answer_from (line_block (modulus_of l) (unknowns_of l) (lines_in l)) → Ok b ≡ shown_of l number
  unfolding shown_of
  shown_wrote accepted b made = rw (made, accepted)

  pub shown_refused : {k : ℕ} → k ≡ refusal_of l (queries (answers_from_tape number)) → (k ≡ 0 → ⊥) → Err k ≡ shown_of l number
  unfolding shown_of
  shown_refused {k} is some = rw (← is, ne_eqb k 0 some)

module _ (m n : ℕ) (ls : List Line) (pos : 0 < m) (moduli : Moduli m ls) (shaped : ShapedLines n ls) where
  pub right-block : RightBlock m n ls (answer_words (opened m n ls))
  right-block =
      record {
        none = Iff.trans (answer_head m n ls pos moduli shaped) (line_no_start m n ls);
        multipliers = λ no. answer-none m n ls pos moduli shaped ((line_no_start m n ls).1 no);
        vectors = λ solvable.
            ⊎_elim (λ h. absurd (solvable ((line_no_start m n ls).0 h)))
            (λ found. (found.0, found.1, answer_some m n ls found.0 found.1))
            (line_start_found m n ls);
      }

  pub right-room : length ls ≤ 16 → n ≤ 16 → RightRoom m n ls (answer_words (opened m n ls)) (answer_room (opened m n ls))
  right-room equations unknowns =
      record {
        multipliers = λ no.
            let is = room_refuted m n ls pos moduli shaped ((line_no_start m n ls).1 no) in omega (arith, is);
        vectors = λ solvable.
            ⊎_elim (λ h. absurd (solvable ((line_no_start m n ls).0 h)))
            (λ found. room_answered m n ls pos moduli shaped found.0 found.1) (line_start_found m n ls);
        fits = answer-fits m n ls pos moduli shaped;
        most = answer-long m n ls pos moduli shaped equations unknowns;
      }
