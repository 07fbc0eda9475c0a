-- What is said of a claim that is explained, and of the reason that is given; both are told apart by the refusal of marking.
--   explained_refused, said_gives, said_refused   what was found before anything is written
--   reason-says                                   the reason of an accepted claim, with its numbers, is true
--   numbers_below, numbers_few                    the numbers are residues, and 16 at most
--   show_short, show_wrote                        each way out of writing them
--   reason_refused, reason-shown                  each way out of the call
--   reasoned_asked, shown-asked                   the same by the questions of the call
--   words_few                                     32 memory words at most are said to be written
use mathlib.Core.Path.{◌≡◌, refl, sym, ap, ◌∙◌}
use mathlib.Core.Bool.{Bool, true, false}
use mathlib.Core.List.{List}
use Prim.Native.Nat.{ℕ, ◌*◌, ◌<◌, ◌≤◌}
use native.Mathlib.Omega.{arith}
use borrow.Author.Tests.{eqb-true, eqb-false, le-leb, lt-leb, ne_eqb}
use lib.Dec.{eqb}
use lib.ListN.{length}
use Rattle.std.specs.Prelude.{Ok, Err}
use Rattle.slices.specs.Over.{over}
use Rattle.questions.specs.Questions.{unless_refused}
use Rattle.questions.specs.Reply.{result_of, memory_after}
use Rattle.questions.proofs.Results.{gives-ok, gives-err}
use Rattle.questions.proofs.Reply.{reply_result, reply_memory}
use Rattle.equations.specs.declared.Reason.{Reason}
use Rattle.equations.specs.Vectors.{Below}
use Rattle.equations.specs.LineReasons.{LineSays}
use Rattle.system.proofs.Claims.{claim_formed}
use Rattle.system.proofs.Lines.{true_line_reason, line-says-residues, line-says-few}
use Rattle.words.specs.Words.{words_in, words_of}
use Rattle.words.proofs.Packed.{written_two}
use Rattle.ledger.specs.Ledger.{Ledger, modulus_of, unknowns_of, lines_in}
use Rattle.ledger.specs.Allowed.{Allowed}
use Rattle.ledger.specs.Shapes.{entries_of, claim_from}
use Rattle.ledger.specs.Block.{counts_for}
use Rattle.ledger.specs.Marking.{claim_reason, reason_numbers, shown_kind, reason_words, reason_room}
use Rattle.ledger.specs.Calls.{marks, reasons, queries}
use Rattle.ledger.specs.Questions.{mark_questions, refusal_of}
use Rattle.ledger.proofs.Shapes.{claimed}
use Rattle.ledger.proofs.Questions.{accepted-yes}
use Rattle.system.specs.declared.explaining.Finding.{Finding}
use Rattle.sheet.specs.declared.reasoning.Reasoned.{Reasoned}
use Rattle.sheet.specs.Record.{Sheet, ledger_of}
use Rattle.sheet.specs.Calls.{reasoned_of, shown_after}
use Rattle.sheet.specs.View.{explained_of, explained_numbers, shown_by}
use Rattle.sheet.proofs.Reading.{reads-allowed}
use Rattle.asking.proofs.ClaimGiven.{mark-opened}
use Rattle.sheet.specs.Calls.{said}

-- ---- what was found

module _ (l : Ledger) (ws : List ℕ) where
  abbrev asked : ℕ
  asked = refusal_of l (queries (marks ws))

  pub explained_refused : (k : ℕ) → refusal_of l (queries (marks ws)) ≡ k → (k ≡ 0 → ⊥) → (old : List ℕ)
      → (Err k ≡ explained_of l ws) × (old ≡ over (explained_numbers l ws) old)
  unfolding explained_of explained_numbers
  explained_refused k refused h old = rw (refused, ne_eqb k 0 h) (refl, refl)

  abbrev found : Finding
  found = record { reason = claim_reason l ws; len = length (reason_numbers l ws) }

  pub said_gives : {finding : Finding} → explained_of l ws ≡ Ok finding
      → (refusal_of l (queries (marks ws)) ≡ 0) × (finding ≡ record { reason = claim_reason l ws; len = length (reason_numbers l ws) })
  unfolding explained_of
  said_gives is = gives-ok asked found is

  pub said_refused : {k : ℕ} → explained_of l ws ≡ Err k → (refusal_of l (queries (marks ws)) ≡ k) × (k ≡ 0 → ⊥)
  unfolding explained_of
  said_refused is = gives-err asked found is

  module _ (accepted : refusal_of l (queries (marks ws)) ≡ 0) where
    pub numbers_are : explained_numbers l ws ≡ reason_numbers l ws
    unfolding explained_numbers
    numbers_are = rw accepted

    module _ (allowed : Allowed (modulus_of l) (unknowns_of l) (lines_in l)) where
      pub reason-says : LineSays (modulus_of l) (unknowns_of l) (lines_in l) (claim_from (unknowns_of l) (words_in ws)) (claim_reason l ws)
          (reason_numbers l ws)
      reason-says =
          let yes = accepted-yes l (queries (marks ws)) accepted in
          true_line_reason (modulus_of l) (unknowns_of l) (lines_in l) (claim_from (unknowns_of l) (words_in ws)) (omega (arith, allowed.modulus))
          allowed.moduli allowed.shaped
          (claim_formed (modulus_of l) (unknowns_of l) (entries_of (words_in ws))
          (claimed (unknowns_of l) (words_in ws) yes.1.1.0 (modulus_of l) yes.1.1.1.0))

      pub numbers_below : Below (modulus_of l) (reason_numbers l ws)
      numbers_below =
          line-says-residues (modulus_of l) (unknowns_of l) (lines_in l) _ (claim_reason l ws) (reason_numbers l ws) reason-says

      pub numbers_few : length (reason_numbers l ws) ≤ 16
      numbers_few =
          line-says-few 16 (modulus_of l) (unknowns_of l) (lines_in l) _ (claim_reason l ws) (reason_numbers l ws) allowed.unknowns
          allowed.equations reason-says

-- ---- what is written

words_two : (l : Ledger) (ws : List ℕ) → length (reason_words l ws) ≤ 2 * length (reason_numbers l ws)
unfolding reason_words
words_two l ws = written_two (shown_kind (claim_reason l ws)) (reason_numbers l ws)

module _ (m : ℕ) (r : Reason) (xs old : List ℕ) where
  abbrev room : ℕ
  room = length xs * counts_for m

  pub show_short : length old < length xs * counts_for m
      → (Err 8 ≡ result_of Err (shown_by m r xs) old) × (old ≡ memory_after (shown_by m r xs) old)
  unfolding result_of memory_after
  show_short short = let no = lt-leb room (length old) short in (rw no, rw no)

  pub show_wrote : length xs * counts_for m ≤ length old
      → (said r (length (words_of (shown_kind r) xs)) ≡ result_of Err (shown_by m r xs) old)
      × (over (words_of (shown_kind r) xs) old ≡ memory_after (shown_by m r xs) old)
  unfolding result_of memory_after
  show_wrote long = let yes = le-leb room (length old) long in (rw yes, rw yes)

module _ (l : Ledger) (ws old : List ℕ) where
  pub reason_refused : (k : ℕ) → refusal_of l (queries (marks ws)) ≡ k → (k ≡ 0 → ⊥)
      → (Err k ≡ reasoned_of l ws old) × (old ≡ shown_after l ws old)
  unfolding reasoned_of shown_after refusal_of result_of memory_after
  reason_refused k refused h = rw (refused, ne_eqb k 0 h) (refl, refl)

  -- an accepted claim: what is written is the numbers xs, in words of the reason r
  pub reason-shown : refusal_of l (queries (marks ws)) ≡ 0 → (m : ℕ) (r : Reason) (xs : List ℕ) → m ≡ modulus_of l → r ≡ claim_reason l ws
      → xs ≡ reason_numbers l ws
      → (result_of Err (shown_by m r xs) old ≡ reasoned_of l ws old) × (memory_after (shown_by m r xs) old ≡ shown_after l ws old)
  unfolding reasoned_of shown_after refusal_of reason_words reason_room
  reason-shown accepted m r xs same is are = rw (accepted, same, is, are) (refl, refl)

  pub reasoned_asked : reasoned_of l ws old
      ≡ unless_refused Err (refusal_of l (queries (reasons ws old))) (said (claim_reason l ws) (length (reason_words l ws)))
  unfolding reasoned_of refusal_of
  reasoned_asked = reply_result (mark_questions l ws) (reason_room l ws) (said (claim_reason l ws) (length (reason_words l ws))) (reason_words l ws) old Err tt

  pub shown-asked : shown_after l ws old ≡ unless_refused (λ (k : ℕ). old) (refusal_of l (queries (reasons ws old))) (over (reason_words l ws) old)
  unfolding shown_after refusal_of
  shown-asked = reply_memory (mark_questions l ws) (reason_room l ws) (said (claim_reason l ws) (length (reason_words l ws))) (reason_words l ws) old tt

pub words_few : (s : Sheet) (ws old : List ℕ) {told : Reasoned} → reasoned_of (ledger_of s) ws old ≡ Ok told → told.words ≤ 32
words_few s ws old {told} is = by (eqb asked 0) refl
  where
    l : Ledger
    l = ledger_of s

    asked : ℕ
    asked = refusal_of l (queries (marks ws))

    by : (b : Bool) → eqb asked 0 ≡ b → told.words ≤ 32
    by true none =
        let accepted = eqb-true asked 0 none in
        let both = (gives-ok (refusal_of l (queries (reasons ws old))) (record { reason = claim_reason l ws; words = length (reason_words l ws) })
        (sym (reasoned_asked l ws old) ∙ is)).1 in
        let same : told.words ≡ length (reason_words l ws) = ap (λ (x : Reasoned). x.words) both in
        omega (arith, same, words_two l ws, numbers_few l ws accepted (reads-allowed s (mark-opened l ws accepted)))
    by false some =
        let refused = (reason_refused l ws old asked refl (eqb-false asked 0 some)).0 ∙ is in
        let z : ◌≡◌ {A = ℕ} 0 1 = cc in
        absurd (omega arith)
