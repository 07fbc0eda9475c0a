-- The promises of specs/Promises.antt, kept.
--   right_always        where memory reads as an opened sheet, answers and marks are right
--   demand3             so they are after every list with an accepted opening
--   decided_always      after every list of calls the ledger's questions decide the next one
--   own_block_right     an answer's own block passes or is long
--   added_always        an equation in words is added as document 02 says, minus signs and large numbers included,
--   typed_always        and a typed one is turned away or added so
--   struck_always       a strike at any place leaves the other lines in order, and the answer is theirs
--   reason_always       a claim that fails is told a true reason,
--   same_refusals       and what marking turns away is turned away so
--   class_always        the claims of a class are marked as each is singly,
--   stray_words         and a word that is no head is one of them
--   zeros_are_fresh     zeroed memory is a fresh sheet
--   reads_on            calls go on from what the memory reads as
use mathlib.Core.Path.{◌≡◌, refl, ap, ap₂, subst, sym, ◌∙◌}
use mathlib.Core.Logic.{⊎_elim}
use mathlib.Core.List.{List}
use mathlib.Core.Option.{some}
use Prim.Native.Nat.{ℕ, ◌<◌, ◌≤◌}
use native.Mathlib.Omega.{arith}
use borrow.Author.Tests.{ne_eqb}
use lib.ListN.{length, take}
use lib.Dec.{T, eqb→eq}
use Rattle.std.specs.Prelude.{Ok}
use Rattle.slices.specs.Over.{over}
use Rattle.slices.proofs.Over.{over-front}
use Rattle.equations.specs.Line.{Line, line_start}
use Rattle.equations.proofs.LinePromises.{line_no_start}
use Rattle.system.specs.Block.{answer_from}
use Rattle.system.specs.Lines.{line_block}
use Rattle.system.proofs.Lines.{line_start_found}
use Rattle.words.specs.Words.{words_in}
use Rattle.ledger.specs.Ledger.{Ledger, opened, is_opened, modulus_of, unknowns_of, lines_in}
use Rattle.ledger.specs.Allowed.{Allowed}
use Rattle.ledger.specs.Shapes.{claim_from}
use Rattle.ledger.specs.Block.{answer_words, answer_room}
use Rattle.ledger.specs.Calls.{Call, answers, reasons, classes, queries}
use Rattle.ledger.specs.Questions.{refusal_of}
use Rattle.ledger.specs.History.{ledger}
use Rattle.ledger.proofs.Answer.{room_answered}
use Rattle.ledger.proofs.Own.{own_claim}
use Rattle.ledger.proofs.Refusals.{answers-word-plain}
use Rattle.ledger.proofs.History.{Opened, opening_opens}
use Rattle.sheet.specs.Record.{Sheet, fresh, ledger_of}
use Rattle.sheet.specs.Calls.{entered_of, answered_of, buffer_after, shown_of, marked_of, reasoned_of, shown_after, classed_of, marks_after}
use Rattle.sheet.specs.History.{sheet_from, after}
use Rattle.sheet.specs.Promises.{NothingSolves, Shows, RightMark, OwnMark, RightSheet, Demand3, DecidedAlways, OwnBlockRight, OwnBlockReads, ZerosAreFresh, RightAlways, ReadsOn, OpenedAlways, AddedAlways, TypedAlways, StruckAlways, ReasonAlways, SameRefusals, ClassAlways, StrayWords}
use Rattle.sheet.proofs.Reading.{reads-allowed}
use Rattle.sheet.proofs.History.{from-reads, fresh-unopened, after-reads, left_refused}
use Rattle.sheet.proofs.Solved.{solved_words, shown-block}
use Rattle.sheet.proofs.Answers.{answered_short, answered_wrote, answered_asked, buffer_asked, right-block, right-room}
use Rattle.sheet.proofs.Marks.{right-mark, own_mark}
use Rattle.sheet.proofs.Reasoned.{reasoned_asked, shown-asked}
use Rattle.sheet.proofs.Reasons.{right-reason, same_refusal}
use Rattle.sheet.proofs.Classes.{classed_asked, marks-asked}
use Rattle.sheet.proofs.Classed.{right_class, right_strays}
use Rattle.sheet.proofs.Begun.{right_opening}
use Rattle.sheet.proofs.Added.{right_adding}
use Rattle.sheet.proofs.Typed.{right_typing}
use Rattle.sheet.proofs.Struck.{right_striking}

-- ---- demand 3

module _ (s : Sheet) (m n : ℕ) (ls : List Line) (reads : ledger_of s ≡ opened m n ls) where
  allowed : Allowed m n ls
  allowed =
      subst (λ (l : Ledger). Allowed (modulus_of l) (unknowns_of l) (lines_in l)) reads
      (reads-allowed s (subst (λ (l : Ledger). T (is_opened l)) (sym reads) tt))

  positive : 0 < m
  positive = omega (arith, allowed.modulus)

  abbrev block : List ℕ
  block = answer_words (opened m n ls)

  wrote : (old : List ℕ) → answer_room (opened m n ls) ≤ length old
      → (answered_of (ledger_of s) old ≡ Ok (length block)) × (buffer_after (ledger_of s) old ≡ over block old)
  wrote old long =
      let w = answered_wrote (opened m n ls) old refl long in
      subst (λ (l : Ledger). (answered_of l old ≡ Ok (length block)) × (buffer_after l old ≡ over block old)) (sym reads)
      (sym w.0, sym w.1)

  shows : (number : ℕ) → number ≡ 0 → Shows block (shown_of (opened m n ls) number)
  shows number none =
      let accepted = answers-word-plain (opened m n ls) refl number none in
      subst (Shows block) (sym (shown-block (opened m n ls) number accepted))
      (solved_words (opened m n ls) allowed (answer_from (line_block m n ls)) refl tt)

  right-sheet : RightSheet s m n ls
  right-sheet =
      record {
        allowed = allowed;
        block = block;
        right = right-block m n ls positive allowed.moduli allowed.shaped;
        room = answer_room (opened m n ls);
        asked = right-room m n ls positive allowed.moduli allowed.shaped allowed.equations allowed.unknowns;
        answer = wrote;
        short = λ old h. ap (λ (l : Ledger). answered_of l old) reads ∙ sym (answered_short (opened m n ls) old refl h).0;
        answer_from_tape = λ number none.
            subst (λ (l : Ledger). Shows block (shown_of l number)) (sym reads) (shows number (eqb→eq number 0 none));
        mark = λ ws well.
            subst (λ (l : Ledger). RightMark Ok m n ls (claim_from n (words_in ws)) (marked_of l ws)) (sym reads)
            (right-mark m n ls positive ws well);
      }

  own_right : (NothingSolves m n ls → ⊥) → OwnMark (marked_of (opened m n ls) block)
  own_right solvable =
      ⊎_elim (λ h. absurd (solvable ((line_no_start m n ls).0 h)))
      (λ found. own_mark m n ls positive allowed.moduli (omega (arith, allowed.largest)) (omega (arith, allowed.has_unknowns))
      allowed.unknowns found.0 found.1)
      (line_start_found m n ls)

pub right_always : RightAlways
right_always = right-sheet

pub demand3 : Demand3
demand3 calls (before, ws, rest, is, accepted) =
    let o : Opened (ledger calls) =
    subst (λ (cs : List Call). Opened (ledger cs)) (sym is) (opening_opens before ws rest accepted) in
    record {
      m = o.0;
      n = o.1;
      ls = o.2;
      holds = o.3;
      right = right-sheet (after calls) o.0 o.1 o.2 (after-reads calls ∙ o.3);
    }

pub opened_always : OpenedAlways
opened_always = right_opening

pub added_always : AddedAlways
added_always s m n ls ws reads = right_adding s m n ls ws reads

pub typed_always : TypedAlways
typed_always s m n ls text reads = right_typing s m n ls text reads (positive s m n ls reads)

pub struck_always : StruckAlways
struck_always = right_striking right_always

pub reason_always : ReasonAlways
reason_always s m n ls ws reads well = right-reason m n ls ws (allowed s m n ls reads) well s reads

pub same_refusals : SameRefusals
same_refusals s = same_refusal (ledger_of s)

pub class_always : ClassAlways
class_always s m n ls ws old reads = right_class m n ls (positive s m n ls reads) ws old s reads

pub stray_words : StrayWords
stray_words = right_strays

-- the front of a buffer into which an answer with a starting vector was written
written-front : (calls : List Call) (m n : ℕ) (ls : List Line) (old : List ℕ) → ledger calls ≡ opened m n ls → (start : List ℕ)
    → line_start m n ls ≡ some start → length (answer_words (ledger calls)) ≤ length old
    → take (length (answer_words (ledger calls))) (buffer_after (ledger_of (after calls)) old) ≡ answer_words (opened m n ls)
written-front calls m n ls old holds start is h =
    let reads = after-reads calls ∙ holds in
    let ok = allowed (after calls) m n ls reads in
    let block = answer_words (opened m n ls) in
    let size : length (answer_words (ledger calls)) ≡ length block = ap (λ (l : Ledger). length (answer_words l)) holds in
    let room = room_answered m n ls (positive (after calls) m n ls reads) ok.moduli ok.shaped start is in
    over-front (length (answer_words (ledger calls))) block old
    (wrote (after calls) m n ls reads old (omega (arith, size, h, room))).1 (sym size)

pub own_block_right : OwnBlockRight
own_block_right calls m n ls old holds solvable h =
    let reads = after-reads calls ∙ holds in
    ⊎_elim (λ none. absurd (solvable ((line_no_start m n ls).0 none)))
    (λ found.
    subst OwnMark (sym (ap₂ marked_of reads (written-front calls m n ls old holds found.0 found.1 h)))
    (own_right (after calls) m n ls reads solvable))
    (line_start_found m n ls)

pub own_block_reads : OwnBlockReads
own_block_reads calls m n ls old start holds is h =
    let ok = allowed (after calls) m n ls (after-reads calls ∙ holds) in
    ap (λ (ws : List ℕ). claim_from n (words_in ws)) (written-front calls m n ls old holds start is h)
    ∙ own_claim m n (omega (arith, ok.modulus)) ls ok.moduli ok.largest start is ok.unknowns (omega (arith, ok.has_unknowns))

-- ---- what the questions decide

buffer_kept_lem : (l : Ledger) (old : List ℕ) → 0 < refusal_of l (queries (answers old)) → buffer_after l old ≡ old
buffer_kept_lem l old h = buffer_asked l old ∙ rw (ne_eqb (refusal_of l (queries (answers old))) 0 (λ e. omega arith))

shown-kept : (l : Ledger) (ws old : List ℕ) → 0 < refusal_of l (queries (reasons ws old)) → shown_after l ws old ≡ old
shown-kept l ws old h = shown-asked l ws old ∙ rw (ne_eqb (refusal_of l (queries (reasons ws old))) 0 (λ e. omega arith))

marks-kept : (l : Ledger) (ws old : List ℕ) → 0 < refusal_of l (queries (classes ws old)) → marks_after l ws old ≡ old
marks-kept l ws old h = marks-asked l ws old ∙ rw (ne_eqb (refusal_of l (queries (classes ws old))) 0 (λ e. omega arith))

pub decided_always : DecidedAlways
unfolding entered_of shown_of marked_of
decided_always calls =
    let reads = after-reads calls in
    let refused : (c : Call) → 0 < refusal_of (ledger calls) c → 0 < refusal_of (ledger_of (after calls)) c =
    λ c h. subst (λ (l : Ledger). 0 < refusal_of l c) (sym reads) h in
    record {
      reads = reads;
      entering = λ e. ap (λ (l : Ledger). entered_of l e) reads;
      answering = λ old. ap (λ (l : Ledger). answered_of l old) reads ∙ answered_asked (ledger calls) old;
      showing = λ w. ap (λ (l : Ledger). shown_of l w) reads;
      marking = λ ws. ap (λ (l : Ledger). marked_of l ws) reads;
      reasoning = λ ws old. ap (λ (l : Ledger). reasoned_of l ws old) reads ∙ reasoned_asked (ledger calls) ws old;
      classing = λ ws old. ap (λ (l : Ledger). classed_of l ws old) reads ∙ classed_asked (ledger calls) ws old;
      sheet_kept = λ c h. left_refused (after calls) c (refused c h);
      buffer_kept = λ old h. buffer_kept_lem (ledger_of (after calls)) old (refused (queries (answers old)) h);
      shown_kept = λ ws old h. shown-kept (ledger_of (after calls)) ws old (refused (queries (reasons ws old)) h);
      marks_kept = λ ws old h. marks-kept (ledger_of (after calls)) ws old (refused (queries (classes ws old)) h);
    }

-- ---- memory

pub zeros_are_fresh : ZerosAreFresh
unfolding sheet_from fresh
zeros_are_fresh = (refl, fresh-unopened)

pub reads_on : ReadsOn
reads_on = from-reads
