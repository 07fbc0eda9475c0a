-- The promises of specs/Promises.antt, kept: an answer's block, cut into vectors again, is the start and the steps, the line of a mark
-- tells whether the claim is right and whether it is long, and the words of a class are marks.
use mathlib.Core.Path.{◌≡◌, refl, sym, ap, ap₂, ◌∙◌}
use mathlib.Core.List.{List, [], ◌∷◌, ◌++◌, append_assoc, flatten}
use mathlib.Core.Option.{some}
use Prim.Native.Nat.{ℕ, ◌<◌}
use native.Mathlib.Omega.{arith}
use lib.Dec.{T, eqb→eq}
use lib.ListN.{length, get_or}
use lib.Seq.{take_at, drop_at}
use Rattle.equations.specs.Line.{Line, line_start, line_steps, line_refutes}
use Rattle.equations.proofs.Vectors.{vector-length}
use Rattle.equations.proofs.Marks.{Apart}
use Rattle.equations.proofs.LinePromises.{line_no_start}
use Rattle.system.specs.Claims.{vectors_within}
use Rattle.system.specs.Lines.{line_multipliers}
use Rattle.system.proofs.Lines.{multipliers_refute, line_block_some, line-block-none}
use Rattle.system.proofs.Chunks.{within_flatten}
use Rattle.words.specs.Words.{words_in}
use Rattle.ledger.specs.Ledger.{Ledger, unopened, opened}
use Rattle.ledger.specs.Allowed.{Allowed}
use Rattle.ledger.specs.Shapes.{claim_from}
use Rattle.ledger.specs.Marking.{claim_mark}
use Rattle.ledger.specs.Calls.{Call, marks, answers_from_tape, queries}
use Rattle.ledger.specs.Questions.{plain}
use Rattle.ledger.specs.History.{enter, ledger_from, ledger}
use Rattle.ledger.proofs.Own.{line-vector, line-vectors}
use Rattle.ledger.proofs.Refusals.{answers-word-plain}
use Rattle.sheet.specs.Promises.{NothingSolves, WellFormed, RightMark}
use Rattle.sheet.specs.History.{after}
use Rattle.sheet.proofs.History.{after-reads}
use Rattle.sheet.proofs.Marks.{well_accepted, claim_tells}
use Rattle.sheet.proofs.Promises.{right_always}
use Rattle.tape.specs.Text.{line, line_of}
use Rattle.tape.specs.Output.{block_lines, step_lines, mark_line, answer_lines, call_lines, lines_from}
use Rattle.tape.specs.Promises.{CallPrinted, AnswerPrinted, AnswersPrinted, MarksPrinted, ClassOnTape}
use Rattle.tape.proofs.Told.{accepted_told}
use Rattle.tape.proofs.Classes.{class_marks}

-- ---- a call behind others

call_from : (l : Ledger) (before rest : List Call) (c : Call)
    → lines_from l (before ++ (c ∷ rest))
    ≡ lines_from l before ++ (call_lines (ledger_from l before) c ++ lines_from (enter (ledger_from l before) c) rest)
unfolding lines_from ledger_from
call_from l [] rest c = refl
call_from l (b ∷ before) rest c =
    ap (λ (z : List ℕ). call_lines l b ++ z) (call_from (enter l b) before rest c)
    ∙ sym (append_assoc (call_lines l b) (lines_from (enter l b) before)
    (call_lines (ledger_from (enter l b) before) c ++ lines_from (enter (ledger_from (enter l b) before) c) rest))

pub call_printed : CallPrinted
call_printed = call_from unopened

lines-apart : Apart mark_line
unfolding line_of
lines-apart =
    let first : List ℕ → ℕ = λ bytes. get_or bytes 0 0 in
    record {
      pass_fail = λ same. omega (arith, ap first same);
      long_fail = λ same. omega (arith, ap first same);
      pass-long = λ same. omega (arith, ap first same);
    }

module _ (m n : ℕ) (ls : List Line) where
  module _ (calls : List Call) (holds : ledger calls ≡ opened m n ls) where
    allowed : Allowed m n ls
    allowed = (right_always (after calls) m n ls (after-reads calls ∙ holds)).allowed

    positive : 0 < m
    positive = omega (arith, allowed.modulus)

    solution_printed : (c : List ℕ) → line_start m n ls ≡ some c
        → answer_lines (opened m n ls) ≡ line "from" c ++ step_lines (line_steps m n ls)
    solution_printed c h =
        let long : length c ≡ n = vector-length m n c (line-vector m n positive ls allowed.moduli c h) in
        ap (block_lines n) (line_block_some m n ls c h)
        ∙ ap₂ (λ (s : List ℕ) (ss : List (List ℕ)). line "from" s ++ step_lines ss)
        (take_at c (flatten (line_steps m n ls)) n long)
        (ap (vectors_within (length (line_steps m n ls)) n) (drop_at c (flatten (line_steps m n ls)) n long)
        ∙ within_flatten m n (line_steps m n ls) (line-vectors m n positive ls allowed.moduli))

    refutation_printed : NothingSolves m n ls
        → (ks : List ℕ) × T (line_refutes m n ls ks) × (answer_lines (opened m n ls) ≡ line "none" ks)
    refutation_printed nothing =
        let none = (line_no_start m n ls).1 nothing in (
          line_multipliers m n ls,
          multipliers_refute m n ls positive allowed.moduli allowed.shaped none,
          ap (block_lines n) (line-block-none m n ls none),
        )

    answer_is : (number : ℕ) → T (plain number) → call_lines (ledger calls) (queries (answers_from_tape number)) ≡ answer_lines (opened m n ls)
    answer_is number zero =
        ap (λ (l : Ledger). call_lines l (queries (answers_from_tape number))) holds
        ∙ sym (accepted_told (opened m n ls) (queries (answers_from_tape number))
        (answers-word-plain (opened m n ls) refl number (eqb→eq number 0 zero)))

    mark_is : (ws : List ℕ) → WellFormed m n ws
        → call_lines (ledger calls) (queries (marks ws)) ≡ mark_line (claim_mark (opened m n ls) ws)
    mark_is ws well =
        ap (λ (l : Ledger). call_lines l (queries (marks ws))) holds
        ∙ sym (accepted_told (opened m n ls) (queries (marks ws)) (well_accepted m n ls ws well))

    answer_printed : (number : ℕ) → T (plain number) → AnswerPrinted m n ls (call_lines (ledger calls) (queries (answers_from_tape number)))
    answer_printed number zero = rw (answer_is number zero) (record { solution = solution_printed; refutation = refutation_printed })

    mark_printed : (ws : List ℕ) → WellFormed m n ws
        → RightMark mark_line m n ls (claim_from n (words_in ws)) (call_lines (ledger calls) (queries (marks ws)))
    mark_printed ws well = rw (mark_is ws well) (claim_tells m n ls positive ws well mark_line lines-apart)

pub answers_printed : AnswersPrinted
answers_printed calls m n ls = answer_printed m n ls calls

pub marks_printed : MarksPrinted
marks_printed calls m n ls = mark_printed m n ls calls

pub class_on_tape : ClassOnTape
class_on_tape = class_marks
