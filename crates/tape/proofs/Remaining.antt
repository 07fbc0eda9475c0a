-- What the rest of a tape prints, from the ledger before it, and how a step of the reader takes its lines off.
--   remaining           the lines of the calls on the rest, and the line of the bytes left over
--   lines_remaining     those of the whole tape are its lines
--   remaining_step      the lines of the first call, and what remains behind it
--   remaining_end       less than a word prints the line of the bytes left over, and then nothing:
--   remaining_none, -over
--   used_by              the bytes that a step takes
--   used_some, -fits    a word at least, and no more than there is
use mathlib.Core.Path.{◌≡◌, refl, sym, ap, ◌∙◌}
use mathlib.Core.List.{List, [], ◌∷◌, ◌++◌, append_assoc, append-nil}
use Prim.Native.Nat.{ℕ, ◌*◌, ◌%◌, ◌≤◌, ◌<◌}
use native.Mathlib.Omega.{arith}
use borrow.Author.Tests.{le-leb}
use lib.ListN.{length, drop, length-drop}
use Rattle.words.specs.declared.unpacking.Word.{Word}
use Rattle.words.specs.Fronts.{first_word, front_length}
use Rattle.words.proofs.Fronts.{front_fits, front_takes, front_length_lem}
use Rattle.ledger.specs.Ledger.{Ledger}
use Rattle.ledger.specs.Calls.{Call}
use Rattle.ledger.specs.History.{enter}
use Rattle.sheet.specs.Record.{Sheet, fresh, ledger_of}
use Rattle.sheet.specs.History.{left}
use Rattle.sheet.proofs.History.{left-reads, fresh-unopened}
use Rattle.tape.specs.Bytes.{words_on}
use Rattle.tape.specs.FirstCall.{wanted, behind_first}
use Rattle.tape.specs.Counted.Calls.{wanted_some}
use Rattle.tape.specs.Calls.{calls_on, calls-none, calls-first}
use Rattle.tape.specs.Output.{call_lines, lines_from, left_over_line, most_bytes, lines}
use Rattle.tape.specs.Reader.{lines_on, first_on, taken_from}
pub use Rattle.tape.specs.Run.{remaining}
use Rattle.tape.proofs.OnTape.{words_length, words_behind}

pub lines_remaining : (tape : List ℕ) → length tape ≤ most_bytes → lines tape ≡ remaining (ledger_of fresh) tape
unfolding lines
lines_remaining tape fits = rw (le-leb (length tape) most_bytes fits, fresh-unopened)

-- ---- one step

abbrev pub used_by : Ledger → List ℕ → ℕ
used_by l rest = 4 * length (taken_from l (words_on rest))

module _ (l : Ledger) (rest : List ℕ) where
  abbrev first : Word
  first = first_word (words_on rest)

  taken_count : length (taken_from l (words_on rest)) ≡ front_length (wanted l (first_word (words_on rest))) (words_on rest)
  taken_count = front_length_lem (wanted l first) (words_on rest)

  pub used_some : 4 ≤ length rest → 4 ≤ used_by l rest
  used_some whole =
      let some = front_takes (wanted l first) (words_on rest) (wanted_some l first) (omega (arith, words_length rest)) in
      omega (arith, taken_count, some)

  pub used_fits : used_by l rest ≤ length rest
  used_fits = omega (arith, taken_count, words_length rest, front_fits (wanted l first) (words_on rest))

  behind_used : words_on (drop (used_by l rest) rest) ≡ behind_first l (words_on rest)
  unfolding behind_first
  behind_used =
      words_behind (length (taken_from l (words_on rest))) rest ∙ ap (λ (k : ℕ). drop k (words_on rest)) taken_count

  left_over_used : left_over_line (drop (used_by l rest) rest) ≡ left_over_line rest
  left_over_used =
      let same : length (drop (used_by l rest) rest) % 4 ≡ length rest % 4 =
      omega (arith, length-drop (used_by l rest) rest, used_fits) in
      rw same

pub remaining_step : (s : Sheet) (rest : List ℕ) → 4 ≤ length rest
    → remaining (ledger_of s) rest
    ≡ lines_on s (first_on s rest) ++ remaining (ledger_of (left s (first_on s rest))) (drop (used_by (ledger_of s) rest) rest)
unfolding lines_from
remaining_step s rest whole =
    let l = ledger_of s in
    let c = first_on s rest in
    let after = drop (used_by l rest) rest in
    let some : 0 < length (words_on rest) = omega (arith, words_length rest) in
    ap (λ (calls : List Call). lines_from l calls ++ left_over_line rest) (calls-first l (words_on rest) some)
    ∙ append_assoc (call_lines l c) (lines_from (enter l c) (calls_on (enter l c) (behind_first l (words_on rest)))) (left_over_line rest)
    ∙ ap (λ (ws : List ℕ). call_lines l c ++ (lines_from (enter l c) (calls_on (enter l c) ws) ++ left_over_line rest))
    (sym (behind_used l rest))
    ∙ ap (λ (z : List ℕ). call_lines l c ++ (lines_from (enter l c) (calls_on (enter l c) (words_on after)) ++ z))
    (sym (left_over_used l rest))
    ∙ ap (λ (l' : Ledger). call_lines l c ++ remaining l' after) (sym (left-reads s c))

no_words : (ws : List ℕ) → length ws ≡ 0 → ws ≡ []
no_words [] none = refl
no_words (w ∷ ws) none = absurd (omega arith)

pub remaining_end : (l : Ledger) (rest : List ℕ) → length rest < 4 → remaining l rest ≡ left_over_line rest
unfolding lines_from
remaining_end l rest short =
    ap (λ (ws : List ℕ). lines_from l (calls_on l ws) ++ left_over_line rest)
    (no_words (words_on rest) (omega (arith, words_length rest)))
    ∙ ap (λ (calls : List Call). lines_from l calls ++ left_over_line rest) (calls-none l)

pub remaining_none : (l : Ledger) (rest : List ℕ) → length rest ≡ 0 → remaining l rest ≡ []
remaining_none l rest none = remaining_end l rest (omega arith) ∙ rw none

pub remaining_over : (l : Ledger) (rest after : List ℕ) {told : List ℕ} → length rest < 4 → told ≡ left_over_line rest → length after ≡ 0
    → remaining l rest ≡ told ++ remaining l after
remaining_over l rest after {told} short is none =
    remaining_end l rest short ∙ sym is ∙ sym (append-nil told) ∙ ap (λ (z : List ℕ). told ++ z) (sym (remaining_none l after none))
