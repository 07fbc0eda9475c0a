-- What a call prints, from what it says.
--   entered_told      the line of what an add or a strike says is the line of the call
--   said_holds        a call that says how many are held is accepted
--   said_refused      one that says a refusal prints it
--   accepted_told     an accepted call prints its own lines
--   opened_told       an accepted opening prints what is then seen of the sheet
--   marked_told       the line of what a mark says is the line of the call
--   meaningless_told  a word that picks no call prints refusal 1
--   told              a call told: its sheet, the length of its lines, and the lines
use mathlib.Core.Path.{◌≡◌, refl, sym, ap, ap₂, ◌∙◌}
use mathlib.Core.Bool.{Bool, true, false, cond}
use mathlib.Core.List.{List, [], ◌∷◌}
use Prim.Native.Nat.{ℕ}
use native.Mathlib.Omega.{arith}
use borrow.Author.Tests.{ne_eqb}
use lib.Dec.{eqb}
use lib.ListN.{length}
use Rattle.std.specs.Prelude.{Result, Ok, Err}
use Rattle.slices.specs.Over.{over}
use Rattle.equations.specs.declared.Mark.{Mark}
use Rattle.ledger.specs.Ledger.{Ledger, modulus_of, unknowns_of, lines_in}
use Rattle.ledger.specs.Marking.{claim_mark}
use Rattle.ledger.specs.Calls.{Call, Entry, opens, marks, meaningless, misplaced, enters, queries}
use Rattle.ledger.specs.Questions.{refusal_of}
use Rattle.ledger.specs.History.{enter}
use Rattle.ledger.proofs.Effects.{enter-accepted}
use Rattle.asking.specs.declared.Seen.{Seen}
use Rattle.asking.specs.Sees.{Sees}
use Rattle.sheet.specs.Record.{Sheet, ledger_of}
use Rattle.questions.proofs.Results.{gives-ok, gives-err}
use Rattle.sheet.specs.Calls.{entered_of, marked_of}
use Rattle.sheet.specs.History.{left}
use Rattle.sheet.proofs.History.{left-reads}
use Rattle.tape.specs.Text.{line, line_of}
use Rattle.tape.specs.Output.{refused_line, mark_line, accepted_lines, held_after, call_lines}
use Rattle.tape.specs.Reader.{lines_on}
use Rattle.tape.specs.Model.Handed.{entered_line, marked_line, Tells}

holds_or_refused : (name : List ℕ) (b : Bool) (k r : ℕ)
    → entered_line name (cond b (Ok k) (Err r)) ≡ cond b (line_of name (k ∷ [])) (refused_line r)
holds_or_refused name true k r = refl
holds_or_refused name false k r = refl

gets_or_refused : (b : Bool) (mark : Mark) (r : ℕ)
    → marked_line (cond b (Ok mark) (Err r)) ≡ cond b (mark_line mark) (refused_line r)
gets_or_refused true mark r = refl
gets_or_refused false mark r = refl

pub refused_told : (s : Sheet) (c : Call) {r : ℕ} → refusal_of (ledger_of s) c ≡ r → (r ≡ 0 → ⊥) → refused_line r ≡ lines_on s c
unfolding call_lines
refused_told s c {r} is some = rw (is, ne_eqb r 0 some)

module _ (s : Sheet) (e : Entry) {entered : (Result ℕ ℕ)} (is : entered ≡ entered_of (ledger_of s) e) where
  pub entered_told : (name : List ℕ) → accepted_lines (ledger_of s) (enters e) ≡ line_of name (held_after (ledger_of s) e)
      → entered_line name entered ≡ lines_on s (enters e)
  unfolding entered_of call_lines
  entered_told name accepted =
      rw (is, accepted) (holds_or_refused name (eqb (refusal_of (ledger_of s) (enters e)) 0) _ (refusal_of (ledger_of s) (enters e)))

-- by what it says, an accepted call is told from a refused one
module _ (s : Sheet) (e : Entry) where
  pub said_holds : {k : ℕ} → Ok k ≡ entered_of (ledger_of s) e → refusal_of (ledger_of s) (enters e) ≡ 0
  unfolding entered_of
  said_holds said = (gives-ok (refusal_of (ledger_of s) (enters e)) (length (lines_in (enter (ledger_of s) (enters e)))) (sym said)).0

  pub said_refused : {r : ℕ} → Err r ≡ entered_of (ledger_of s) e → refused_line r ≡ lines_on s (enters e)
  unfolding entered_of
  said_refused said =
      let given = gives-err (refusal_of (ledger_of s) (enters e)) (length (lines_in (enter (ledger_of s) (enters e)))) (sym said) in
      refused_told s (enters e) given.0 given.1

pub accepted_told : (l : Ledger) (c : Call) → refusal_of l c ≡ 0 → accepted_lines l c ≡ call_lines l c
unfolding call_lines
accepted_told l c none = rw none

pub opened_told : (s : Sheet) (ws : List ℕ) {after : Sheet} {seen : Seen} → refusal_of (ledger_of s) (enters (opens ws)) ≡ 0
    → after ≡ left s (enters (opens ws)) → Sees (ledger_of after) seen
    → line "open" (seen.modulus ∷ seen.unknowns ∷ []) ≡ lines_on s (enters (opens ws))
opened_told s ws {after} none same sees =
    let reads = ap ledger_of same ∙ left-reads s (enters (opens ws)) ∙ enter-accepted (ledger_of s) (opens ws) none in
    ap₂ (λ (m n : ℕ). line "open" (m ∷ n ∷ [])) (sees.modulus ∙ ap modulus_of reads) (sees.unknowns ∙ ap unknowns_of reads)
    ∙ accepted_told (ledger_of s) (enters (opens ws)) none

pub marked_told : (s : Sheet) (ws : List ℕ) {marked : (Result Mark ℕ)} → marked ≡ marked_of (ledger_of s) ws
    → marked_line marked ≡ lines_on s (queries (marks ws))
unfolding marked_of call_lines
marked_told s ws is =
    rw is
    (gets_or_refused (eqb (refusal_of (ledger_of s) (queries (marks ws))) 0) (claim_mark (ledger_of s) ws)
    (refusal_of (ledger_of s) (queries (marks ws))))

pub meaningless_told : (s : Sheet) (ws : List ℕ) → refused_line 1 ≡ lines_on s (queries (meaningless ws))
unfolding call_lines refusal_of
meaningless_told s ws = refl

pub misplaced_told : (s : Sheet) (ws : List ℕ) → refused_line 17 ≡ lines_on s (queries (misplaced ws))
unfolding call_lines refusal_of
misplaced_told s ws = refl

pub told : (s : Sheet) (c : Call) (old : List ℕ) {after : Sheet} {lines new : List ℕ} {k : ℕ} → after ≡ left s c
    → lines ≡ lines_on s c → k ≡ length lines → new ≡ over lines old → Tells s c after old new k
told s c old same is count front =
    record { sheet = same; count = count ∙ ap length is; lines = front ∙ ap (λ (z : List ℕ). over z old) is }
