-- However a sheet came about.
--   unknowns-few   the ledger that it reads as has at most 16 unknowns,
--   equations-few  and 16 lines
--   held-few       and a call says that it then holds at most 16 equations
use mathlib.Core.Path.{◌≡◌, ap}
use mathlib.Core.Logic.{⊎_elim}
use mathlib.Core.Bool.{Bool, true, false, cond}
use Prim.Native.Nat.{ℕ, ◌≤◌}
use native.Mathlib.Omega.{arith}
use lib.Dec.{eqb}
use lib.ListN.{length}
use Rattle.std.specs.Prelude.{Result, Ok, Err}
use Rattle.equations.proofs.Truth.{true_or_false}
use Rattle.ledger.specs.Ledger.{Ledger, unknowns_of, lines_in, most_equations, most_unknowns}
use Rattle.ledger.specs.Calls.{Entry, enters}
use Rattle.ledger.specs.Questions.{refusal_of}
use Rattle.ledger.specs.History.{enter}
use Rattle.sheet.specs.Record.{Sheet, readable, ledger_of}
use Rattle.sheet.specs.Calls.{entered_of, sheet_after}
use Rattle.sheet.specs.View.{held_by}
use Rattle.sheet.proofs.Turns.{reads-after}
use Rattle.sheet.proofs.Reading.{readable-fit, ledger-opened, ledger-unopened, held_counts}

pub unknowns-few : (s : Sheet) → unknowns_of (ledger_of s) ≤ most_unknowns
unknowns-few s =
    ⊎_elim (λ is. rw (ledger-opened s is) (readable-fit s is).unknowns) (λ no. rw (ledger-unopened s no) (omega arith))
    (true_or_false (readable s))

pub equations-few : (s : Sheet) → length (lines_in (ledger_of s)) ≤ most_equations
equations-few s =
    ⊎_elim (λ is. omega (arith, held_counts s is, (readable-fit s is).equations))
    (λ no. omega (arith, ap (λ (l : Ledger). length (lines_in l)) (ledger-unopened s no))) (true_or_false (readable s))

held_or_none : (b : Bool) (k r : ℕ) → held_by (cond b (Ok k) (Err r)) ≤ k
held_or_none true k r = omega arith
held_or_none false k r = omega arith

pub held-few : (s : Sheet) (e : Entry) {entered : (Result ℕ ℕ)} → entered ≡ entered_of (ledger_of s) e → held_by entered ≤ most_equations
unfolding entered_of
held-few s e is =
    let few = equations-few (sheet_after s e) in
    let same = ap (λ (l : Ledger). length (lines_in l)) (reads-after s e) in
    let said = held_or_none (eqb (refusal_of (ledger_of s) (enters e)) 0) (length (lines_in (enter (ledger_of s) (enters e)))) (refusal_of (ledger_of s) (enters e)) in
    rw is (omega arith)
