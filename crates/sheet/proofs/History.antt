-- The sheet after a list of calls.
--   left-reads     the sheet that a call left reads as the ledger after it
--   from-reads     the sheet after more calls reads as the ledger after them
--   fresh-unopened, after-reads   so does the sheet after a list of calls, from a fresh one on
--   left_refused   a refused call leaves the sheet as it was
use mathlib.Core.Path.{◌≡◌, refl, ap, ◌∙◌}
use mathlib.Core.List.{List, [], ◌∷◌}
use Prim.Native.Nat.{◌<◌}
use native.Mathlib.Omega.{arith}
use borrow.Author.Tests.{ne_eqb}
use Rattle.ledger.specs.Ledger.{Ledger, unopened}
use Rattle.ledger.specs.Calls.{Call, enters, queries}
use Rattle.ledger.specs.Questions.{refusal_of}
use Rattle.ledger.specs.History.{enter, ledger_from, ledger}
use Rattle.sheet.specs.Record.{Sheet, fresh, ledger_of}
use Rattle.sheet.specs.Calls.{sheet_after}
use Rattle.sheet.specs.History.{left, sheet_from, after}
use Rattle.sheet.proofs.Turns.{reads-after}

pub left-reads : (s : Sheet) (c : Call) → ledger_of (left s c) ≡ enter (ledger_of s) c
unfolding enter
left-reads s (enters e) = reads-after s e
left-reads s (queries q) = refl

pub from-reads : (s : Sheet) (calls : List Call) → ledger_of (sheet_from s calls) ≡ ledger_from (ledger_of s) calls
unfolding sheet_from ledger_from
from-reads s [] = refl
from-reads s (c ∷ calls) = from-reads (left s c) calls ∙ ap (λ (l : Ledger). ledger_from l calls) (left-reads s c)

pub fresh-unopened : ledger_of fresh ≡ unopened
unfolding fresh ledger_of
fresh-unopened = refl

pub after-reads : (calls : List Call) → ledger_of (after calls) ≡ ledger calls
after-reads calls = from-reads fresh calls ∙ ap (λ (l : Ledger). ledger_from l calls) fresh-unopened

pub left_refused : (s : Sheet) (c : Call) → 0 < refusal_of (ledger_of s) c → left s c ≡ s
unfolding sheet_after
left_refused s (enters e) h = rw (ne_eqb (refusal_of (ledger_of s) (enters e)) 0 (λ e. omega arith))
left_refused s (queries q) h = refl
