-- One call: the record after it reads as the ledger after it, `reads-after`. So it is for every record and every call that opens,
-- adds or strikes.
use mathlib.Core.Path.{◌≡◌, refl}
use mathlib.Core.Bool.{Bool, true, false, cond}
use borrow.Author.Tests.{eqb-true}
use lib.Dec.{eqb}
use Rattle.ledger.specs.Calls.{Entry, enters}
use Rattle.ledger.specs.Questions.{refusal_of}
use Rattle.ledger.specs.History.{effect_of, changed, enter}
use Rattle.ledger.proofs.Effects.{accepted_allows}
use Rattle.sheet.specs.Record.{Sheet, ledger_of, record_by}
use Rattle.sheet.specs.Calls.{sheet_after}
use Rattle.sheet.proofs.Records.{changed-reads}

pub reads-after : (s : Sheet) (e : Entry) → ledger_of (sheet_after s e) ≡ enter (ledger_of s) (enters e)
unfolding sheet_after enter
reads-after s e =
    go (eqb (refusal_of (ledger_of s) (enters e)) 0)
    (λ yes. changed-reads s (effect_of (ledger_of s) e)
    (accepted_allows (ledger_of s) e (eqb-true (refusal_of (ledger_of s) (enters e)) 0 yes)))
  where
    go : (accepted : Bool)
        → (accepted ≡ true → ledger_of (record_by s (effect_of (ledger_of s) e)) ≡ changed (ledger_of s) (effect_of (ledger_of s) e))
        → ledger_of (cond accepted (record_by s (effect_of (ledger_of s) e)) s)
        ≡ cond accepted (changed (ledger_of s) (effect_of (ledger_of s) e)) (ledger_of s)
    go true reads = reads refl
    go false reads = refl
