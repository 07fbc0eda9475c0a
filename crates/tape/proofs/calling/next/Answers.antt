-- `calling::next` meets its contract: the words that the first one wants, or all that are left, are the call's.
use mathlib.Core.Path.{ap, ◌∙◌}
use Prim.Native.Nat.{ℕ, ◌*◌}
use lib.ListN.{length}
use Rattle.words.specs.Fronts.{front}
use Rattle.sheet.specs.Record.{ledger_of}
use Rattle.tape.specs.Bytes.{words_on}
use Rattle.tape.proofs.Picked.{next_wants, next_call, stepped}
use Rattle.tape.proofs.calling.next.Goals as goal

pub returns : goal.returns
returns c =
    let s = c.args.sheet.now in
    let rest = c.args.rest.now in
    let l = ledger_of s in
    let first = c.first_word-first.ensures in
    let pick = c.picked-pick.ensures in
    let taken = c.take_words-count.ensures in
    let wants = next_wants l rest first pick c.seen-seen.ensures.sees.unknowns c.call_length-wanted.ensures.0 in
    let front_is = ap (λ (k : ℕ). front k (words_on rest)) wants in
    let both =
    stepped s rest (next_call l rest first pick _ (taken.taken_after ∙ front_is))
    (ap (λ (k : ℕ). 4 * k) (taken.value.0 ∙ ap length front_is)) c.call-written.ensures in
    record { value = both.0; sheet_after = both.1.0; out_after = both.1.1 }
