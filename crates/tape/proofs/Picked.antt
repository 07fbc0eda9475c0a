-- The call that is picked, and the call that is read from the rest of a tape.
--   picked_told, picked_call   what is told of one call is told of the call that is picked
--   next_wants, next_call      how many words the first one wants, and the call read
--   stepped                    the reader's step, put together
use mathlib.Core.Path.{◌≡◌, sym, ap, subst, ◌∙◌}
use mathlib.Core.List.{List}
use Prim.Native.Nat.{ℕ, ◌*◌}
use lib.ListN.{length}
use Rattle.slices.specs.Over.{over}
use Rattle.words.specs.declared.unpacking.Word.{Word}
use Rattle.words.specs.Fronts.{first_word}
use Rattle.ledger.specs.Ledger.{Ledger, unknowns_of}
use Rattle.ledger.specs.Calls.{Call}
use Rattle.sheet.specs.Record.{Sheet, ledger_of}
use Rattle.sheet.specs.History.{left}
use Rattle.tape.specs.declared.calling.Step.{Step}
use Rattle.tape.specs.declared.picking.Pick.{Pick}
use Rattle.tape.specs.Bytes.{words_on}
use Rattle.tape.specs.FirstCall.{pick_of, wanted_by, wanted, call_by, first_call}
use Rattle.tape.specs.Reader.{lines_on, first_on, taken_from, step_of}
use Rattle.tape.specs.Model.Handed.{Tells}

pub picked_told : (s : Sheet) {c d : Call} {after : Sheet} {old new : List ℕ} {k : ℕ} → c ≡ d → Tells s c after old new k
    → Tells s d after old new k
picked_told s {after = after} {old} {new} {k} = subst (λ (e : Call). Tells s e after old new k)

pub picked_call : (number : ℕ) (taken : List ℕ) {p q : Pick} → q ≡ p → call_by p number taken ≡ call_by q number taken
picked_call number taken is = ap (λ (p : Pick). call_by p number taken) (sym is)

-- ---- the first call on the rest of a tape

module _ (l : Ledger) (rest : List ℕ) {first : Word} (is : first ≡ first_word (words_on rest)) {pick : Pick} (picks : pick ≡ pick_of first.kind) where
  pub next_wants : {n want : ℕ} → n ≡ unknowns_of l → want ≡ wanted_by n pick first.number → want ≡ wanted l (first_word (words_on rest))
  next_wants same wants = wants ∙ rw (picks, same, is)

  pub next_call : (taken : List ℕ) → taken ≡ taken_from l (words_on rest) → call_by pick first.number taken ≡ first_call l (words_on rest)
  unfolding first_call
  next_call taken words = rw (words, picks, is)

pub stepped : (s : Sheet) (rest : List ℕ) {c : Call} {after : Sheet} {used k : ℕ} {old new : List ℕ}
    → c ≡ first_on s rest → used ≡ 4 * length (taken_from (ledger_of s) (words_on rest)) → Tells s c after old new k
    → (◌≡◌ {A = Step} (record { used = used; written = k }) (step_of s rest))
    × ((after ≡ left s (first_on s rest)) × (new ≡ over (lines_on s (first_on s rest)) old))
unfolding step_of
stepped s rest call bytes told =
    let t = picked_told s call told in (rw (bytes, t.count), (t.sheet, t.lines))
