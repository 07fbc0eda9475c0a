-- `solve` meets its contract: `refusal` asks the questions. Where none turns the safe away, it has left the numbers of all values,
-- and `turns_into` makes the reply.
use mathlib.Core.List.{List}
use mathlib.Core.Path.{◌≡◌, refl, sym, ap, subst, ◌∙◌}
use Prim.Native.Nat.{ℕ, ◌*◌, ◌≤◌}
use native.Mathlib.Omega.{arith}
use lib.ListN.{length, take}
use Rattle.slices.specs.Over.{over}
use Rattle.questions.specs.Questions.{first_no}
use Rattle.questions.specs.Refusals.{by_number}
use Rattle.questions.proofs.Ladder.{number_not, handed_on}
use Rattle.words.specs.Words.{words_in, numbers_of}
use Rattle.words.proofs.Words.{number_of, parts_count}
use Rattle.words.proofs.Unpacked.{parts_seen}
use Rattle.safe.specs.Turned.{Turned}
use Rattle.safe.specs.Turns.{turns_of}
use Rattle.safe.specs.Calls.{most_locks, argument_questions, found, turns_reply, turned_of, buffer_after}
use Rattle.safe.specs.Model.Handed.{values_room, Lockable, Gives}
use Rattle.safe.proofs.Questions.{accepted}
use Rattle.safe.proofs.Calls.{refused, let_in}
use Rattle.safe.proofs.solve.Goals as goal

-- where no question about the arguments turned the safe away
module _ (m rows columns : ℕ) (values : List ℕ) {number : ℕ} (is : number ≡ first_no (argument_questions m rows columns values))
    (none : number ≡ 0) where
  safe : Lockable m rows columns (numbers_of (words_in values))
  safe = accepted m rows columns values (sym is ∙ none)

  few : rows * columns ≤ most_locks
  few = omega (arith, safe.count, safe.few)

  module _ (old : List ℕ) {numbers : List ℕ} (front : numbers ≡ over (take values_room (numbers_of (words_in values))) old) where
    all_seen : take (rows * columns) numbers ≡ numbers_of (words_in values)
    all_seen = parts_seen number_of values_room values old front {r = rows * columns}
        (omega (arith, safe.count, few, parts_count number_of (words_in values)))
        (omega (arith, safe.few, parts_count number_of (words_in values)))

    lockable : Lockable m rows columns (take (rows * columns) numbers)
    lockable = subst (Lockable m rows columns) (sym all_seen) safe

    replied : (buffer : List ℕ) {new : List ℕ} {r : Turned}
        → (rows * columns ≡ length (take (rows * columns) numbers)
        → Gives (found (turns_of m rows columns (take (rows * columns) numbers))) buffer r new)
        → Gives (turns_reply m rows columns values) buffer r new
    replied buffer {new} {r} given =
        let_in m rows columns values buffer number is none
        (subst (λ (ns : List ℕ). Gives (found (turns_of m rows columns ns)) buffer r new) all_seen (given lockable.count))

pub returns-in_err-refusal : goal.returns-in_err-refusal
unfolding turned_of buffer_after
returns-in_err-refusal c =
    let p = c.args in
    let out = c.from_residual in
    let refusal = c.in_err-refusal.field-0.0 in
    let both = refused p.m p.rows p.columns p.values.now p.out.now _ c.in_err-refusal.ensures.value (number_not refusal) in
    record { value = ap by_number (handed_on out.result refusal out.ensures.1) ∙ both.0; out_after = both.1 }

pub turns_into-requires : goal.turns_into-requires
turns_into-requires c =
    let asked = c.in_ok-refusal in
    let p = c.args in
    (p.rows, lockable p.m p.rows p.columns p.values.now asked.ensures.value refl _ asked.ensures.numbers_after)

pub returns : goal.returns
unfolding turned_of buffer_after
returns c =
    let asked = c.in_ok-refusal in
    let p = c.args in
    let both = replied p.m p.rows p.columns p.values.now asked.ensures.value refl _ asked.ensures.numbers_after p.out.now (c.turns_into.ensures p.rows) in record { value = both.0; out_after = both.1 }
