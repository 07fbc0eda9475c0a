-- What the call gives back and leaves, case by case.
--   no_turns, too_short, wrote   no turns open the safe; the buffer is too short for them; it is long enough
--   refused, let_in              a question about the arguments has the answer no; none has
--   words_few                    the call writes at most 32 memory words
use mathlib.Core.Bool.{Bool, true, false, cond}
use mathlib.Core.List.{List}
use mathlib.Core.Option.{Option, none, some}
use mathlib.Core.Path.{◌≡◌, refl, subst}
use Prim.Native.Nat.{ℕ, zero, suc, ◌*◌, ◌≤◌, ◌<◌}
use native.Mathlib.Omega.{arith}
use borrow.Author.Tests.{eq-eqb, ne_eqb, le-leb, lt-leb}
use lib.ListN.{length}
use Rattle.std.specs.Prelude.{Some, None, Ok, Err}
use Rattle.slices.specs.Over.{over}
use Rattle.questions.specs.Questions.{first_no, unless_refused}
use Rattle.questions.specs.Reply.{refuses, fits, result_of, memory_after}
use Rattle.equations.proofs.Vectors.{vector-length}
use Rattle.words.specs.Words.{entry_kind, words_in, numbers_of, words_of}
use Rattle.words.proofs.Packed.{written_two}
use Rattle.safe.specs.Turns.{turns_of}
use Rattle.safe.specs.Calls.{most_locks, argument_questions, found, turns_reply, turned_of}
use Rattle.safe.specs.Model.Handed.{Gives}
use Rattle.safe.proofs.Promises.{wanted}
use Rattle.safe.proofs.Questions.{accepted}
use Rattle.safe.specs.Turned.{Turned, gives_turns, gives_none}

-- ---- case by case

module _ {turns : Option (List ℕ)} (old : List ℕ) where
  pub no_turns : turns ≡ none → Gives (found turns) old gives_none old
  unfolding result_of memory_after
  no_turns are =
      let fit = le-leb 0 (length old) (omega arith) in
      (rw (are, fit), rw (are, fit))

  module _ (vs : List ℕ) (are : turns ≡ some vs) where
    pub too_short : length old < length (words_of entry_kind vs) → Gives (found turns) old (Err 8) old
    unfolding result_of memory_after
    too_short short = let no = lt-leb (length (words_of entry_kind vs)) (length old) short in (rw (are, no), rw (are, no))

    pub wrote : length (words_of entry_kind vs) ≤ length old
        → Gives (found turns) old (gives_turns (length (words_of entry_kind vs))) (over (words_of entry_kind vs) old)
    unfolding result_of memory_after
    wrote long = let yes = le-leb (length (words_of entry_kind vs)) (length old) long in (rw (are, yes), rw (are, yes))

module _ (m rows columns : ℕ) (values old : List ℕ) (number : ℕ)
    (is : number ≡ first_no (argument_questions m rows columns values)) where
  pub refused : (number ≡ 0 → ⊥) → Gives (turns_reply m rows columns values) old (Err number) old
  unfolding turns_reply result_of memory_after
  refused more = (rw (← is, ne_eqb number 0 more), rw (← is, ne_eqb number 0 more))

  pub let_in : {r : Turned} {new : List ℕ} → number ≡ 0
      → Gives (found (turns_of m rows columns (numbers_of (words_in values)))) old r new
      → Gives (turns_reply m rows columns values) old r new
  unfolding turns_reply
  let_in h given = (rw (← is, eq-eqb number 0 h) given.0, rw (← is, eq-eqb number 0 h) given.1)

-- ---- the turns as words

turns_length : (m rows columns : ℕ) (values vs : List ℕ) → turns_of m rows columns values ≡ some vs → length vs ≡ rows * columns
turns_length m rows columns values vs are = vector-length m (rows * columns) vs ((wanted m rows columns values vs).0 are).vector

-- ---- how many words are written

abbrev written : Turned → ℕ
written (Ok (Some k)) = k
written (Ok None) = 0
written (Err k) = 0

few-found : (o : Option (List ℕ)) (old : List ℕ) → ((vs : List ℕ) → o ≡ some vs → length vs ≤ most_locks)
    → written (result_of Err (found o) old) ≤ 2 * most_locks
unfolding result_of
few-found none old few = rw (le-leb 0 (length old) (omega arith)) (omega arith)
few-found (some vs) old few = either (fits (length (words_of entry_kind vs)) old)
  where
    either : (b : Bool) → written (cond b (gives_turns (length (words_of entry_kind vs))) (Err 8)) ≤ 2 * most_locks
    either true = omega (arith, written_two entry_kind vs, few vs refl)
    either false = omega arith

module _ (m rows columns : ℕ) (values old : List ℕ) where
  abbrev turns : Option (List ℕ)
  turns = turns_of m rows columns (numbers_of (words_in values))

  few-given : (number : ℕ) → first_no (argument_questions m rows columns values) ≡ number
      → written (result_of Err (unless_refused refuses number (found turns)) old) ≤ 2 * most_locks
  unfolding result_of
  few-given zero h = few-found turns old few
    where
      few : (vs : List ℕ) → turns ≡ some vs → length vs ≤ most_locks
      few vs are =
          let safe = accepted m rows columns values h in
          omega (arith, turns_length m rows columns (numbers_of (words_in values)) vs are, safe.count, safe.few)
  few-given (suc number) h = rw (ne_eqb (suc number) 0 (λ e. omega arith)) (omega arith)

  pub words_few : (k : ℕ) → turned_of m rows columns values old ≡ gives_turns k → k ≤ 2 * most_locks
  unfolding turned_of turns_reply
  words_few k is =
      subst (λ (t : Turned). written t ≤ 2 * most_locks) is (few-given (first_no (argument_questions m rows columns values)) refl)
