-- What the call for a reason gives back to C and leaves in its two memories, each way out.
--   reason_places    `at` is too short
--   reason_told      a reason is given
--   reason-turned    the sheet's call is refused
use mathlib.Core.Path.{◌≡◌, refl}
use mathlib.Core.Bool.{Bool, true, false, cond}
use mathlib.Core.List.{List, [], ◌∷◌, ◌++◌}
use Prim.Native.Nat.{ℕ, ◌<◌, ◌≤◌}
use borrow.Author.Tests.{le-leb, lt-leb}
use lib.Dec.{eqb}
use lib.IntN.{ℤ, pos}
use lib.ListN.{length}
use Rattle.std.specs.Prelude.{Ok, Err}
use Rattle.slices.specs.Over.{over}
use Rattle.questions.specs.Questions.{unless_refused}
use Rattle.equations.specs.Reasons.{reason_number, places_in}
use Rattle.ledger.specs.Ledger.{Ledger}
use Rattle.ledger.specs.Calls.{marks, queries}
use Rattle.ledger.specs.Questions.{refusal_of}
use Rattle.sheet.specs.declared.reasoning.Reasoned.{Reasoned}
use Rattle.sheet.specs.Calls.{reasoned_of, shown_after}
use Rattle.milebadger.specs.Calls.{minus, place_room, reasoned_result, without_places, reason_said, places_after, reason_after}

module _ (l : Ledger) (ws at out : List ℕ) where
  -- said, and then held by `at` and by `out`
  abbrev Answered : ℤ → List ℕ → List ℕ → Type 0
  Answered r places words =
      (r ≡ reasoned_result (reason_said l ws at out)) × ((places ≡ places_after (reason_said l ws at out) at) × (words ≡ reason_after l ws at out))

  refused_kept : (k r : ℕ) → at ≡ places_after (unless_refused Err k (Err r)) at
  unfolding places_after
  refused_kept k r = by (eqb k 0)
    where
      by : (b : Bool) → at ≡ places_after (cond b (Err r) (Err k)) at
      by true = refl
      by false = refl

  pub reason_places : length at < place_room → {r : ℤ} → r ≡ reasoned_result (without_places l ws) → Answered r at out
  unfolding reason_said reason_after
  reason_places short is = rw (lt-leb place_room (length at) short) (is, (refused_kept (refusal_of l (queries (marks ws))) 8, refl))

  module _ (room : place_room ≤ length at) where
    pub reason_told : {told : Reasoned} → reasoned_of l ws out ≡ Ok told
        → Answered (pos (reason_number told.reason)) (over (places_in told.reason ++ (told.words ∷ [])) at) (shown_after l ws out)
    unfolding reasoned_result reason_said places_after reason_after
    reason_told is = rw (le-leb place_room (length at) room, is) (refl, (refl, refl))

    pub reason-turned : {k : ℕ} → reasoned_of l ws out ≡ Err k → Answered (minus k) at (shown_after l ws out)
    unfolding reasoned_result reason_said places_after reason_after
    reason-turned is = rw (le-leb place_room (length at) room, is) (refl, (refl, refl))
