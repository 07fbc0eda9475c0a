-- What decides a call.
--   numbered_always    no question has the number 0
--   accepted-yes       an accepted call's questions have the answer yes
--   refused_exactly    a number that one question has is given exactly where that question turns the call away
--   opens_any          opening asks nothing of the ledger
use mathlib.Core.Path.{◌≡◌, refl}
use mathlib.Core.Logic.{◌↔◌}
use mathlib.Core.List.{List}
use Prim.Native.Nat.{ℕ}
use lib.Dec.{T, ltb}
use Rattle.questions.proofs.Questions.{numbered, AllYes, all_yes}
use Rattle.questions.proofs.Given.{TurnsAway, alone, given-exactly}
use Rattle.ledger.specs.Ledger.{Ledger, unopened}
use Rattle.ledger.specs.Calls.{opens, adds, types, strikes}
use Rattle.ledger.specs.Calls.{answers, answers_from_tape, marks, reasons, classes, meaningless, misplaced}
use Rattle.ledger.specs.Calls.{Call, enters, queries}
use Rattle.ledger.specs.Questions.{questions, refusal_of}

numbered_always : (l : Ledger) (c : Call) → T (numbered (questions l c))
numbered_always l (enters (opens ws)) = tt
numbered_always l (enters (adds ws)) = tt
numbered_always l (enters (types text)) = tt
numbered_always l (enters (strikes place)) = tt
numbered_always l (queries (answers buffer)) = tt
numbered_always l (queries (answers_from_tape number)) = tt
numbered_always l (queries (marks ws)) = tt
numbered_always l (queries (reasons ws buffer)) = tt
numbered_always l (queries (classes ws bytes)) = tt
numbered_always l (queries (meaningless ws)) = tt
numbered_always l (queries (misplaced ws)) = tt

pub accepted-yes : (l : Ledger) (c : Call) → refusal_of l c ≡ 0 → AllYes (questions l c)
unfolding refusal_of
accepted-yes l c none = all_yes (questions l c) (numbered_always l c) none

pub refused_exactly : (l : Ledger) (c : Call) (k i : ℕ) → T (ltb 0 k) → T (alone k i (questions l c))
    → (refusal_of l c ≡ k) ↔ TurnsAway (questions l c) i
unfolding refusal_of
refused_exactly l c k i some own = given-exactly k some i (questions l c) own

pub opens_any : (l : Ledger) (ws : List ℕ) → refusal_of l (enters (opens ws)) ≡ refusal_of unopened (enters (opens ws))
unfolding refusal_of
opens_any l ws = refl
