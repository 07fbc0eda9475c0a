-- The calls on a tape. The two laws say all of `calls_on`.
use Rattle.std.specs.Prelude.{◌≡◌, List, [], ◌∷◌, ℕ, ◌<◌, length}
use Rattle.slices.specs.Pieces.{pieces, pieces_none, pieces_step}
use Rattle.ledger.specs.Ledger.{Ledger}
use Rattle.ledger.specs.Calls.{Call}
use Rattle.ledger.specs.History.{enter}
use Rattle.tape.specs.FirstCall.{first_call, behind_first}
use Rattle.tape.specs.Counted.Calls.{behind_fewer}

-- the ledger behind the first call
abbrev pub ledger_behind : Ledger → List ℕ → Ledger
ledger_behind l ws = enter l (first_call l ws)

-- the calls on a tape with these words, where the ledger before the first is l
unfoldable pub calls_on : Ledger → List ℕ → List Call
calls_on l ws = pieces first_call ledger_behind behind_first l ws

-- no words, no calls
pub calls-none : (l : Ledger) → calls_on l [] ≡ []
unfolding calls_on
calls-none l = pieces_none first_call ledger_behind behind_first l

-- "After each call the next is read from the words that remain."
pub calls-first : (l : Ledger) (ws : List ℕ) → 0 < length ws
    → calls_on l ws ≡ first_call l ws ∷ calls_on (enter l (first_call l ws)) (behind_first l ws)
unfolding calls_on
calls-first l ws some = pieces_step first_call ledger_behind behind_first behind_fewer l ws some
