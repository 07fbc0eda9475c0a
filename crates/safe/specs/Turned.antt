-- What the safe's call gives back: how many memory words of turns it wrote, or that no turns open the safe; or the number of the refusal.
-- Definitions only.
use Rattle.std.specs.Prelude.{ℕ, Option, Some, None, Result, Ok}

abbrev pub Turned : Type 0
Turned = Result (Option ℕ) ℕ

abbrev pub gives_turns : ℕ → Turned
gives_turns k = Ok (Some k)

abbrev pub gives_none : Turned
gives_none = Ok None
