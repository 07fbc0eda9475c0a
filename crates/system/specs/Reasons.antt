-- What is shown beside a reason, and two promises about reasons. Each promise is a type; proofs/Reasons.antt keeps it. Definitions only.
use Rattle.std.specs.Prelude.{◌≡◌, List, [], ℕ, ◌<◌, length}
use Rattle.std.proofs.Math.Option.{Option, none, some}
use Rattle.equations.specs.declared.Reason.{Reason}
use Rattle.equations.specs.declared.Reason.TheVariants.{Passes, Solvable, Unsolvable, Breaks, Changes, Misses, Superfluous}
use Rattle.equations.specs.Equation.{Equation, Shaped}
use Rattle.equations.specs.Answer.{start_of}
use Rattle.equations.specs.Claim.{Claim}
use Rattle.equations.specs.Marks.{mark_of}
use Rattle.equations.specs.Reasons.{reason_of, mark_beside, Says, Formed}
use Rattle.elimination.specs.Multipliers.{multipliers_of}
use Rattle.elimination.specs.Missed.{missed_of}
use Rattle.system.specs.declared.explaining.Finding.{Finding}

-- the entries of a starting vector, if there is one
abbrev pub start_shown : Option (List ℕ) → List ℕ
start_shown none = []
start_shown (some start) = start

-- "Which solution or multipliers are shown, is free": ours are the starting vector and the multipliers of the answer, and for the
-- last reason a vector of which `TrueReason` says all that must hold.
abbrev pub shown_for : ℕ → ℕ → List Equation → Claim → Reason → List ℕ
shown_for m n es claim Passes = []
shown_for m n es claim Solvable = start_shown (start_of m n es)
shown_for m n es claim Unsolvable = multipliers_of m n es
shown_for m n es claim (Breaks equation) = []
shown_for m n es claim (Changes step equation) = []
shown_for m n es claim Misses = missed_of m n es claim
-- "and writes no words"
shown_for m n es claim (Superfluous step) = []

unfoldable pub shown_with : ℕ → ℕ → List Equation → Claim → List ℕ
shown_with m n es claim = shown_for m n es claim (reason_of m n es claim)

-- What is returned of a reason whose numbers go to lent memory: the reason, and how many they are.
unfoldable pub finding_of : ℕ → ℕ → List Equation → Claim → Finding
finding_of m n es claim = record { reason = reason_of m n es claim; len = length (shown_with m n es claim) }

-- "each failed one gives a reason that is true as stated", and so does each long one
abbrev pub TrueReason : Type 0
TrueReason =
    (m n : ℕ) (es : List Equation) (claim : Claim) → 0 < m → Shaped n es → Formed m n claim
    → Says m n es claim (reason_of m n es claim) (shown_with m n es claim)

-- "A passed claim gives no reason, and each failed one gives a reason"; "for a long claim, the number of its first superfluous step": the
-- reason goes with the mark
abbrev pub SameVerdict : Type 0
SameVerdict =
    (m n : ℕ) (es : List Equation) (claim : Claim) → 0 < m → Shaped n es → Formed m n claim
    → mark_beside (reason_of m n es claim) ≡ mark_of m n es claim
