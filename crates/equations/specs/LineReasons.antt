-- Why a claim about lines fails, or is long: what Reasons says of equations mod one m, "now read from these lines, each mod its q". The reasons and
-- their numbers are those of Reasons. Definitions only.
use Rattle.std.specs.Prelude.{◌≡◌, List, [], ◌∷◌, Bool, cond, not, ℕ, T}
use Rattle.equations.specs.declared.Reason.{Reason}
use Rattle.equations.specs.declared.Reason.TheVariants.{Passes, Solvable, Unsolvable, Breaks, Changes, Misses, Superfluous}
use Rattle.equations.specs.Lists.{every, someone, fails_at}
use Rattle.equations.specs.Vectors.{Vector, vectors}
use Rattle.equations.specs.Claim.{Claim, no_solution, from, describes}
use Rattle.equations.specs.Marks.{superfluous_at, Starting, HasSuperfluous, FirstSuperfluous}
use Rattle.equations.specs.Reasons.{right_reason, FirstFails}
use Rattle.equations.specs.Line.{Line, holds_one, holds, level, line_is_right, line_refutes}

-- some vector of residues is where they all hold
unfoldable pub line_solvable : ℕ → ℕ → List Line → Bool
line_solvable m n ls = someone (holds ls) (vectors m n)

-- the number of the first line that does not hold at v; 0 where they all do
abbrev pub broken_line : List Line → List ℕ → ℕ
broken_line ls v = fails_at (λ l. holds_one l v) ls

-- A step changes no left side if the lines hold there with right sides put to 0: each sum of coefficient times entry is 0 mod its q.
abbrev pub line_keeps : List Line → List ℕ → Bool
line_keeps ls s = holds (level ls) s

-- for the first step that changes a left side "the first such equation"; 0 where none does
abbrev pub line_changed : List Line → List (List ℕ) → ℕ
line_changed ls [] = 0
line_changed ls (s ∷ ss) = cond (line_keeps ls s) (line_changed ls ss) (broken_line (level ls) s)

-- "The tool gives the first of these that holds: none was claimed but here is a solution; there is none, here are multipliers; the start
-- breaks an equation, the first such; a step changes an equation's left side, giving the first step, and for it the first such
-- equation; a solution that the claim does not describe. A passed claim gives no reason", and "for a long claim, the number of its first
-- superfluous step".
unfoldable pub line_reason : ℕ → ℕ → List Line → Claim → Reason
line_reason m n ls no_solution = cond (line_solvable m n ls) Solvable Passes
line_reason m n ls (from start steps) =
    cond (not (line_solvable m n ls)) Unsolvable
    (cond (not (holds ls start)) (Breaks (broken_line ls start))
    (cond (not (every (line_keeps ls) steps)) (Changes (fails_at (line_keeps ls) steps) (line_changed ls steps))
    (cond (line_is_right m n ls (from start steps)) (right_reason (superfluous_at m n steps)) Misses)))

-- ---- what a reason says

abbrev pub LineSolution : ℕ → ℕ → List Line → List ℕ → Type 0
LineSolution m n ls v = Vector m n v × T (holds ls v)

-- "true as stated": what a reason says of a claim, with the numbers that are shown beside it. Each case begins with what holds since
-- no earlier reason does.
abbrev pub LineSays : ℕ → ℕ → List Line → Claim → Reason → List ℕ → Type 0
LineSays m n ls claim Passes shown = T (line_is_right m n ls claim) × (HasSuperfluous m n claim → ⊥) × (shown ≡ [])
LineSays m n ls claim Solvable shown = (claim ≡ no_solution) × LineSolution m n ls shown
LineSays m n ls claim Unsolvable shown =
    Starting claim (λ start steps. (v : List ℕ) → LineSolution m n ls v → ⊥) × T (line_refutes m n ls shown)
LineSays m n ls claim (Breaks equation) shown =
    Starting claim (λ start steps. ((v : List ℕ) × LineSolution m n ls v) × FirstFails (λ l. holds_one l start) ls equation)
    × (shown ≡ [])
LineSays m n ls claim (Changes step equation) shown =
    Starting claim (λ start steps. T (holds ls start)
    × ((changing : FirstFails (line_keeps ls) steps step)
    × FirstFails (λ l. holds_one l changing.one) (level ls) equation))
    × (shown ≡ [])
LineSays m n ls claim Misses shown =
    Starting claim (λ start steps. T (holds ls start) × T (every (line_keeps ls) steps))
    × LineSolution m n ls shown × (T (describes m claim shown) → ⊥)
LineSays m n ls claim (Superfluous step) shown =
    T (line_is_right m n ls claim) × Starting claim (λ start steps. FirstSuperfluous m n steps step) × (shown ≡ [])
