-- S-5's readings, mod 4: each reason on x + 2·y = 0, which step and which equation are named where there are more, what is not looked at where
-- there is no solution, and what is written and turned away. All is found by computing the definitions that the contracts cite. Which
-- multipliers and which missed solution are shown "is free": of these two reasons nothing is said but the reason.
use mathlib.Core.List.{List, [], ◌∷◌}
use mathlib.Core.Path.{◌≡◌, refl}
use Prim.Native.Nat.{ℕ}
use lib.ListN.{replicate}
use Rattle.std.specs.Prelude.{Err}
use Rattle.questions.specs.Reply.{result_of, memory_after}
use Rattle.equations.specs.declared.Reason.TheVariants.{Passes, Solvable, Unsolvable, Breaks, Changes, Misses}
use Rattle.equations.specs.Answer.{start_of}
use Rattle.equations.specs.Claim.{describes}
use Rattle.equations.specs.Marks.{superfluous, superfluous_at}
use Rattle.equations.specs.Line.{line_is_right, lines_mod}
use Rattle.equations.specs.LineReasons.{line_solvable, line_reason}
use Rattle.system.specs.Claims.{claim_of, vectors_of}
use Rattle.system.specs.Lines.{line_shown}
use Rattle.words.specs.Words.{word, words_in, entry_kind, carries, words_for}
use Rattle.ledger.specs.Ledger.{Ledger, unopened, opened}
use Rattle.ledger.specs.Marking.{claim_reason, reason_words, reason_room}
use Rattle.ledger.specs.Calls.{reasons, queries}
use Rattle.ledger.specs.Questions.{refusal_of}
use Rattle.sheet.specs.Calls.{reasoned_of, shown_after}
use Rattle.examples.proofs.Starred.{equation, block}
use Rattle.sheet.specs.Calls.{said}

abbrev sheet : Ledger
sheet = opened 4 2 (lines_mod 4 (equation (1 ∷ 2 ∷ []) 0 ∷ []))

-- ---- which reason

pub one_of_each :
    (claim_reason sheet (block 0 []) ≡ Solvable)
    × (claim_reason sheet (block 1 (1 ∷ 0 ∷ [])) ≡ Breaks 1)
    × (claim_reason sheet (block 2 (0 ∷ 0 ∷ 1 ∷ 0 ∷ [])) ≡ Changes 1 1)
    × (claim_reason sheet (block 2 (0 ∷ 0 ∷ 0 ∷ 2 ∷ [])) ≡ Misses)
    × (claim_reason sheet (block 2 (0 ∷ 0 ∷ 2 ∷ 3 ∷ [])) ≡ Passes)
unfolding words_in claim_of vectors_of line_reason line_solvable line_is_right superfluous_at superfluous describes carries words_for
one_of_each = (refl, refl, refl, refl, refl)

-- "the first such": of three equations the second and the third are broken
pub second_equation_broken :
    claim_reason (opened 4 2 (lines_mod 4 (equation (0 ∷ 2 ∷ []) 0 ∷ equation (1 ∷ 0 ∷ []) 1 ∷ equation (2 ∷ 0 ∷ []) 2 ∷ []))) (block 1 (0 ∷ 0 ∷ []))
    ≡ Breaks 2
unfolding words_in claim_of vectors_of line_reason line_solvable line_is_right describes carries words_for
second_equation_broken = refl

-- "giving the first step, and for it the first such equation": the second step, and of it the first equation or the second
pub second_step :
    (claim_reason (opened 4 2 (lines_mod 4 (equation (1 ∷ 2 ∷ []) 0 ∷ equation (2 ∷ 0 ∷ []) 0 ∷ []))) (block 3 (0 ∷ 0 ∷ 2 ∷ 1 ∷ 1 ∷ 0 ∷ [])) ≡ Changes 2 1)
    × (claim_reason (opened 4 2 (lines_mod 4 (equation (2 ∷ 0 ∷ []) 0 ∷ equation (1 ∷ 2 ∷ []) 0 ∷ []))) (block 3 (0 ∷ 0 ∷ 2 ∷ 1 ∷ 2 ∷ 0 ∷ [])) ≡ Changes 2 2)
unfolding words_in claim_of vectors_of line_reason line_solvable line_is_right describes carries words_for
second_step = (refl, refl)

-- steps outside, equations inside: the first step changes the second equation, though the second step changes the first
pub steps_before_equations :
    claim_reason (opened 4 2 (lines_mod 4 (equation (2 ∷ 0 ∷ []) 0 ∷ equation (1 ∷ 2 ∷ []) 0 ∷ []))) (block 3 (0 ∷ 0 ∷ 2 ∷ 0 ∷ 1 ∷ 0 ∷ [])) ≡ Changes 1 2
unfolding words_in claim_of vectors_of line_reason line_solvable line_is_right describes carries words_for
steps_before_equations = refl

-- 2·x = 1 has no solution: whatever else is claimed gets this reason, before a start is looked at, and who claims none is right
abbrev none : Ledger
none = opened 4 2 (lines_mod 4 (equation (2 ∷ 0 ∷ []) 1 ∷ []))

pub no_start_looked_at :
    (claim_reason none (block 2 (3 ∷ 3 ∷ 1 ∷ 0 ∷ [])) ≡ Unsolvable) × (claim_reason none (block 1 (0 ∷ 0 ∷ [])) ≡ Unsolvable)
    × (claim_reason none (block 0 []) ≡ Passes)
unfolding words_in claim_of vectors_of line_reason line_solvable line_is_right describes carries words_for
no_start_looked_at = (refl, refl, refl)

-- ---- what is written

-- a solution in words of kind 6 without a head, and what is past it kept
pub solution-written :
    (reasoned_of sheet (block 0 []) (9 ∷ 9 ∷ 9 ∷ []) ≡ said Solvable 2)
    × (shown_after sheet (block 0 []) (9 ∷ 9 ∷ 9 ∷ []) ≡ word entry_kind 0 ∷ word entry_kind 0 ∷ 9 ∷ [])
unfolding reasoned_of shown_after result_of memory_after reason_words line_shown start_of words_in claim_of vectors_of line_reason line_solvable
    carries words_for reason_room
solution-written = (refl, refl)

-- "where the reason has none, or the claim passes, the buffer keeps its content": it may be empty
pub nothing_written :
    (reasoned_of sheet (block 1 (1 ∷ 0 ∷ [])) [] ≡ said (Breaks 1) 0)
    × (reasoned_of sheet (block 2 (0 ∷ 0 ∷ 1 ∷ 0 ∷ [])) [] ≡ said (Changes 1 1) 0)
    × (reasoned_of sheet (block 2 (0 ∷ 0 ∷ 2 ∷ 3 ∷ [])) [] ≡ said Passes 0)
    × (shown_after sheet (block 2 (0 ∷ 0 ∷ 2 ∷ 3 ∷ [])) (9 ∷ []) ≡ 9 ∷ [])
unfolding reasoned_of shown_after result_of memory_after reason_words line_shown words_in claim_of vectors_of line_reason line_solvable
    line_is_right superfluous_at superfluous describes carries words_for reason_room
nothing_written = (refl, refl, refl, refl)

-- ---- what is turned away

-- "The questions are those of marking, then 8 for a buffer too short for this reason's words."
abbrev asked : Ledger → List ℕ → ℕ → ℕ
asked l ws room = refusal_of l (queries (reasons ws (replicate room 0)))

pub turned_away_lem :
    (asked unopened (block 0 []) 2 ≡ 4) × (asked sheet (block 1 (1 ∷ [])) 2 ≡ 1) × (asked sheet (block 1 (1 ∷ 4 ∷ [])) 0 ≡ 6)
    × (asked sheet (block 0 []) 1 ≡ 8) × (asked sheet (block 0 []) 2 ≡ 0)
unfolding refusal_of reason_words line_shown start_of words_in claim_of vectors_of line_reason line_solvable carries words_for reason_room
turned_away_lem = (refl, refl, refl, refl, refl)

-- nothing is written then
pub kept_at_eight :
    (reasoned_of sheet (block 0 []) (9 ∷ []) ≡ Err 8) × (shown_after sheet (block 0 []) (9 ∷ []) ≡ 9 ∷ [])
unfolding reasoned_of shown_after result_of memory_after reason_words line_shown start_of words_in claim_of vectors_of line_reason line_solvable
    carries words_for reason_room
kept_at_eight = (refl, refl)
