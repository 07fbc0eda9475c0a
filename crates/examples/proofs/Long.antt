-- S-8's readings: marks and reasons of claims with superfluous steps, found by computing the definitions that the contracts cite.
use mathlib.Core.List.{List, [], ◌∷◌, ◌++◌}
use mathlib.Core.Path.{◌≡◌, refl}
use Prim.Native.Nat.{ℕ}
use Rattle.words.specs.Fronts.{first_length, front_length}
use Rattle.slices.specs.Pieces.{pieces}
use Rattle.questions.specs.Reply.{result_of, memory_after}
use Rattle.equations.specs.declared.Mark.TheVariants.{Pass, Long, Fail}
use Rattle.equations.specs.declared.Reason.TheVariants.{Passes, Misses, Superfluous}
use Rattle.equations.specs.Claim.{describes}
use Rattle.equations.specs.Marks.{superfluous, superfluous_at}
use Rattle.equations.specs.Line.{line_is_right, line_mark, lines_mod}
use Rattle.equations.specs.LineReasons.{line_solvable, line_reason}
use Rattle.system.specs.Claims.{claim_of, vectors_of}
use Rattle.system.specs.Lines.{line_shown}
use Rattle.words.specs.Words.{words_in, carries, words_for}
use Rattle.ledger.specs.Ledger.{Ledger, opened}
use Rattle.ledger.specs.Marking.{claim_mark, claim_reason, reason_words, reason_room}
use Rattle.ledger.specs.Questions.{refusal_of}
use Rattle.ledger.specs.Classes.{claims_in}
use Rattle.sheet.specs.Calls.{marked_of, class_bytes, reasoned_of, shown_after}
use Rattle.tape.specs.Output.{mark_line}
use Rattle.tape.specs.Text.{line}
use Rattle.examples.proofs.Starred.{equation, block}
use Rattle.sheet.specs.Calls.{said}

-- ---- mod 4, x + 2·y = 0

abbrev sheet : Ledger
sheet = opened 4 2 (lines_mod 4 (equation (1 ∷ 2 ∷ []) 0 ∷ []))

-- "Our own answers may be long, as with m=4 and steps 2 1 and 0 2"
pub own_answer_long :
    (claim_mark sheet (block 3 (0 ∷ 0 ∷ 2 ∷ 1 ∷ 0 ∷ 2 ∷ [])) ≡ Long)
    × (claim_reason sheet (block 3 (0 ∷ 0 ∷ 2 ∷ 1 ∷ 0 ∷ 2 ∷ [])) ≡ Superfluous 2)
unfolding words_in claim_of vectors_of line_mark line_reason line_solvable line_is_right superfluous_at superfluous describes carries
    words_for
own_answer_long = (refl, refl)

-- "The example claim 0 0 with step 2 3 still passes."
pub one-step-passes :
    (claim_mark sheet (block 2 (0 ∷ 0 ∷ 2 ∷ 3 ∷ [])) ≡ Pass)
    × (claim_reason sheet (block 2 (0 ∷ 0 ∷ 2 ∷ 3 ∷ [])) ≡ Passes)
unfolding words_in claim_of vectors_of line_mark line_reason line_solvable line_is_right superfluous_at superfluous describes carries
    words_for
one-step-passes = (refl, refl)

-- a wrong set fails, whatever is superfluous: 0 2 twice, and 0 2 with 0 0
pub wrong_set_fails :
    (claim_mark sheet (block 3 (0 ∷ 0 ∷ 0 ∷ 2 ∷ 0 ∷ 2 ∷ [])) ≡ Fail)
    × (claim_reason sheet (block 3 (0 ∷ 0 ∷ 0 ∷ 2 ∷ 0 ∷ 0 ∷ [])) ≡ Misses)
unfolding words_in claim_of vectors_of line_mark line_reason line_solvable line_is_right superfluous_at superfluous describes carries
    words_for
wrong_set_fails = (refl, refl)

-- ---- mod 6, one unknown, and every number solves

abbrev free : Ledger
free = opened 6 1 []

abbrev two : ℕ → ℕ → List ℕ
two a b = block 3 (0 ∷ a ∷ b ∷ [])

-- neither 2 nor 3 is a multiple of the other, though 1 alone would do
pub both_needed : (claim_mark free (two 2 3) ≡ Pass) × (claim_mark free (block 2 (0 ∷ 1 ∷ [])) ≡ Pass)
unfolding words_in claim_of vectors_of line_mark line_is_right superfluous_at superfluous describes carries words_for
both_needed = (refl, refl)

-- "the others" are the later ones too: of 2 and 1 the first is superfluous, of 1 and 1 each is, and the first is named; and of a step of zeros
-- "always"
pub which_step :
    (claim_reason free (two 1 2) ≡ Superfluous 2)
    × (claim_reason free (two 2 1) ≡ Superfluous 1)
    × (claim_reason free (two 1 1) ≡ Superfluous 1)
    × (claim_reason free (two 0 1) ≡ Superfluous 1)
    × (claim_reason free (two 1 0) ≡ Superfluous 2)
    × (claim_reason free (block 4 (0 ∷ 2 ∷ 3 ∷ 1 ∷ [])) ≡ Superfluous 1)
unfolding words_in claim_of vectors_of line_reason line_solvable line_is_right superfluous_at superfluous describes carries words_for
which_step = (refl, refl, refl, refl, refl, refl)

-- 2 and 3 with 4, which is twice 2: 2 is twice 4 too
pub three_steps : claim_reason free (block 4 (0 ∷ 2 ∷ 3 ∷ 4 ∷ [])) ≡ Superfluous 1
unfolding words_in claim_of vectors_of line_reason line_solvable line_is_right superfluous_at superfluous describes carries words_for
three_steps = refl

-- x = 5: "start 5 with step 0"
pub zero_alone :
    (claim_mark (opened 6 1 (lines_mod 6 (equation (1 ∷ []) 5 ∷ []))) (block 2 (5 ∷ 0 ∷ [])) ≡ Long)
    × (claim_reason (opened 6 1 (lines_mod 6 (equation (1 ∷ []) 5 ∷ []))) (block 2 (5 ∷ 0 ∷ [])) ≡ Superfluous 1)
    × (claim_mark (opened 6 1 (lines_mod 6 (equation (1 ∷ []) 5 ∷ []))) (block 1 (5 ∷ [])) ≡ Pass)
unfolding words_in claim_of vectors_of line_mark line_reason line_solvable line_is_right superfluous_at superfluous describes carries
    words_for
zero_alone = (refl, refl, refl)

-- ---- with a modulus of its own: mod 6, x = 1 mod 2 has the step 2, and 4 with it is one too many

pub own_modulus_lem :
    (claim_mark (opened 6 1 (record { modulus = 2; equation = equation (1 ∷ []) 1 } ∷ [])) (two 2 4) ≡ Fail)
    × (claim_mark (opened 6 1 (record { modulus = 2; equation = equation (1 ∷ []) 1 } ∷ [])) (block 3 (1 ∷ 2 ∷ 4 ∷ [])) ≡ Long)
unfolding words_in claim_of vectors_of line_mark line_is_right superfluous_at superfluous describes carries words_for
own_modulus_lem = (refl, refl)

-- ---- what is shown of it

-- "2 in the class bytes", beside a pass and a fail; "`long` on the printer"
pub bytes : class_bytes free (two 1 2 ++ (two 2 3 ++ two 2 2)) ≡ 2 ∷ 1 ∷ 0 ∷ []
unfolding claims_in pieces marked_of refusal_of words_in claim_of vectors_of line_mark line_is_right superfluous_at superfluous describes
    carries words_for first_length front_length
bytes = refl

pub printed : mark_line (claim_mark free (two 1 1)) ≡ line "long" []
unfolding words_in claim_of vectors_of line_mark line_is_right superfluous_at superfluous describes carries words_for
printed = refl

-- "and writes no words": an empty buffer will do, and any other "keeps its content"
pub nothing_written :
    (reasoned_of free (two 1 2) [] ≡ said (Superfluous 2) 0)
    × (shown_after free (two 1 2) (9 ∷ []) ≡ 9 ∷ [])
unfolding reasoned_of shown_after result_of memory_after reason_words line_shown words_in claim_of vectors_of line_reason line_solvable
    line_is_right superfluous_at superfluous describes carries words_for reason_room
nothing_written = (refl, refl)
