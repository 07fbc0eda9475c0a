-- S-6's readings: clock exercises, lines mod 3 and mod 4 on a sheet mod 12. Answers, marks and reasons, what is added, and what is turned
-- away, found by computing the definitions that the contracts cite. Which multipliers a block shows "is left free": of the lines without a
-- solution it is said which serve.
use mathlib.Core.List.{List, [], ◌∷◌, ◌++◌, flatten}
use mathlib.Core.Option.{none, some}
use mathlib.Core.Bool.{Bool, true, false}
use mathlib.Core.Path.{◌≡◌, refl}
use Prim.Native.Nat.{ℕ}
use lib.ListN.{replicate}
use Rattle.words.specs.Fronts.{first_length, front_length}
use Rattle.questions.specs.Reply.{memory_after}
use Rattle.residue.specs.Residue.{residue_of}
use Rattle.residue.specs.Negative.{negative}
use Rattle.equations.specs.declared.Mark.TheVariants.{Pass, Fail}
use Rattle.equations.specs.declared.Reason.TheVariants.{Passes, Breaks, Changes}
use Rattle.equations.specs.Lines.{equations_of}
use Rattle.equations.specs.Multipliers.{refutes}
use Rattle.equations.specs.Claim.{describes}
use Rattle.equations.specs.Marks.{superfluous, superfluous_at}
use Rattle.equations.specs.Line.{Line, line_start, line_steps, line_is_right, line_mark, line_refutes, lines_mod}
use Rattle.equations.specs.LineReasons.{line_solvable, line_reason}
use Rattle.system.specs.Claims.{claim_of, vectors_of}
use Rattle.system.specs.Lines.{line_block}
use Rattle.words.specs.Words.{word, words_in, coefficient_kind, right_kind, minus_right_kind, own_modulus_kind, carries, words_for}
use Rattle.ledger.specs.Ledger.{Ledger, unopened, opened}
use Rattle.ledger.specs.Block.{answer_words, answer_room}
use Rattle.ledger.specs.Marking.{claim_mark, claim_reason}
use Rattle.ledger.specs.Calls.{adds, Call, enters}
use Rattle.ledger.specs.Questions.{refusal_of}
use Rattle.ledger.specs.History.{enter, ledger_from, ledger}
use Rattle.sheet.specs.Record.{fresh, ledger_of}
use Rattle.sheet.specs.Calls.{sheet_after, buffer_after}
use Rattle.sheet.specs.History.{after, sheet_from}
use Rattle.tape.specs.FirstCall.{first_call, behind_first}
use Rattle.examples.proofs.Starred.{equation, opening, block, buffer}

-- x = b mod q
abbrev pub is : ℕ → ℕ → Line
is q b = record { modulus = q; equation = equation (1 ∷ []) b }

-- the words of it, as an add gets them
abbrev pub own : ℕ → ℕ
own q = word own_modulus_kind q

abbrev pub is_words : ℕ → ℕ → List ℕ
is_words q b = own q ∷ word coefficient_kind 1 ∷ word right_kind b ∷ []

-- ---- answers

-- x = 2 mod 3: from 2, step 3
pub mod_three : (line_start 12 1 (is 3 2 ∷ []) ≡ some (2 ∷ [])) × (line_steps 12 1 (is 3 2 ∷ []) ≡ (3 ∷ []) ∷ [])
unfolding line_start line_steps
mod_three = (refl, refl)

-- and x = 3 mod 4: from 11, and no other vector
pub mod_three_and_four : (line_start 12 1 (is 3 2 ∷ is 4 3 ∷ []) ≡ some (11 ∷ [])) × (line_steps 12 1 (is 3 2 ∷ is 4 3 ∷ []) ≡ [])
unfolding line_start line_steps
mod_three_and_four = (refl, refl)

-- x = 1 and x = 2 mod 3: none; 1 11 serve: with both sides times 4 they are 4x = 4 and 4x = 8. So do 1 2, since
-- a multiplier counts mod 3 here; 1 1 do not.
pub one_and_two : line_start 12 1 (is 3 1 ∷ is 3 2 ∷ []) ≡ none
unfolding line_start
one_and_two = refl

abbrev serve : List ℕ → Bool
serve ks = line_refutes 12 1 (is 3 1 ∷ is 3 2 ∷ []) ks

pub one_eleven_serve : (serve (1 ∷ 11 ∷ []) ≡ true) × (serve (1 ∷ 2 ∷ []) ≡ true) × (serve (1 ∷ 1 ∷ []) ≡ false)
unfolding line_refutes refutes
one_eleven_serve = (refl, refl, refl)

-- ---- through the calls

abbrev pub clock_calls : List Call
clock_calls = opening 12 1 ∷ enters (adds (is_words 3 2)) ∷ enters (adds (is_words 4 3)) ∷ []

-- the ledger has the lines, with their moduli
pub clock_held : ledger_of (after clock_calls) ≡ opened 12 1 (is 3 2 ∷ is 4 3 ∷ [])
unfolding sheet_from fresh sheet_after ledger_of refusal_of words_in residue_of equations_of carries words_for
clock_held = refl

pub clock_answered : (x y z : ℕ) → buffer clock_calls (x ∷ y ∷ z ∷ []) ≡ block 1 (11 ∷ []) ++ (z ∷ [])
unfolding sheet_from fresh sheet_after ledger_of buffer_after memory_after refusal_of words_in residue_of equations_of answer_words line_block
    line_start line_steps flatten carries words_for answer_room
clock_answered x y z = refl

-- minus 1 mod 3 is 2, not 11, and 14 mod 4 is 2
pub residues_mod_own :
    ledger (opening 12 1 ∷ enters (adds (own 3 ∷ word coefficient_kind 13 ∷ word minus_right_kind 1 ∷ [])) ∷ enters (adds (is_words 4 14)) ∷ [])
    ≡ opened 12 1 (is 3 2 ∷ is 4 2 ∷ [])
unfolding ledger_from enter refusal_of words_in residue_of negative carries words_for
residues_mod_own = refl

-- mod 12 it is the plain line
pub whole-modulus :
    ledger (opening 12 1 ∷ enters (adds (is_words 12 5)) ∷ [])
    ≡ ledger (opening 12 1 ∷ enters (adds (word coefficient_kind 1 ∷ word right_kind 5 ∷ [])) ∷ [])
unfolding ledger_from enter refusal_of words_in residue_of carries words_for
whole-modulus = refl

-- ---- marks and reasons, of x = 2 mod 3

abbrev three : Ledger
three = opened 12 1 (is 3 2 ∷ [])

pub marked :
    (claim_mark three (block 2 (2 ∷ 3 ∷ [])) ≡ Pass) × (claim_mark three (block 2 (11 ∷ 9 ∷ [])) ≡ Pass)
    × (claim_mark three (block 2 (2 ∷ 6 ∷ [])) ≡ Fail)
unfolding words_in claim_of vectors_of line_mark line_is_right superfluous_at superfluous describes carries words_for
marked = (refl, refl, refl)

-- 5 leaves 2 mod 3, though not mod 12; the step 3 changes the left side mod 12 alone, the step 2 mod 3 too
pub reasons :
    (claim_reason three (block 2 (5 ∷ 3 ∷ [])) ≡ Passes) × (claim_reason three (block 1 (3 ∷ [])) ≡ Breaks 1)
    × (claim_reason three (block 3 (2 ∷ 3 ∷ 2 ∷ [])) ≡ Changes 2 1)
unfolding words_in claim_of vectors_of line_reason line_solvable line_is_right superfluous_at superfluous describes carries words_for
reasons = (refl, refl, refl)

-- ---- what is turned away

abbrev asked : Ledger → List ℕ → ℕ
asked l ws = refusal_of l (enters (adds ws))

abbrev full : Ledger
full = opened 12 1 (lines_mod 12 (replicate 16 (equation (0 ∷ []) 0)))

-- q of 0, 1, 5, 24; on a full sheet a bad q is 15 and a good one 5
pub fifteen :
    (asked three (is_words 0 0) ≡ 15) × (asked three (is_words 1 0) ≡ 15) × (asked three (is_words 5 0) ≡ 15) × (asked three (is_words 24 0) ≡ 15)
    × (asked full (is_words 5 0) ≡ 15) × (asked full (is_words 3 0) ≡ 5)
unfolding refusal_of words_in carries words_for
fifteen = (refl, refl, refl, refl, refl, refl)

-- a misshapen add with a bad q is 1; so is kind 12 twice or not in front; a modulus alone is no equation
pub misshapen :
    (asked three (own 5 ∷ word coefficient_kind 1 ∷ []) ≡ 1) × (asked three (own 3 ∷ is_words 3 0) ≡ 1)
    × (asked three (word coefficient_kind 1 ∷ own 3 ∷ word right_kind 0 ∷ []) ≡ 1)
    × (asked three (word coefficient_kind 1 ∷ word right_kind 0 ∷ own 3 ∷ []) ≡ 1) × (asked three (own 3 ∷ []) ≡ 1)
    × (asked unopened (is_words 5 0) ≡ 4)
unfolding refusal_of words_in carries words_for
misshapen = (refl, refl, refl, refl, refl, refl)

-- ---- on tape

-- it "begins its add, which then takes n+2 words, or one when unopened"
pub twelve_first : (ws : List ℕ)
    → (first_call three (is_words 4 3 ++ ws) ≡ enters (adds (is_words 4 3))) × (behind_first three (is_words 4 3 ++ ws) ≡ ws)
unfolding first_call behind_first words_in carries words_for first_length front_length
twelve_first [] = (refl, refl)
twelve_first (w ∷ ws) = (refl, refl)

pub twelve_first_unopened : (ws : List ℕ)
    → (first_call unopened (is_words 4 3 ++ ws) ≡ enters (adds (own 4 ∷ [])))
    × (behind_first unopened (is_words 4 3 ++ ws) ≡ (word coefficient_kind 1 ∷ word right_kind 3 ∷ []) ++ ws)
unfolding first_call behind_first words_in carries words_for first_length front_length
twelve_first_unopened ws = (refl, refl)
