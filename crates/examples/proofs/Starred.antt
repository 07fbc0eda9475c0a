-- The starred examples of document 01, in the paper's order: each a theorem about the definitions that the contracts
-- cite; those with claims or with a strike also through the calls on a sheet. What they say is found by computing these
-- definitions, but for three things. That a coefficient has no inverse is shown for every t. Which multipliers a block shows "is
-- left free": of those where x=0 is added it is shown that they serve. And the last two hold for every m, n and list.
use mathlib.Core.Bool.{true, false}
use mathlib.Core.List.{List, [], ◌∷◌, ◌++◌, flatten}
use mathlib.Core.Option.{none, some}
use mathlib.Core.Path.{◌≡◌, refl, sym, ap, ◌∙◌}
use Prim.Native.Nat.{ℕ, suc, ◌*◌}
use native.Mathlib.Omega.{arith}
use lib.Dec.{T}
use lib.IntN.{pos}
use lib.ListN.{length, drop}
use Rattle.std.specs.Prelude.{Result, Ok, None}
use Rattle.slices.proofs.Over.{over-whole}
use Rattle.questions.specs.Reply.{memory_after}
use Rattle.residue.specs.Congruent.{Congruent}
use Rattle.residue.specs.Residue.{residue_of}
use Rattle.residue.specs.Congruence.{least_of, solutions_of}
use Rattle.residue.specs.Euclid.{euclid}
use Rattle.residue.specs.Gcd.{gcd}
use Rattle.congruence.specs.Congruence.{congruence_of}
use Rattle.equations.specs.declared.Mark.{Mark}
use Rattle.equations.specs.declared.Mark.TheVariants.{Pass, Fail}
use Rattle.equations.specs.Vectors.{Below}
use Rattle.equations.specs.Equation.{Equation}
use Rattle.equations.specs.Answer.{start_of, step_at, steps_of}
use Rattle.equations.specs.Lines.{equations_of}
use Rattle.equations.specs.Multipliers.{refutes}
use Rattle.equations.specs.Claim.{from, describes, is_right}
use Rattle.equations.specs.Marks.{superfluous, superfluous_at, mark_of}
use Rattle.equations.specs.Line.{line_start, line_steps, line_is_right, line_mark, lines_mod}
use Rattle.equations.specs.Promises.{ZeroEquation, ContradictoryEquation}
use Rattle.equations.proofs.Truth.{true_of}
use Rattle.equations.proofs.Vectors.{all-below, below_mono}
use Rattle.equations.proofs.Multipliers.{Refutation, refutes_is}
use Rattle.equations.proofs.Promises.{zero-equation, contradictory_equation}
use Rattle.system.specs.Block.{block_of}
use Rattle.system.specs.Claims.{claim_of, vectors_of}
use Rattle.system.specs.Lines.{line_block}
use Rattle.system.proofs.Lines.{plain-shown}
use Rattle.system.proofs.Promises.{answered}
use Rattle.words.specs.Words.{numbers_of_a_kind, word, words_in, words_of, modulus_kind, unknowns_kind, coefficient_kind, right_kind, head_kind, entry_kind, multiplier_kind, carries, words_for}
use Rattle.words.proofs.Packed.{written_one}
use Rattle.ledger.specs.Ledger.{opened}
use Rattle.ledger.specs.Block.{answer_words, answer_room}
use Rattle.ledger.specs.Calls.{opens, adds, strikes, Call, enters}
use Rattle.ledger.specs.Questions.{refusal_of}
use Rattle.sheet.specs.Record.{fresh, ledger_of}
use Rattle.sheet.specs.Calls.{sheet_after, buffer_after, marked_of}
use Rattle.sheet.specs.History.{after, sheet_from}
use Rattle.congruence.specs.Congruence.{solved}

-- coefficients and a right side, as the paper writes an equation
abbrev pub equation : List ℕ → ℕ → Equation
equation as' b = record { coefficients = as'; right = b }

-- "from .. , steps .."
abbrev pub Answered : ℕ → ℕ → List Equation → List ℕ → List (List ℕ) → Type 0
Answered m n es start steps = (start_of m n es ≡ some start) × (steps_of m n es ≡ steps)

-- the words of an opening and of an equation, as the calls get them
abbrev pub opening : ℕ → ℕ → Call
opening m n = enters (opens (word modulus_kind m ∷ word unknowns_kind n ∷ []))

abbrev pub adding : List ℕ → ℕ → Call
adding as' b = enters (adds (words_of coefficient_kind as' ++ (word right_kind b ∷ [])))

-- head and entries of a claim or of an answer block
abbrev pub block : ℕ → List ℕ → List ℕ
block head xs = word head_kind head ∷ words_of entry_kind xs

-- what a buffer that held `old` holds after an answer, asked for after the calls
abbrev pub buffer : List Call → List ℕ → List ℕ
buffer calls old = buffer_after (ledger_of (after calls)) old

-- what marking says after the calls
abbrev pub marked : List Call → List ℕ → Result Mark ℕ
marked calls claim = marked_of (ledger_of (after calls)) claim

-- "m=12: 4t=8 gives 2, spacing 3."
pub four_t_is_eight : congruence_of (pos 4) (pos 8) 12 ≡ solved 2 3
unfolding congruence_of residue_of solutions_of least_of gcd euclid
four_t_is_eight = refl

-- "4t=6: none; 3 is a multiplier, 6 is not."
abbrev pub four_is_six : List Equation
four_is_six = equation (4 ∷ []) 6 ∷ []

pub four_t_is_six : congruence_of (pos 4) (pos 6) 12 ≡ (Ok None)
unfolding congruence_of residue_of solutions_of gcd euclid
four_t_is_six = refl

pub four_t_is_six_none : start_of 12 1 four_is_six ≡ none
unfolding start_of
four_t_is_six_none = refl

pub three_is_a_multiplier : refutes 12 1 four_is_six (3 ∷ []) ≡ true
unfolding refutes
three_is_a_multiplier = refl

pub six_is_no_multiplier : refutes 12 1 four_is_six (6 ∷ []) ≡ false
unfolding refutes
six_is_no_multiplier = refl

-- "m=12: 2x+3y=5: from 1 1, steps 3 2 and 0 4."
pub two_three_is_five : Answered 12 2 (equation (2 ∷ 3 ∷ []) 5 ∷ []) (1 ∷ 1 ∷ []) ((3 ∷ 2 ∷ []) ∷ (0 ∷ 4 ∷ []) ∷ [])
unfolding start_of steps_of step_at
two_three_is_five = (refl, refl)

-- "m=6: 2x+3y=1: from 2 1, steps 3 0 and 0 2, though no coefficient has an inverse."
pub two_three_is_one : Answered 6 2 (equation (2 ∷ 3 ∷ []) 1 ∷ []) (2 ∷ 1 ∷ []) ((3 ∷ 0 ∷ []) ∷ (0 ∷ 2 ∷ []) ∷ [])
unfolding start_of steps_of step_at
two_three_is_one = (refl, refl)

abbrev pub NoInverse : ℕ → ℕ → Type 0
NoInverse m a = (t : ℕ) → Congruent m (a * t) 1 → ⊥

pub two_three_no_inverse : NoInverse 6 2 × NoInverse 6 3
two_three_no_inverse = ((λ t h. omega arith), λ t h. omega arith)

-- "m=4: x+2y=0: from 0 0, steps 2 1 and 0 2."
abbrev pub one_two_is_zero : List Equation
one_two_is_zero = equation (1 ∷ 2 ∷ []) 0 ∷ []

pub one_two_is_zero_lem : Answered 4 2 one_two_is_zero (0 ∷ 0 ∷ []) ((2 ∷ 1 ∷ []) ∷ (0 ∷ 2 ∷ []) ∷ [])
unfolding start_of steps_of step_at
one_two_is_zero_lem = (refl, refl)

-- "Claim 0 0 with step 2 3: pass"
pub step_two_three_passes : mark_of 4 2 one_two_is_zero (from (0 ∷ 0 ∷ []) ((2 ∷ 3 ∷ []) ∷ [])) ≡ Pass
unfolding mark_of is_right superfluous_at superfluous describes
step_two_three_passes = refl

-- "with 0 2 alone: fail."
pub step_zero_two_fails : mark_of 4 2 one_two_is_zero (from (0 ∷ 0 ∷ []) ((0 ∷ 2 ∷ []) ∷ [])) ≡ Fail
unfolding mark_of is_right superfluous_at superfluous describes
step_zero_two_fails = refl

-- so too through the calls: the answer, and both claims
abbrev pub one_two_is_zero_calls : List Call
one_two_is_zero_calls = opening 4 2 ∷ adding (1 ∷ 2 ∷ []) 0 ∷ []

pub one_two_is_zero_answered : (x : ℕ)
    → buffer one_two_is_zero_calls (x ∷ x ∷ x ∷ x ∷ x ∷ x ∷ x ∷ x ∷ []) ≡ block 3 (0 ∷ 0 ∷ 2 ∷ 1 ∷ 0 ∷ 2 ∷ []) ++ (x ∷ [])
unfolding sheet_from fresh sheet_after ledger_of buffer_after memory_after refusal_of words_in residue_of equations_of answer_words line_block
    line_start line_steps flatten carries words_for answer_room
one_two_is_zero_answered x = refl

pub step_two_three_marked : marked one_two_is_zero_calls (block 2 (0 ∷ 0 ∷ 2 ∷ 3 ∷ [])) ≡ Ok Pass
unfolding sheet_from fresh sheet_after ledger_of marked_of refusal_of words_in residue_of equations_of claim_of vectors_of line_mark
    line_is_right superfluous_at superfluous describes carries words_for
step_two_three_marked = refl

pub step_zero_two_marked : marked one_two_is_zero_calls (block 2 (0 ∷ 0 ∷ 0 ∷ 2 ∷ [])) ≡ Ok Fail
unfolding sheet_from fresh sheet_after ledger_of marked_of refusal_of words_in residue_of equations_of claim_of vectors_of line_mark
    line_is_right superfluous_at superfluous describes carries words_for
step_zero_two_marked = refl

-- "m=6: 2x=4, 3x=3: from 5, no step."
abbrev pub two_and_three : List Equation
two_and_three = equation (2 ∷ []) 4 ∷ equation (3 ∷ []) 3 ∷ []

pub two_and_three_lem : Answered 6 1 two_and_three (5 ∷ []) []
unfolding start_of steps_of step_at
two_and_three_lem = (refl, refl)

-- "Add x=0: none; 0 1 3 serve."
abbrev pub with_zero : List Equation
with_zero = equation (2 ∷ []) 4 ∷ equation (3 ∷ []) 3 ∷ equation (1 ∷ []) 0 ∷ []

pub with_zero_none : start_of 6 1 with_zero ≡ none
unfolding start_of
with_zero_none = refl

pub zero_one_three_serve : refutes 6 1 with_zero (0 ∷ 1 ∷ 3 ∷ []) ≡ true
unfolding refutes
zero_one_three_serve = refl

-- the same three answers through the calls, in one list: x=0 is added and struck again
abbrev pub two_and_three_calls : List Call
two_and_three_calls = opening 6 1 ∷ adding (2 ∷ []) 4 ∷ adding (3 ∷ []) 3 ∷ []

abbrev pub with_zero_calls : List Call
with_zero_calls = two_and_three_calls ++ (adding (1 ∷ []) 0 ∷ [])

abbrev pub struck_calls : List Call
struck_calls = with_zero_calls ++ (enters (strikes 0) ∷ [])

pub two_and_three_answered : (x y z : ℕ) → buffer two_and_three_calls (x ∷ y ∷ z ∷ []) ≡ block 1 (5 ∷ []) ++ (z ∷ [])
unfolding sheet_from fresh sheet_after ledger_of buffer_after memory_after refusal_of words_in residue_of equations_of answer_words line_block
    line_start line_steps flatten carries words_for answer_room
two_and_three_answered x y z = refl

abbrev with_zero_lines : List ℕ
with_zero_lines = 2 ∷ 4 ∷ 3 ∷ 3 ∷ 1 ∷ 0 ∷ []

-- what stands behind the head 0 of the block
abbrev with_zero_multipliers : List ℕ
with_zero_multipliers = drop 1 (block_of 6 1 with_zero)

with_zero_block : block_of 6 1 with_zero ≡ 0 ∷ with_zero_multipliers
unfolding block_of start_of
with_zero_block = refl

with_zero_refutes : T (refutes 6 1 with_zero with_zero_multipliers)
unfolding equations_of
with_zero_refutes =
    (answered 6 1 0 with_zero_lines with_zero_multipliers
    (record {
      modulus = omega arith;
      has_unknowns = omega arith;
      unknowns = omega arith;
      whole = refl;
      equations = omega arith;
      residues = (all-below 6 with_zero_lines).0 tt;
    })
    (sym with_zero_block)
    ).multipliers refl

-- the lines of the sheet, all mod 6, have that block
with_zero_lines_lem : line_block 6 1 (lines_mod 6 with_zero) ≡ 0 ∷ with_zero_multipliers
with_zero_lines_lem = (plain-shown 6 1 with_zero (omega arith)).0 ∙ with_zero_block

with_zero_refuted : Refutation 6 1 with_zero with_zero_multipliers
with_zero_refuted = (refutes_is 6 1 with_zero with_zero_multipliers).0 with_zero_refutes

-- a block of four words fits a buffer of four
with_zero_fits : (x : ℕ) (ks : List ℕ) → length ks ≡ 3 → Below 6 ks → line_block 6 1 (lines_mod 6 with_zero) ≡ 0 ∷ ks
    → buffer with_zero_calls (x ∷ x ∷ x ∷ x ∷ []) ≡ word head_kind 0 ∷ words_of multiplier_kind ks
unfolding sheet_from fresh sheet_after ledger_of buffer_after memory_after refusal_of words_in residue_of equations_of answer_words carries
    words_for answer_room
with_zero_fits x [] l below e = absurd (omega arith)
with_zero_fits x (a ∷ []) l below e = absurd (omega arith)
with_zero_fits x (a ∷ b ∷ []) l below e = absurd (omega arith)
with_zero_fits x (a ∷ b ∷ c ∷ []) l below e =
    let ks = a ∷ b ∷ c ∷ [] in
    rw e
    (over-whole (word head_kind 0 ∷ words_of multiplier_kind ks) (x ∷ x ∷ x ∷ x ∷ [])
    (ap suc (written_one multiplier_kind ks (below_mono 6 numbers_of_a_kind ks (omega arith) below))))
with_zero_fits x (a ∷ b ∷ c ∷ d ∷ ks) l below e = absurd (omega arith)

-- "Add x=0: none": head 0, with multipliers that serve; so do 0 1 3
pub with_zero_answered : (x : ℕ) → (ks : List ℕ) × (refutes 6 1 with_zero ks ≡ true)
    × (buffer with_zero_calls (x ∷ x ∷ x ∷ x ∷ []) ≡ word head_kind 0 ∷ words_of multiplier_kind ks)
with_zero_answered x = (
  with_zero_multipliers,
  true_of _ with_zero_refutes,
  with_zero_fits x with_zero_multipliers with_zero_refuted.one_each with_zero_refuted.below with_zero_lines_lem,
)

pub with_zero_held : ledger_of (after with_zero_calls) ≡ opened 6 1 (lines_mod 6 with_zero)
unfolding sheet_from fresh sheet_after ledger_of refusal_of words_in residue_of equations_of carries words_for
with_zero_held = refl

-- "Strike: from 5 again."
pub struck_answered : (x y z : ℕ) → buffer struck_calls (x ∷ y ∷ z ∷ []) ≡ block 1 (5 ∷ []) ++ (z ∷ [])
unfolding sheet_from fresh sheet_after ledger_of buffer_after memory_after refusal_of words_in residue_of equations_of answer_words line_block
    line_start line_steps flatten carries words_for answer_room
struck_answered x y z = refl

-- "0x=0 changes nothing": for every m, n and list, wherever it stands there
pub zero_is_zero : ZeroEquation
zero_is_zero = zero-equation

-- "0x=1: none": so too
pub zero_is_one : ContradictoryEquation
zero_is_one = contradictory_equation
