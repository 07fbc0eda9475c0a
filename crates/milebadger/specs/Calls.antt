-- What each call of the C face has to say, and how it reaches a C caller: as a signed result, and as numbers in the memory that the caller
-- lent. Definitions only.
use Rattle.std.specs.Prelude.{◌≡◌, ℕ, ◌+◌, ◌/◌, ◌%◌, cond, List, [], ◌∷◌, ◌++◌, eqb, leb, ℤ, pos, neg_ℤ, length, Option, Some, None, Result, Ok, Err}
use Rattle.residue.specs.Chain.{chain_of}
use Rattle.questions.specs.Questions.{Question, asks, first_no, unless_refused, allowed_modulus}
use Rattle.questions.specs.Reply.{Reply, gives, refuses, result_of, memory_after}
use Rattle.slices.specs.Over.{over}
use Rattle.residue.specs.declared.congruence.Solutions.{Solutions}
use Rattle.congruence.specs.Congruence.{congruence_of}
use Rattle.equations.specs.Lines.{equations_of}
use Rattle.equations.specs.Multipliers.{all_below}
use Rattle.equations.specs.declared.Mark.{Mark}
use Rattle.equations.specs.Marks.{mark_number}
use Rattle.equations.specs.Reasons.{reason_number, places_in}
use Rattle.system.specs.Block.{block_of}
use Rattle.ledger.specs.Ledger.{Ledger, most_equations}
use Rattle.ledger.specs.Calls.{marks, queries}
use Rattle.ledger.specs.Questions.{allowed_unknowns, refusal_of}
use Rattle.sheet.specs.declared.reasoning.Reasoned.{Reasoned}
use Rattle.sheet.specs.Calls.{reasoned_of, shown_after}
use Rattle.tape.specs.Output.{most_bytes, lines}

-- a refusal as a result: minus its number
abbrev pub minus : ℕ → ℤ
minus k = neg_ℤ (pos k)

-- 10,000 times the major, 100 times the minor and the patch number: 4.0.0
abbrev pub version : ℕ
version = 40000

-- What a call that counts gives back, as a result: "the equations then held", how many memory words the block has, how many claims a class
-- has, or "the number of equations" that are made for a claim; or minus the number of the refusal.
unfoldable pub counted_result : Result ℕ ℕ → ℤ
counted_result (Ok k) = pos k
counted_result (Err k) = minus k

-- 1 for a pass, 2 for a long claim and 0 for a fail
unfoldable pub marked_result : Result Mark ℕ → ℤ
marked_result (Ok mark) = pos (mark_number mark)
marked_result (Err k) = minus k

-- A reason's number, which is 0 for a claim that passes and 6 for a long one.
unfoldable pub reasoned_result : Result Reasoned ℕ → ℤ
reasoned_result (Ok reasoned) = pos (reason_number reasoned.reason)
reasoned_result (Err k) = minus k

-- A reason has a second lent memory, `at`, for the step, the equation and the number of memory words. Where it has fewer than 3 numbers, the claim is
-- turned away with 8, behind the questions of marking, and nothing is written.
abbrev pub place_room : ℕ
place_room = 3

abbrev pub without_places : Ledger → List ℕ → Result Reasoned ℕ
without_places l ws = unless_refused Err (refusal_of l (queries (marks ws))) (Err 8)

-- what is said of the claim in ws, and what `at` and `out` then hold; at a refusal both keep their content
unfoldable pub reason_said : Ledger → List ℕ → List ℕ → List ℕ → Result Reasoned ℕ
reason_said l ws at out = cond (leb place_room (length at)) (reasoned_of l ws out) (without_places l ws)

unfoldable pub places_after : Result Reasoned ℕ → List ℕ → List ℕ
places_after (Ok reasoned) at = over (places_in reasoned.reason ++ (reasoned.words ∷ [])) at
places_after (Err k) at = at

unfoldable pub reason_after : Ledger → List ℕ → List ℕ → List ℕ → List ℕ
reason_after l ws at out = cond (leb place_room (length at)) (shown_after l ws out) out

-- a call replied: it returned r, and the lent memory went from `old` to `new`
pub record Replied (reply : Reply ℤ) (old new : List ℕ) (r : ℤ) : Type 0 where
  pub result : r ≡ result_of minus reply old
  pub memory : new ≡ memory_after reply old

-- 1, and the divisor with the number of divisions
unfoldable pub gcd_reply : ℕ → ℕ → Reply ℤ
gcd_reply a b = gives (pos 1) ((chain_of a b).divisor ∷ (chain_of a b).divisions ∷ [])

-- 1, and the least solution with the spacing; 0 for none; or the refusal
unfoldable pub solved_reply : Result (Option Solutions) ℕ → Reply ℤ
solved_reply (Err k) = refuses k
solved_reply (Ok None) = gives (pos 0) []
solved_reply (Ok (Some solutions)) = gives (pos 1) (solutions.least ∷ solutions.spacing ∷ [])

abbrev pub congruence_reply : ℤ → ℤ → ℕ → Reply ℤ
congruence_reply a b m = solved_reply (congruence_of a b m)

-- Our own call's questions, in this order: m in 2..4,294,967,295? 2. n 1..16? 3. `lines` a multiple of n+1 long? 1. At most
-- 16 lines? 5. All numbers below m? 6.
abbrev pub solve_questions : ℕ → ℕ → List ℕ → List Question
solve_questions m n xs =
    asks 2 (allowed_modulus m)
    ∷ asks 3 (allowed_unknowns n)
    ∷ asks 1 (eqb (length xs % (n + 1)) 0)
    ∷ asks 5 (leb (length xs / (n + 1)) most_equations)
    ∷ asks 6 (all_below m xs)
    ∷ []

-- the numbers of a block, and how many it has
abbrev pub block_reply : List ℕ → Reply ℤ
block_reply block = gives (pos (length block)) block

-- the answer block of the equations in xs, or the refusal
unfoldable pub solve_reply : ℕ → ℕ → List ℕ → Reply ℤ
solve_reply m n xs =
    unless_refused refuses (first_no (solve_questions m n xs)) (block_reply (block_of m n (equations_of n xs)))

-- what the safe's call gives back, as a result: the memory words written, 0 for none, or minus the number of the refusal
unfoldable pub turned_result : Result (Option ℕ) ℕ → ℤ
turned_result (Ok (Some k)) = pos k
turned_result (Ok None) = pos 0
turned_result (Err k) = minus k

-- "C call: 10 as for the tape." Its other question, 8, every reply asks.
abbrev pub tape_questions : List ℕ → List Question
tape_questions bytes = asks 10 (leb (length bytes) most_bytes) ∷ []

-- "hands over tape bytes and a byte buffer and gets these lines: the result is the bytes written"
unfoldable pub tape_reply : List ℕ → Reply ℤ
tape_reply bytes = unless_refused refuses (first_no (tape_questions bytes)) (block_reply (lines bytes))
