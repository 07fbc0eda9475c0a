-- S-4's readings, on x + 2·y = 0 mod 4: how claims are cut from the words of a class, the bytes of a class with each kind of outcome, what
-- turns a class away, and the bytes that are kept. All is found by computing the definitions that the contracts cite.
use mathlib.Core.List.{List, [], ◌∷◌, ◌++◌}
use mathlib.Core.Path.{◌≡◌, refl}
use Prim.Native.Nat.{ℕ}
use lib.ListN.{replicate}
use Rattle.std.specs.Prelude.{Ok, Err}
use Rattle.words.specs.Fronts.{first_length, front_length}
use Rattle.slices.specs.Pieces.{pieces}
use Rattle.questions.specs.Reply.{result_of, memory_after}
use Rattle.equations.specs.Claim.{describes}
use Rattle.equations.specs.Marks.{superfluous, superfluous_at}
use Rattle.equations.specs.Line.{line_is_right, line_mark, lines_mod}
use Rattle.system.specs.Claims.{claim_of, vectors_of}
use Rattle.words.specs.Words.{word, words_in, coefficient_kind, head_kind, entry_kind, carries, words_for}
use Rattle.ledger.specs.Ledger.{Ledger, unopened, opened}
use Rattle.ledger.specs.Classes.{claims_in}
use Rattle.ledger.specs.Calls.{classes, queries}
use Rattle.ledger.specs.Questions.{refusal_of}
use Rattle.sheet.specs.Calls.{marked_of, class_bytes, classed_of, marks_after}
use Rattle.examples.proofs.Starred.{equation, block}

abbrev sheet : Ledger
sheet = opened 4 2 (lines_mod 4 (equation (1 ∷ 2 ∷ []) 0 ∷ []))

abbrev head : ℕ → ℕ
head h = word head_kind h

-- the words of claims, one after another
abbrev words : List (List ℕ) → List ℕ
words [] = []
words (c ∷ cs) = c ++ words cs

-- ---- how claims are cut

-- "each as long as on the tape"
abbrev three_claims : List (List ℕ)
three_claims = block 2 (0 ∷ 0 ∷ 2 ∷ 3 ∷ []) ∷ block 0 [] ∷ block 1 (1 ∷ 1 ∷ []) ∷ []

pub cut_by_heads : claims_in 2 (words three_claims) ≡ three_claims
unfolding claims_in pieces words_in carries words_for first_length front_length
cut_by_heads = refl

-- "A head above 17 is a claim of one word"; "A word of another kind where a head should stand: one word"
pub cut_at_one_word : claims_in 2 (head 18 ∷ word entry_kind 1 ∷ word coefficient_kind 1 ∷ block 0 [])
    ≡ (head 18 ∷ []) ∷ (word entry_kind 1 ∷ []) ∷ (word coefficient_kind 1 ∷ []) ∷ block 0 [] ∷ []
unfolding claims_in pieces words_in carries words_for first_length front_length
cut_at_one_word = refl

-- "A last claim cut short: all that remains"; one that lacks an entry takes the next one's head
pub cut_short : claims_in 2 (block 1 (1 ∷ [])) ≡ block 1 (1 ∷ []) ∷ []
unfolding claims_in pieces words_in carries words_for first_length front_length
cut_short = refl

pub next_head_taken : claims_in 2 (block 1 (1 ∷ []) ++ block 1 (1 ∷ 1 ∷ []))
    ≡ (block 1 (1 ∷ []) ++ (head 1 ∷ [])) ∷ (word entry_kind 1 ∷ []) ∷ (word entry_kind 1 ∷ []) ∷ []
unfolding claims_in pieces words_in carries words_for first_length front_length
next_head_taken = refl

pub no_words : claims_in 2 [] ≡ []
unfolding claims_in pieces words_in carries words_for first_length front_length
no_words = refl

-- ---- the bytes

-- right in another form; two of the four solutions; none claimed; an entry that is not below m; a head above 17; a stray word; cut short
abbrev class : List ℕ
class =
    words (block 2 (0 ∷ 0 ∷ 2 ∷ 3 ∷ []) ∷ block 2 (0 ∷ 0 ∷ 0 ∷ 2 ∷ []) ∷ block 0 [] ∷ block 1 (0 ∷ 4 ∷ []) ∷ (head 18 ∷ [])
    ∷ (word entry_kind 0 ∷ []) ∷ block 1 (0 ∷ []) ∷ [])

pub bytes : class_bytes sheet class ≡ 1 ∷ 0 ∷ 0 ∷ 106 ∷ 101 ∷ 101 ∷ 101 ∷ []
unfolding claims_in pieces marked_of refusal_of words_in claim_of vectors_of line_mark line_is_right superfluous_at superfluous describes
    carries words_for first_length front_length
bytes = refl

-- "bytes past the last claim keep their content"
pub bytes-kept :
    (classed_of sheet class (replicate 9 9) ≡ Ok 7)
    × (marks_after sheet class (replicate 9 9) ≡ 1 ∷ 0 ∷ 0 ∷ 106 ∷ 101 ∷ 101 ∷ 101 ∷ 9 ∷ 9 ∷ [])
unfolding classed_of marks_after result_of memory_after claims_in pieces marked_of refusal_of words_in claim_of vectors_of line_mark
    line_is_right superfluous_at superfluous describes carries words_for first_length front_length
bytes-kept = (refl, refl)

-- ---- what turns a class away

-- "Malformed one-word claims count toward the 64. 65 claims and too few bytes: 14."; unopened says 4
abbrev strays : ℕ → List ℕ
strays k = replicate k (word entry_kind 0)

abbrev asked : Ledger → List ℕ → ℕ → ℕ
asked l ws room = refusal_of l (queries (classes ws (replicate room 0)))

pub too_many : (asked sheet (strays 65) 65 ≡ 14) × (asked sheet (strays 65) 0 ≡ 14) × (asked unopened (strays 65) 65 ≡ 4)
unfolding refusal_of claims_in pieces words_in carries words_for first_length front_length
too_many = (refl, refl, refl)

pub just_enough : (asked sheet (strays 64) 64 ≡ 0) × (asked sheet (strays 64) 63 ≡ 8) × (asked sheet [] 0 ≡ 0)
unfolding refusal_of claims_in pieces words_in carries words_for first_length front_length
just_enough = (refl, refl, refl)

-- nothing is written then; and no words are no claims
pub nothing_written :
    (classed_of sheet (strays 3) (9 ∷ 9 ∷ []) ≡ Err 8) × (marks_after sheet (strays 3) (9 ∷ 9 ∷ []) ≡ 9 ∷ 9 ∷ [])
    × (classed_of sheet [] [] ≡ Ok 0) × (marks_after sheet [] (9 ∷ []) ≡ 9 ∷ [])
unfolding classed_of marks_after result_of memory_after claims_in pieces marked_of refusal_of words_in carries words_for first_length
    front_length
nothing_written = (refl, refl, refl, refl)
