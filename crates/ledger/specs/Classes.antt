-- A class: the claims of many students, which "come as words one after another". The two laws say all of `claims_in`.
use Rattle.std.specs.Prelude.{◌≡◌, Bool, true, false, cond, List, [], ◌∷◌, ℕ, ◌+◌, ◌*◌, ◌<◌, eqb, leb, length}
use Rattle.std.proofs.Common.{arith, length-drop}
use Rattle.slices.specs.Pieces.{pieces, pieces_none, pieces_step}
use Rattle.words.specs.declared.unpacking.Word.{Word}
use Rattle.words.specs.Words.{head_kind}
use Rattle.words.specs.Fronts.{first_word, front_length, front, behind, front_some}
use Rattle.ledger.specs.Shapes.{largest_head, claim_length}

-- "up to 64 claims"
abbrev pub most_claims : ℕ
most_claims = 64

-- how many words a claim takes by its first one: "Each claim's length is taken as on the tape; a word of another kind where a head
-- should stand is a claim of one word"
abbrev pub claim_words : ℕ → Word → ℕ
claim_words n first = cond (eqb first.kind head_kind) (claim_length n first.number) 1

-- the memory of the first claim, all words where fewer remain, and what lies behind it
abbrev pub first_claim : ℕ → List ℕ → List ℕ
first_claim n ws = front (claim_words n (first_word ws)) ws

abbrev pub behind_claim : ℕ → List ℕ → List ℕ
behind_claim n ws = behind (claim_words n (first_word ws)) ws

-- the claims that lie in words, for n unknowns
unfoldable pub claims_in : ℕ → List ℕ → List (List ℕ)
claims_in n ws = pieces first_claim (λ k xs. k) behind_claim n ws

-- no words, no claims
pub claims_none : (n : ℕ) → claims_in n [] ≡ []
unfolding claims_in
claims_none n = pieces_none first_claim (λ k xs. k) behind_claim n

-- every claim takes a word
some_or_one : (b : Bool) (k : ℕ) → 0 < k → 0 < cond b k 1
some_or_one true k some = some
some_or_one false k some = omega arith

pub length_some : (n head : ℕ) → 0 < claim_length n head
length_some n head = some_or_one (leb head largest_head) (1 + n * head) (omega arith)

pub claim_takes : (n : ℕ) (first : Word) → 0 < claim_words n first
claim_takes n first = some_or_one (eqb first.kind head_kind) (claim_length n first.number) (length_some n first.number)

-- the first claim, and the claims behind it
pub claims_first : (n : ℕ) (ws : List ℕ) → 0 < length ws → claims_in n ws ≡ first_claim n ws ∷ claims_in n (behind_claim n ws)
unfolding claims_in
claims_first n ws some =
    pieces_step first_claim (λ k xs. k) behind_claim
    (λ k w xs. omega (
      arith,
      length-drop (front_length (claim_words k (first_word (w ∷ xs))) (w ∷ xs)) (w ∷ xs),
      front_some (claim_words k (first_word (w ∷ xs))) w xs (claim_takes k (first_word (w ∷ xs))),
    )) n ws some
