-- How an opening, an equation and a claim lie in words. Definitions only.
use Rattle.std.specs.Prelude.{Bool, false, cond, ◌&&◌, List, [], ◌∷◌, ◌++◌, ℕ, ◌+◌, ◌*◌, eqb, leb, drop, get_or, replicate}
use Rattle.equations.specs.Vectors.{same_vector}
use Rattle.equations.specs.Equation.{Equation}
use Rattle.equations.specs.Lines.{equation_at}
use Rattle.equations.specs.Line.{Line}
use Rattle.equations.specs.Claim.{Claim}
use Rattle.system.specs.Claims.{claim_of}
use Rattle.words.specs.declared.unpacking.Word.{Word}
use Rattle.words.specs.Words.{numbers_of, have_kinds, modulus_kind, unknowns_kind, coefficient_kind, right_kind, head_kind, entry_kind, own_modulus_kind}
use Rattle.words.specs.Signs.{plain_kinds_of, residues_of}

-- the number of the i-th word
abbrev pub number_at : List Word → ℕ → ℕ
number_at words i = get_or (numbers_of words) i 0

-- "Open: kinds 1, 2."
abbrev pub is_opening : List Word → Bool
is_opening words = have_kinds words (modulus_kind ∷ unknowns_kind ∷ [])

-- "Equation: n of kind 3, one of kind 4."; kinds 10 and 11 "may stand wherever 3 and 4 may"
abbrev pub is_equation : ℕ → List Word → Bool
is_equation n words = same_vector (plain_kinds_of words) (replicate n coefficient_kind ++ (right_kind ∷ []))

-- the equation that lies in well-formed words, mod q: "The ledger holds residues"
abbrev pub equation_from : ℕ → ℕ → List Word → Equation
equation_from q n words = equation_at n (residues_of q words)

-- "a word of kind 12 with q precedes the equation": whether one does
abbrev pub has_own : List Word → Bool
has_own [] = false
has_own (w ∷ words) = eqb w.kind own_modulus_kind

-- the modulus of the line, on a sheet mod m: "without it .. q is m"
abbrev pub own_modulus : ℕ → List Word → ℕ
own_modulus m words = cond (has_own words) (number_at words 0) m

-- the words of the equation: those behind it
abbrev pub equation_words : List Word → List Word
equation_words words = cond (has_own words) (drop 1 words) words

-- the line that lies in well-formed words, on a sheet mod m: "Its numbers become residues mod q."
abbrev pub line_from : ℕ → ℕ → List Word → Line
line_from m n words =
    record { modulus = own_modulus m words; equation = equation_from (own_modulus m words) n (equation_words words) }

-- 1 for the starting vector, and 1 for each of so many steps as there can be places
abbrev pub largest_head : ℕ
largest_head = 17

-- "Claim: a head, then head number times n entries; 0 claims no solution .., 1..17 is a starting vector with its steps."
abbrev pub is_claim : ℕ → List Word → Bool
is_claim n words =
    leb (number_at words 0) largest_head && have_kinds words (head_kind ∷ replicate (number_at words 0 * n) entry_kind)

-- how many words a claim takes by its head's number: "1 + n times its number", and one "with a number above 17"
abbrev pub claim_length : ℕ → ℕ → ℕ
claim_length n head = cond (leb head largest_head) (1 + n * head) 1

-- the numbers behind the head
abbrev pub entries_of : List Word → List ℕ
entries_of words = drop 1 (numbers_of words)

-- The claim that lies in well-formed words. There n is not 0, so that no entries at all are head 0.
abbrev pub claim_from : ℕ → List Word → Claim
claim_from n words = claim_of n (entries_of words)
