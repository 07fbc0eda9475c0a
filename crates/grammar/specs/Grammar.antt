-- The grammar of typed equations: which bytes write which tree. No method of reading stands here. Definitions only.
use Rattle.std.specs.Prelude.{◌≡◌, Bool, true, false, not, ◌&&◌, List, [], ◌∷◌, ◌++◌, map, ℕ, suc, ◌+◌, ◌*◌, length, replicate, eqb, leb}
use Rattle.grammar.specs.Tree.{Tree, number, unknown, minus, sum, difference, product, Sides}

-- ---- bytes

-- k spaces, "(0x20)"
abbrev pub spaces : ℕ → List ℕ
spaces k = replicate k 32

-- a part of one byte, with the k spaces behind it: a sign, a bracket or the equals sign
abbrev pub sign : ℕ → ℕ → List ℕ
sign c k = c ∷ spaces k

-- ---- numbers and unknowns

-- the number that decimal digits make behind those that made v
abbrev pub onto : ℕ → List ℕ → ℕ
onto v [] = v
onto v (d ∷ ds) = onto (10 * v + d) ds

abbrev pub decimal : List ℕ → ℕ
decimal ds = onto 0 ds

-- the bytes of decimal digits: 0 is typed 0x30
abbrev pub characters : List ℕ → List ℕ
characters ds = map (λ (d : ℕ). 48 + d) ds

abbrev pub are_digits : List ℕ → Bool
are_digits [] = true
are_digits (d ∷ ds) = leb d 9 && are_digits ds

-- "Numbers have 1 to 5 decimal digits, zeros in front allowed"
abbrev pub is_number : List ℕ → Bool
is_number ds = leb 1 (length ds) && leb (length ds) 5

abbrev pub zero_in_front : List ℕ → Bool
zero_in_front [] = false
zero_in_front (d ∷ ds) = eqb d 0

abbrev pub largest_unknown : ℕ
largest_unknown = 16

-- "unknowns are x1 to x16, without them"
abbrev pub is_unknown : List ℕ → Bool
is_unknown ds = not (zero_in_front ds) && (leb 1 (decimal ds) && leb (decimal ds) largest_unknown)

-- ---- expressions

pub data Rank : Type 0 where
  expression : Rank
  term : Rank
  factor : Rank

-- Which bytes write which tree, as an expression, a term or a factor. "with spaces (0x20) allowed before, between and after the
-- parts but not inside a number or an unknown": each part takes the k spaces behind it along, and those before the first part stand
-- in `Typed`. The bytes 40 to 43 are ( ) * +, 45 is -, 61 is =, 120 is x.
pub data Writes : Rank → Tree → List ℕ → Type 0 where
  -- "Numbers have 1 to 5 decimal digits", "unknowns are x1 to x16"
  a_number : (ds : List ℕ) (k : ℕ) → are_digits ds ≡ true → is_number ds ≡ true
      → Writes factor (number (decimal ds)) (characters ds ++ spaces k)
  an_unknown : (ds : List ℕ) (j k : ℕ) → are_digits ds ≡ true → is_unknown ds ≡ true → decimal ds ≡ suc j
      → Writes factor (unknown j) (120 ∷ (characters ds ++ spaces k))
  -- "a factor may be a bracketed expression"
  bracketed : (k l : ℕ) {t : Tree} {s : List ℕ} → Writes expression t s → Writes factor t (sign 40 k ++ (s ++ sign 41 l))
  -- "a minus before a factor gives a factor again"
  negated : (k : ℕ) {t : Tree} {s : List ℕ} → Writes factor t s → Writes factor (minus t) (sign 45 k ++ s)
  -- "a term from factors", "operators of one rank associate to the left"
  one_factor : {t : Tree} {s : List ℕ} → Writes factor t s → Writes term t s
  times : (k : ℕ) {a b : Tree} {s u : List ℕ} → Writes term a s → Writes factor b u
      → Writes term (product a b) (s ++ (sign 42 k ++ u))
  -- "An expression is built from terms", "`*` binds before `+` and `-`"
  one_term : {t : Tree} {s : List ℕ} → Writes term t s → Writes expression t s
  plus : (k : ℕ) {a b : Tree} {s u : List ℕ} → Writes expression a s → Writes term b u
      → Writes expression (sum a b) (s ++ (sign 43 k ++ u))
  less : (k : ℕ) {a b : Tree} {s u : List ℕ} → Writes expression a s → Writes term b u
      → Writes expression (difference a b) (s ++ (sign 45 k ++ u))

-- ---- equations

-- "There is one equals sign, with an expression on each side"; spaces may stand before all of it
pub record Typed (e : Sides) (text : List ℕ) : Type 0 where
  pub before : ℕ
  pub behind : ℕ
  pub s : List ℕ
  pub u : List ℕ
  pub left : Writes expression e.left s
  pub right : Writes expression e.right u
  pub bytes : text ≡ spaces before ++ (s ++ (sign 61 behind ++ u))

-- "at most 256 bytes"
abbrev pub largest_text : ℕ
largest_text = 256
