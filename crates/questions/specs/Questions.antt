-- The questions of documents 01 and 02, each with the number that is given when its answer is no. Definitions only.
use Rattle.std.specs.Prelude.{Bool, cond, ◌&&◌, List, [], ◌∷◌, ℕ, ◌%◌, eqb, leb}

-- a question: its number, and whether the answer is yes
pub record Question : Type 0 where
  pub number : ℕ
  pub yes : Bool

abbrev pub asks : ℕ → Bool → Question
asks k b = record { number = k; yes = b }

-- the number of the first question whose answer is no, or 0 where there is none
abbrev pub first_no : List Question → ℕ
first_no [] = 0
first_no (q ∷ qs) = cond q.yes (first_no qs) q.number

-- what a call gives: its answer, or the refusal with the number of the question that turned it away
abbrev pub unless_refused : {A : Type 0} → (ℕ → A) → ℕ → A → A
unless_refused refuse number answer = cond (eqb number 0) answer (refuse number)

-- "take m in 2..4,294,967,295, so 65,536 now opens"
abbrev pub largest_modulus : ℕ
largest_modulus = 4294967295

abbrev pub allowed_modulus : ℕ → Bool
allowed_modulus m = leb 2 m && leb m largest_modulus

-- whether a line on a sheet mod m may have the modulus q: "a modulus q that divides the sheet's m", and "q below 2" is turned away
abbrev pub allowed_own : ℕ → ℕ → Bool
allowed_own m q = leb 2 q && eqb (m % q) 0
