-- A printed line: its bytes. Two laws say all of `decimal` without counting digits.
use Rattle.std.specs.Prelude.{◌≡◌, List, [], ◌∷◌, ◌++◌, ℕ, zero, suc, ◌+◌, ◌/◌, ◌%◌, ◌≤◌, ◌<◌, max}
use Rattle.std.proofs.Common.{ap, arith}
use Prim.Native.String.{String}
use Rattle.residue.specs.Digits.{digits}
use Rattle.tape.specs.Counted.Digits.{one_digit, digit_more}
use Rattle.tape.specs.Ascii.{bytes_of}

-- the k last decimal digits of a number; 48 is the code of "0"
abbrev pub last_digits : ℕ → ℕ → List ℕ
last_digits zero x = []
last_digits (suc k) x = last_digits k (x / 10) ++ ((48 + x % 10) ∷ [])

-- "numbers in decimal without leading zeros": as many digits as the number has; 0, which counts as no digits, is written
-- with one
unfoldable pub decimal : ℕ → List ℕ
decimal x = last_digits (max 1 (digits x)) x

-- a number below 10 is one digit
pub decimal-small : (x : ℕ) → x < 10 → decimal x ≡ (48 + x) ∷ []
unfolding decimal
decimal-small x h = rw (one_digit x h) (ap (λ (d : ℕ). (48 + d) ∷ []) (omega arith))

-- any other is what it is without its last digit, and that digit
pub decimal_step : (x : ℕ) → 10 ≤ x → decimal x ≡ decimal (x / 10) ++ ((48 + x % 10) ∷ [])
unfolding decimal
decimal_step x h = ap (λ (k : ℕ). last_digits k x) (digit_more x h)

-- the numbers, each behind a space; 32 is its code
abbrev pub spaced : List ℕ → List ℕ
spaced [] = []
spaced (x ∷ xs) = 32 ∷ (decimal x ++ spaced xs)

-- "Every line ends in one byte 0x0A; words and numbers in it are parted by single spaces"
unfoldable pub line_of : List ℕ → List ℕ → List ℕ
line_of name xs = name ++ (spaced xs ++ (10 ∷ []))

-- the line that begins with a word, and has these numbers behind it
abbrev pub line : String → List ℕ → List ℕ
line name xs = line_of (bytes_of name) xs
