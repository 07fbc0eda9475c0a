-- What this crate promises of its definitions, beside the contracts: Euclid's chain gives the textbook's divisor, every whole
-- number has its residue, and the answer to one congruence describes its solutions, for every m ≥ 1. Kept in proofs/Promises.antt.
use Rattle.std.specs.Prelude.{◌↔◌, ◌≡◌, ℕ, ◌+◌, ◌-◌, ◌*◌, min, ◌≤◌, ◌<◌, ℤ, pos, neg_ℤ, None}
use Rattle.residue.specs.Congruent.{Congruent}
use Rattle.residue.specs.Whole.{CongruentWhole}
use Rattle.residue.specs.Divides.{Divides}
use Rattle.residue.specs.Residue.{residue_of}
use Rattle.residue.specs.Digits.{digits}
use Rattle.residue.specs.Gcd.{gcd, divisions}
use Rattle.residue.specs.Congruence.{solutions_of}
use Rattle.residue.specs.Congruence.{spaced}

-- "Euclid's chain reports the textbook's divisor": it divides both numbers, and every common divisor divides it
abbrev pub GreatestDivisor : Type 0
GreatestDivisor =
    (a b : ℕ) → Divides (gcd a b) a × Divides (gcd a b) b
    × ((c : ℕ) → Divides c a → Divides c b → Divides c (gcd a b))

-- "It is at most 5 times the decimal digits of the smaller number, plus 1 (Lamé; 0 counts as no digits)"
abbrev pub ShortChain : Type 0
ShortChain = (a b : ℕ) → divisions a b ≤ 5 * digits (min a b) + 1

-- "is brought to its residue, 0..m-1": it is the number below m that is congruent to x, and no other number is
abbrev pub ResidueOf : Type 0
ResidueOf = (m : ℕ) (x : ℤ) (r : ℕ) → 0 < m → (r ≡ residue_of m x) ↔ ((r < m) × CongruentWhole m (pos r) x)

-- "so -1 mod m is m-1 and minus 0 is 0"
abbrev pub MinusOneAndZero : Type 0
MinusOneAndZero = (m : ℕ) → 0 < m → (residue_of m (neg_ℤ (pos 1)) ≡ m - 1) × (residue_of m (neg_ℤ (pos 0)) ≡ 0)

-- "with g = gcd(a,m), none exactly when g does not divide b"
abbrev pub NoneByDivisor : Type 0
NoneByDivisor = (a b m : ℕ) → 0 < m → (solutions_of a b m ≡ None) ↔ (Divides (gcd a m) b → ⊥)

-- "none": there is no solution, among all numbers
abbrev pub NoneExactly : Type 0
NoneExactly = (a b m : ℕ) → 0 < m → (solutions_of a b m ≡ None) ↔ ((u : ℕ) → Congruent m (a * u) b → ⊥)

-- the t and the spacing of an answer describe the numbers that solve a congruence mod m
pub record Describes (Solves : ℕ → Type 0) (m t spacing : ℕ) : Type 0 where
  pub solves : Solves t
  pub small : t < m
  pub least : (u : ℕ) → Solves u → t ≤ u
  pub spaced : (u : ℕ) → Solves u → (k : ℕ) × (u ≡ t + k * spacing)
  pub all : (k : ℕ) → Solves (t + k * spacing)

-- "otherwise the least t, and the spacing m/g", of a·t = b mod m
abbrev pub LeastAndSpacing : Type 0
LeastAndSpacing =
    (a b m t spacing : ℕ) → 0 < m → solutions_of a b m ≡ spaced t spacing
    → Describes (λ u. Congruent m (a * u) b) m t spacing
