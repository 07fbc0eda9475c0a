-- What is promised of the answer to one congruence, for all whole numbers a and b: it describes the numbers t with a·t ≡ b (mod m).
-- Kept in proofs/Promises.antt.
use Rattle.std.specs.Prelude.{◌↔◌, ◌≡◌, ℕ, T, ℤ, pos, ◌*ℤ◌, Ok, Err, None}
use Rattle.questions.specs.Questions.{allowed_modulus}
use Rattle.residue.specs.Whole.{CongruentWhole}
use Rattle.residue.specs.Divides.{Divides}
use Rattle.residue.specs.Gcd.{gcd}
use Rattle.residue.specs.Residue.{residue_of}
use Rattle.residue.specs.Promises.{Describes}
use Rattle.congruence.specs.Congruence.{congruence_of}
use Rattle.congruence.specs.Congruence.{solved}

-- u solves "One congruence a·t = b mod m", in whole numbers
abbrev pub SolvesWhole : ℕ → ℤ → ℤ → ℕ → Type 0
SolvesWhole m a b u = CongruentWhole m (a *ℤ pos u) b

-- "m allowed? 2.", and nothing else is asked
abbrev pub RefusedByModulus : Type 0
RefusedByModulus = (a b : ℤ) (m k : ℕ) → (congruence_of a b m ≡ Err k) ↔ ((k ≡ 2) × (T (allowed_modulus m) → ⊥))

-- "with g = gcd(a,m), none exactly when g does not divide b", for the residues of a and b
abbrev pub NoneByDivisor : Type 0
NoneByDivisor =
    (a b : ℤ) (m : ℕ) → T (allowed_modulus m)
    → (congruence_of a b m ≡ Ok None) ↔ (Divides (gcd (residue_of m a) m) (residue_of m b) → ⊥)

-- "none": there is no solution, among all numbers
abbrev pub NoneExactly : Type 0
NoneExactly =
    (a b : ℤ) (m : ℕ) → T (allowed_modulus m) → (congruence_of a b m ≡ Ok None) ↔ ((u : ℕ) → SolvesWhole m a b u → ⊥)

-- "otherwise the least t, and the spacing m/g"
abbrev pub LeastAndSpacing : Type 0
LeastAndSpacing =
    (a b : ℤ) (m t spacing : ℕ) → congruence_of a b m ≡ solved t spacing → Describes (SolvesWhole m a b) m t spacing
