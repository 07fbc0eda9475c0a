-- One congruence a·t = b mod m: its answer, by trying every t from 0 on. Definitions only.
use Rattle.std.specs.Prelude.{Bool, cond, ℕ, zero, suc, ◌*◌, ◌/◌, ◌%◌, eqb, Option, None, Some}
use Rattle.residue.specs.Gcd.{gcd}
use Rattle.residue.specs.declared.congruence.Solutions.{Solutions}

-- whether a·t = b mod m
abbrev pub solves_congruence : ℕ → ℕ → ℕ → ℕ → Bool
solves_congruence a b m t = eqb (a * t % m) (b % m)

-- the first of the k numbers t, t + 1, .. that the test accepts, and t + k where it accepts none of them
abbrev pub first_from : (ℕ → Bool) → ℕ → ℕ → ℕ
first_from accepts t zero = t
first_from accepts t (suc k) = cond (accepts t) t (first_from accepts (suc t) k)

-- "the least t"
unfoldable pub least_of : ℕ → ℕ → ℕ → ℕ
least_of a b m = first_from (solves_congruence a b m) 0 m

-- "the least t, and the spacing"
abbrev pub spaced : ℕ → ℕ → Option Solutions
spaced t spacing = Some (record { least = t; spacing = spacing })

-- "with g = gcd(a,m), none exactly when g does not divide b; otherwise the least t, and the spacing m/g"
unfoldable pub solutions_of : ℕ → ℕ → ℕ → Option Solutions
solutions_of a b m = cond (eqb (b % gcd a m) 0) (spaced (least_of a b m) (m / gcd a m)) None
