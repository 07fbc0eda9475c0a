-- The promises of specs/Promises.antt, kept.
use mathlib.Core.Path.{◌≡◌, sym, ap, ◌∙◌}
use Prim.Native.Nat.{ℕ, ◌*◌, ◌/◌, ◌%◌, ◌≤◌, ◌<◌}
use native.Mathlib.Decide.{dec_le}
use native.Mathlib.Omega.{arith}
use Rattle.std.specs.Prelude.{Option, Some, None}
use Rattle.residue.specs.Congruent.{Congruent}
use Rattle.residue.specs.Bezout.{cofactors}
use Rattle.residue.specs.Gcd.{gcd}
use Rattle.residue.specs.Congruence.{solutions_of, spaced}
use Rattle.residue.specs.declared.congruence.Solutions.{Solutions}
use Rattle.residue.specs.Promises.{GreatestDivisor, ShortChain, ResidueOf, MinusOneAndZero, NoneByDivisor, NoneExactly, Describes, LeastAndSpacing}
use Rattle.residue.proofs.Divides.{divides_of_remainder, remainder_of_divides}
use Rattle.residue.proofs.Gcd.{gcd_divides_left, gcd_divides_right, gcd_greatest}
use Rattle.residue.proofs.Lame.{lame}
use Rattle.residue.proofs.Residue as R
use Rattle.residue.proofs.Solutions.{solution_divides, solutions_are, solutions_describe, solutions_none}

pub greatest_divisor : GreatestDivisor
greatest_divisor a b = (gcd_divides_left a b, gcd_divides_right a b, gcd_greatest a b)

pub short_chain : ShortChain
short_chain = lame

pub residue_of_lem : ResidueOf
residue_of_lem = R.residue_of_lem

pub minus_one_and_zero : MinusOneAndZero
minus_one_and_zero m h = (R.minus_one_lem m h, R.minus-zero m)

-- an answer is not both
not_both : (a b m : ℕ) → 0 < m → b % gcd a m ≡ 0 → solutions_of a b m ≡ None → ⊥
not_both a b m pos h e = let z : ◌≡◌ {A = ℕ} 0 1 = cc (solutions_are a b m pos h) in omega arith

pub none_by_divisor : NoneByDivisor
none_by_divisor a b m pos = (
  (λ e h. not_both a b m pos (remainder_of_divides h) e),
  (λ h. solutions_none a b m (λ (e : b % gcd a m ≡ 0). h (divides_of_remainder e))),
)

pub none-exactly : NoneExactly
none-exactly a b m pos = (
  (λ e u h. not_both a b m pos (remainder_of_divides (solution_divides a b m u h)) e),
  (λ h. solutions_none a b m (λ (e : b % gcd a m ≡ 0). h _ (solutions_describe a b m pos e).solves)),
)

-- the least solution and the spacing of an answer
abbrev least_in : Option Solutions → ℕ
least_in None = 0
least_in (Some x) = x.least

abbrev spacing_in : Option Solutions → ℕ
spacing_in None = 0
spacing_in (Some x) = x.spacing

pub least_and_spacing : LeastAndSpacing
least_and_spacing a b m t spacing pos e = go (dec_le (b % gcd a m) 0)
  where
    go : Dec (b % gcd a m ≤ 0) → Describes (λ u. Congruent m (a * u) b) m t spacing
    go (yes l) =
        let h : b % gcd a m ≡ 0 = omega arith in
        let same : spaced t spacing ≡ spaced ((cofactors m a m).s * (b / gcd a m) % (m / gcd a m)) (m / gcd a m) =
        sym e ∙ solutions_are a b m pos h in
        let p : t ≡ (cofactors m a m).s * (b / gcd a m) % (m / gcd a m) = ap least_in same in
        let q : spacing ≡ m / gcd a m = ap spacing_in same in
        rw (p, q) (solutions_describe a b m pos h)
    go (no n) =
        let z : ◌≡◌ {A = ℕ} 0 1 = cc (solutions_none a b m (λ (h : b % gcd a m ≡ 0). omega arith)) in
        absurd (omega arith)
