-- How many digits a number is written with: those that it has, and one for 0.
use Rattle.std.specs.Prelude.{◌≡◌, ℕ, zero, suc, ◌/◌, ◌≤◌, ◌<◌, max}
use Rattle.std.proofs.Common.{arith}
use Rattle.residue.specs.Digits.{digits, digits-zero, digits_step}

pub one_digit : (x : ℕ) → x < 10 → max 1 (digits x) ≡ 1
one_digit zero h = rw digits-zero
one_digit (suc x) h =
    let none : suc x / 10 ≡ 0 = omega arith in
    rw (digits_step (suc x) (omega arith), none, digits-zero)

pub digit_more : (x : ℕ) → 10 ≤ x → max 1 (digits x) ≡ suc (max 1 (digits (x / 10)))
digit_more x h = omega (arith, digits_step x (omega arith), digits_step (x / 10) (omega arith))
