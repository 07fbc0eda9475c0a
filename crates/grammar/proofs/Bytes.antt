-- Spaces and digits in front of a text, read and written.
--   skip-spaces                     skipping takes exactly the spaces in front
--   gap, gap_skip                   how many there are, and the text from them and what is left
--   digits-written, behind-written  written digits are read again, up to a byte that is none
--   digits_back, digits_are         the digits read are digits, and write what was read
--   next-tail                       a text from its next byte and the rest
use mathlib.Core.Path.{◌≡◌, refl, ap, ap₂}
use mathlib.Core.Bool.{Bool, true, false, cond}
use mathlib.Core.List.{List, [], ◌∷◌, ◌++◌}
use Prim.Native.Nat.{ℕ, zero, suc, ◌+◌, ◌-◌, ◌≤◌}
use native.Mathlib.Omega.{arith}
use borrow.Author.Tests.{eqb-true, leb-true, le-leb}
use lib.Dec.{eqb, leb}
use Rattle.grammar.specs.Grammar.{spaces, characters, are_digits}
use Rattle.grammar.specs.Model.Reader.{next, tail, skip, is_digit, digits, behind}
use Rattle.grammar.proofs.Tests.{both, both_left, both_right}

-- ---- spaces

not_skipped : (s : List ℕ) → eqb (next s) 32 ≡ false → skip s ≡ s
not_skipped [] h = refl
not_skipped (c ∷ s) h = rw h

pub skip-spaces : (k : ℕ) (s : List ℕ) → eqb (next s) 32 ≡ false → skip (spaces k ++ s) ≡ s
skip-spaces zero s h = not_skipped s h
skip-spaces (suc k) s h = skip-spaces k s h

pub gap : List ℕ → ℕ
gap [] = 0
gap (c ∷ s) = cond (eqb c 32) (suc (gap s)) 0

pub gap_skip : (s : List ℕ) → s ≡ spaces (gap s) ++ skip s
unfolding gap
gap_skip [] = refl
gap_skip (c ∷ s) = by (eqb c 32) refl (gap_skip s)
  where
    by : (b : Bool) → eqb c 32 ≡ b → s ≡ spaces (gap s) ++ skip s → c ∷ s ≡ spaces (gap (c ∷ s)) ++ skip (c ∷ s)
    by true e h = rw e (ap₂ ◌∷◌ (eqb-true c 32 e) h)
    by false e h = rw e

-- ---- digits

is_digit_lem : (d : ℕ) → leb d 9 ≡ true → is_digit (48 + d) ≡ true
is_digit_lem d h =
    let small : d ≤ 9 = leb-true d 9 h in
    both (leb 48 (48 + d)) (leb (48 + d) 57) (le-leb 48 (48 + d) (omega arith)) (le-leb (48 + d) 57 (omega arith))

no_digits : (s : List ℕ) → is_digit (next s) ≡ false → digits s ≡ []
no_digits [] h = refl
no_digits (c ∷ s) h = rw h

none-behind : (s : List ℕ) → is_digit (next s) ≡ false → behind s ≡ s
none-behind [] h = refl
none-behind (c ∷ s) h = rw h

pub digits-written : (ds s : List ℕ) → are_digits ds ≡ true → is_digit (next s) ≡ false → digits (characters ds ++ s) ≡ ds
digits-written [] s a h = no_digits s h
digits-written (d ∷ ds) s a h =
    rw (is_digit_lem d (both_left (leb d 9) (are_digits ds) a))
    (ap₂ ◌∷◌ (omega arith) (digits-written ds s (both_right (leb d 9) (are_digits ds) a) h))

pub behind-written : (ds s : List ℕ) → are_digits ds ≡ true → is_digit (next s) ≡ false → behind (characters ds ++ s) ≡ s
behind-written [] s a h = none-behind s h
behind-written (d ∷ ds) s a h =
    rw (is_digit_lem d (both_left (leb d 9) (are_digits ds) a)) (behind-written ds s (both_right (leb d 9) (are_digits ds) a) h)

pub digits_back : (s : List ℕ) → s ≡ characters (digits s) ++ behind s
digits_back [] = refl
digits_back (c ∷ s) = by (is_digit c) refl (digits_back s)
  where
    by : (b : Bool) → is_digit c ≡ b → s ≡ characters (digits s) ++ behind s
        → c ∷ s ≡ characters (digits (c ∷ s)) ++ behind (c ∷ s)
    by true e h =
        let low : 48 ≤ c = leb-true 48 c (both_left (leb 48 c) (leb c 57) e) in rw e (ap₂ ◌∷◌ (omega arith) h)
    by false e h = rw e

pub digits_are : (s : List ℕ) → are_digits (digits s) ≡ true
digits_are [] = refl
digits_are (c ∷ s) = by (is_digit c) refl (digits_are s)
  where
    by : (b : Bool) → is_digit c ≡ b → are_digits (digits s) ≡ true → are_digits (digits (c ∷ s)) ≡ true
    by true e h =
        let high : c ≤ 57 = leb-true c 57 (both_right (leb 48 c) (leb c 57) e) in
        rw e (both (leb (c - 48) 9) (are_digits (digits s)) (le-leb (c - 48) 9 (omega arith)) h)
    by false e h = rw e

-- ---- the next byte

pub next-tail : (s : List ℕ) (c : ℕ) → eqb (next s) (suc c) ≡ true → s ≡ suc c ∷ tail s
next-tail [] c h = absurd (omega (arith, eqb-true 0 (suc c) h))
next-tail (x ∷ s) c h = ap (λ (y : ℕ). y ∷ s) (eqb-true x (suc c) h)
