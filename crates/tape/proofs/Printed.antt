-- Decimal numbers and lines, as they are written byte by byte.
--   decimal_some, -most   a number has a digit, and a 32-bit number at most 10
--   decimal-first, -next   its one digit written; its last one, behind those before it
--   spaced_on             one number more behind the spaced ones
--   line-length           how many bytes a line has
--   line-written          the byte that ends a line
use mathlib.Core.Path.{◌≡◌, refl, sym, ap, ◌∙◌}
use mathlib.Core.List.{List, [], ◌∷◌, ◌++◌, append-nil, append_assoc}
use mathlib.Core.Logic.{⊎_elim}
use Prim.Native.Nat.{ℕ, zero, suc, ◌+◌, ◌*◌, ◌/◌, ◌%◌, ◌^◌, ◌≤◌, ◌<◌}
use native.Mathlib.Nat.{eq-zero-or-pos}
use native.Mathlib.Numerals.{add-one}
use native.Mathlib.Omega.{arith}
use lib.ListN.{length, take, get_or, set, length-append}
use lib.Seq.{take-suc}
use Rattle.slices.specs.Over.{over}
use Rattle.slices.proofs.Over.{over-one}
use Rattle.tape.specs.Text.{decimal, decimal-small, decimal_step, spaced, line_of}

pub decimal-length : (x : ℕ) {q : ℕ} → 10 ≤ x → q ≡ x / 10 → length (decimal x) ≡ length (decimal q) + 1
decimal-length x more tens = rw tens (ap length (decimal_step x more) ∙ length-append (decimal (x / 10)) _)

pub decimal_some : (x : ℕ) → 0 < length (decimal x)
decimal_some x =
    ⊎_elim (λ h. omega (arith, ap length (decimal-small x (omega arith)))) (λ h. omega (arith, decimal-length x (omega arith) refl))
    (eq-zero-or-pos (x / 10))

-- the first number with k digits more than one
abbrev next : ℕ → ℕ
next zero = 10
next (suc k) = next k * 10

decimal-within : (k x : ℕ) → x < next k → length (decimal x) ≤ suc k
decimal-within zero x small = omega (arith, ap length (decimal-small x small))
decimal-within (suc k) x small =
    ⊎_elim (λ h. omega (arith, ap length (decimal-small x (omega arith))))
    (λ h. omega (arith, decimal-length x (omega arith) refl, decimal-within k (x / 10) (omega arith))) (eq-zero-or-pos (x / 10))

pub decimal-most : (x : ℕ) → x < 2 ^ 32 → length (decimal x) ≤ 10
decimal-most x small = decimal-within 9 x (omega arith)

pub decimal-first : (x d : ℕ) (old : List ℕ) → x < 10 → d ≡ 48 + x → 0 < length old → set old 0 d ≡ over (decimal x) old
decimal-first x d old small is room = rw (decimal-small x small, is) (over-one [] old (48 + x) room)

pub decimal-next : (x q r d k : ℕ) (old : List ℕ) {new : List ℕ} → 10 ≤ x → q ≡ x / 10 → r ≡ x % 10 → d ≡ 48 + r
    → k ≡ length (decimal q) → length (decimal x) ≤ length old → new ≡ over (decimal q) old → set new k d ≡ over (decimal x) old
decimal-next x q r d k old more tens last is place room front =
    rw (decimal_step x more, sym tens, sym last, front, is, place)
    (over-one (decimal q) old (48 + r) (omega (arith, decimal-length x more tens)))

spaced-append : (xs ys : List ℕ) → spaced (xs ++ ys) ≡ spaced xs ++ spaced ys
spaced-append [] ys = refl
spaced-append (x ∷ xs) ys =
    ap (λ (z : List ℕ). 32 ∷ (decimal x ++ z)) (spaced-append xs ys)
    ∙ ap (λ (z : List ℕ). 32 ∷ z) (sym (append_assoc (decimal x) (spaced xs) (spaced ys)))

pub spaced_on : (xs : List ℕ) (i : ℕ) → i < length xs
    → spaced (take (i + 1) xs) ≡ spaced (take i xs) ++ (32 ∷ decimal (get_or xs i 0))
spaced_on xs i h =
    rw (add-one, take-suc xs i 0, spaced-append)
    (ap (λ (z : List ℕ). spaced (take i xs) ++ (32 ∷ z)) (append-nil (decimal (get_or xs i 0))))

pub spaced-length : (xs : List ℕ) (i : ℕ) → i < length xs
    → length (spaced (take (i + 1) xs)) ≡ length (spaced (take i xs)) + length (32 ∷ decimal (get_or xs i 0))
spaced-length xs i h = ap length (spaced_on xs i h) ∙ length-append (spaced (take i xs)) _

module _ (name xs : List ℕ) where
  pub line-length : length (line_of name xs) ≡ length name + length (spaced xs) + 1
  unfolding line_of
  line-length = omega (arith, length-append name (spaced xs ++ (10 ∷ [])), length-append (spaced xs) (10 ∷ []))

  pub line-written : (k : ℕ) (old : List ℕ) {new : List ℕ} → k ≡ length name + length (spaced xs) → k < length old
      → new ≡ over (name ++ spaced xs) old → set new k 10 ≡ over (line_of name xs) old
  unfolding line_of
  line-written k old place room front =
      rw (front, place, ← length-append name (spaced xs))
      (over-one (name ++ spaced xs) old 10 (omega (arith, length-append name (spaced xs)))
      ∙ ap (λ (z : List ℕ). over z old) (append_assoc name (spaced xs) (10 ∷ [])))
