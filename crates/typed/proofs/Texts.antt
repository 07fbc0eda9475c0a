-- What stands in front of a text and behind it.
--   first-next, rest-tail, past_first   the first byte, and what stands behind it, as code takes them
--   inside, sign-inside        a text in front of which a byte stands
--   zero-front, other_front    a zero in front of digits
use Rattle.std.proofs.Common.{◌≡◌, Bool, true, false, ℕ, suc, ◌-◌, ◌≤◌, ◌<◌, List, [], ◌∷◌, length, take, drop, leb, get_or, refl, ap, ◌∙◌, arith}
use mathlib.Core.Bool.{false≢true}
use Rattle.std.proofs.Math.Seq.{take-length}
use borrow.Author.Tests.{leb-true, ne_eqb}
use Rattle.grammar.specs.Grammar.{zero_in_front}
use Rattle.grammar.specs.Model.Reader.{next, tail, skip, is_digit, digits, is_sign}
use Rattle.grammar.proofs.Tests.{both_left}

-- the first byte, as code tells it
pub first-next : (s : List ℕ) → next s ≡ get_or s 0 0
first-next [] = refl
first-next (c ∷ s) = refl

-- a text without its first byte, as code takes it
pub rest-tail : (s : List ℕ) → take (length s - 1) (drop 1 s) ≡ tail s
rest-tail [] = refl
rest-tail (c ∷ s) = let n : suc (length s) - 1 ≡ length s = omega arith in rw n (take-length s)

length-tail : (s : List ℕ) → length (tail s) ≡ length s - 1
length-tail [] = refl
length-tail (c ∷ s) = omega arith

-- what stands behind the first byte
pub past_first : (s v : List ℕ) → 1 ≤ length s → length v ≤ length (take (length s - 1) (drop 1 s))
    → v ≡ skip (take (length s - 1) (drop 1 s)) → (v ≡ skip (tail s)) × (length v < length s)
past_first s v some left e = (e ∙ ap skip (rest-tail s), omega (arith, ap length (rest-tail s), length-tail s))

-- where a byte other than 0 stands in front, the text is not empty
pub inside : (s : List ℕ) (c : ℕ) → next s ≡ suc c → 0 < length s
inside [] c e = absurd (omega arith)
inside (x ∷ s) c e = omega arith

pub sign-inside : (s : List ℕ) → is_sign (next s) ≡ true → 0 < length s
sign-inside [] e = absurd (false≢true e)
sign-inside (x ∷ s) e = omega arith

pub zero-front : (s : List ℕ) → next s ≡ 48 → zero_in_front (digits s) ≡ true
zero-front [] e = absurd (omega arith)
zero-front (c ∷ s) e = rw e

pub other_front : (s : List ℕ) → (next s ≡ 48 → ⊥) → zero_in_front (digits s) ≡ false
other_front [] e = refl
other_front (c ∷ s) e = by (is_digit c) refl
  where
    by : (b : Bool) → is_digit c ≡ b → zero_in_front (digits (c ∷ s)) ≡ false
    by true p =
        let low : 48 ≤ c = leb-true 48 c (both_left (leb 48 c) (leb c 57) p) in
        rw p (ne_eqb (c - 48) 0 (λ z. e (omega arith)))
    by false p = rw p
