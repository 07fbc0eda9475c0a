-- A turn of the loop over lines, whose moduli and numbers are left from it on.
--   turn_fits   the first line fits, and the others do
--   turn_left   which lie whole behind it
--   turns_end, turns_over   no line is left
use mathlib.Core.Path.{◌≡◌, refl, ap, ◌∙◌}
use mathlib.Core.Bool.{true, ◌&&◌}
use mathlib.Core.List.{List, [], ◌∷◌, ◌++◌}
use Prim.Native.Nat.{ℕ, zero, suc, ◌+◌, ◌*◌, ◌/◌, ◌<◌}
use native.Mathlib.Omega.{arith}
use lib.ListN.{length, length-append}
use lib.Seq.{take_at, drop_at}
use Rattle.questions.specs.Questions.{allowed_own}
use Rattle.equations.specs.Lines.{equations_of}
use Rattle.lines.specs.Stored.{multiples, all_fit}
use Rattle.lines.proofs.Stored.{fit-step}

module _ (n q : ℕ) (qs : List ℕ) (line rest : List ℕ) {numbers : List ℕ} (is : numbers ≡ line ++ rest) (long : length line ≡ n + 1) where
  pub turn_fits : (m : ℕ)
      → all_fit m (q ∷ qs) (equations_of n numbers) ≡ ((allowed_own m q && multiples (m / q) line) && all_fit m qs (equations_of n rest))
  turn_fits m =
      ap (λ (s : List ℕ). all_fit m (q ∷ qs) (equations_of n s)) is
      ∙ fit-step m n q qs (line ++ rest) (omega (arith, length-append line rest, long))
      ∙ rw (take_at line rest (n + 1) long, drop_at line rest (n + 1) long)

  pub turn_left : length numbers ≡ length (q ∷ qs) * (n + 1) → length rest ≡ length qs * (n + 1)
  turn_left whole = omega (arith, whole, ap length is, length-append line rest, long)

pub turns_end : (m n : ℕ) (qs numbers : List ℕ) → length qs ≡ 0 → all_fit m qs (equations_of n numbers) ≡ true
turns_end m n [] numbers none = refl
turns_end m n (q ∷ qs) numbers none = absurd (omega arith)

-- where less than one is left, none is
pub turns_over : (c width : ℕ) → c * width < width → c ≡ 0
turns_over zero width less = refl
turns_over (suc c) width less = absurd (omega arith)
