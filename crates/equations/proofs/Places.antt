-- A step's entry at its place divides m, so its coefficient has a range.
--   step_entry       for the step at place j: its first entry that is not 0 stands there, and divides m
--   range_positive   the range has at least one number
use mathlib.Core.Path.{◌≡◌, ◌∙◌, sym, subst}
use mathlib.Core.List.{List, [], ◌∷◌}
use mathlib.Core.Option.{Option, some, map-eq-some_iff, some-injective, none-ne-some}
use mathlib.Core.Bool.{Bool, false}
use Prim.Native.Nat.{ℕ, zero, suc, ◌/◌, ◌≤◌, ◌<◌}
use native.Mathlib.Nat.{le-div_iff_mul-le}
use native.Mathlib.Omega.{arith}
use lib.ListN.{get_or}
use lib.Dec.{T}
use mir.Facts.{and_yes}
use Rattle.residue.specs.Divides.{Divides}
use Rattle.residue.proofs.Divides.{factor_positive, divides_le}
use Rattle.equations.specs.Lists.{first}
use Rattle.equations.specs.Vectors.{Vector, vectors}
use Rattle.equations.specs.Equation.{Equation, solves, homogeneous}
use Rattle.equations.specs.Answer.{leading, range_of, step_at}
use Rattle.equations.proofs.Search.{first_holds}
use Rattle.equations.proofs.Closed.{Closed, closed_rest, Head, stepped, unstepped, head_of}
use Rattle.equations.proofs.Steps.{step_test, zero_first, step_shift}
use Rattle.equations.proofs.Ranges.{leading_head}
use Rattle.equations.proofs.Answer.{solutions_closed}

abbrev Entry : ℕ → ℕ → List ℕ → Type 0
Entry m j s = (leading s ≡ get_or s j 0) × Divides (get_or s j 0) m

entry_head : {m n : ℕ} {p : List ℕ → Bool} {o : Option (List ℕ)} → Head m n p o → (s : List ℕ) → o ≡ some s
    → Entry m 0 s
entry_head {m} (stepped d r st) s h =
    subst (Entry m 0) (some-injective (d ∷ r) s h) (leading_head d r st.positive, st.modulus)
entry_head (unstepped f) s h = absurd (none-ne-some s h)

entry_in : (m n j : ℕ) (p : List ℕ → Bool) → 0 < m → Closed m n p → (s : List ℕ)
    → first (step_test p j) (vectors m n) ≡ some s → Entry m j s
entry_in m zero j p pos closed s h = absurd (nothing s (first_holds m zero (step_test p j) s h))
  where
    nothing : (s : List ℕ) → Vector m zero s × T (step_test p j s) → ⊥
    nothing [] t = (and_yes (p []) false t.1).1
    nothing (x ∷ s) t = t.0
entry_in m (suc n) zero p pos closed s h = entry_head (head_of m n p pos closed) s h
entry_in m (suc n) (suc j) p pos closed s h =
    let found = first (step_test (λ v. p (0 ∷ v)) j) (vectors m n) in
    let shifted = (map-eq-some_iff zero_first found).0 (sym (step_shift m n j p pos) ∙ h) in
    subst (Entry m (suc j)) shifted.2
    (entry_in m n j (λ v. p (0 ∷ v)) pos (closed_rest m n p pos closed) shifted.0 shifted.1)

pub step_entry : (m n j : ℕ) (es : List Equation) (s : List ℕ) → 0 < m → step_at m n es j ≡ some s
    → (leading s ≡ get_or s j 0) × Divides (get_or s j 0) m
unfolding step_at
step_entry m n j es s pos h = entry_in m n j (solves m (homogeneous es)) pos (solutions_closed m n es) s h

pub range_positive : (m n j : ℕ) (es : List Equation) (s : List ℕ) → 0 < m → step_at m n es j ≡ some s → 1 ≤ range_of m s
range_positive m n j es s pos h = go (leading s) (subst (λ (d : ℕ). Divides d m) (sym entry.0) entry.1)
  where
    entry : Entry m j s
    entry = step_entry m n j es s pos h

    go : (d : ℕ) → Divides d m → 1 ≤ m / d
    go d h =
        (le-div_iff_mul-le (factor_positive m d h.quotient h.eq pos)).1 (omega (arith, divides_le pos h))
