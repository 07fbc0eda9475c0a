-- A first step's range and multiples, and steps behind a 0.
--   leading_head, range_head              the range of a first step d ∷ r is m / d
--   multiple_below, within_of_multiple    t is within it exactly when t·d is a residue
--   within-map, within_unmap              a 0 in front of the steps changes no range
--   spanned, spanned_map                  combinations of steps alone; a 0 in front of the steps stays 0
--   take_step                             a member less its multiple of the step has head 0
use mathlib.Core.Path.{◌≡◌, refl, ap, ◌∙◌, subst}
use mathlib.Core.List.{List, [], ◌∷◌, map}
use mathlib.Core.Bool.{Bool}
use Prim.Native.Nat.{ℕ, zero, suc, ◌+◌, ◌*◌, ◌/◌, ◌%◌, ◌<◌}
use native.Mathlib.Nat.{zero-mod, div-eq_of_eq-mul_right, lt_of_mul-lt-mul_left, mul-lt-mul_of_pos_left}
use native.Mathlib.Omega.{arith}
use lib.ListN.{replicate}
use lib.Dec.{T}
use Rattle.residue.specs.Congruent.{Congruent}
use Rattle.residue.proofs.Congruent.{congruent_of_eq, congruent_trans, remainder_of_congruent, congruent_absorb}
use Rattle.equations.specs.Vectors.{Vector, combine, combination}
use Rattle.equations.specs.Answer.{leading, range_of}
use Rattle.equations.specs.Promises.{Within}
use Rattle.equations.proofs.Closed.{Closed, HeadStep}
use Rattle.equations.proofs.Steps.{zero_first}

pub leading_head : (d : ℕ) (r : List ℕ) → 0 < d → leading (d ∷ r) ≡ d
leading_head zero r pos = absurd (omega arith)
leading_head (suc d) r pos = refl

pub range_head : {m n : ℕ} {p : List ℕ → Bool} {d : ℕ} {r : List ℕ} (s : HeadStep m n p d r)
    → range_of m (d ∷ r) ≡ s.modulus.quotient
range_head {m} {d = d} {r = r} s =
    ap (λ (z : ℕ). m / z) (leading_head d r s.positive)
    ∙ div-eq_of_eq-mul_right s.positive s.modulus.eq

-- a coefficient is within the range of d ∷ r exactly when its multiple of d is a residue
pub multiple_below : {m n : ℕ} {p : List ℕ → Bool} {d : ℕ} {r : List ℕ} (s : HeadStep m n p d r) (t : ℕ)
    → t < range_of m (d ∷ r) → d * t < m
multiple_below {m} {d = d} s t lt =
    let l : t < s.modulus.quotient = rw (range_head s) at lt in
    let k : d * t < d * s.modulus.quotient = mul-lt-mul_of_pos_left l s.positive in
    omega (arith, s.modulus.eq)

pub within_of_multiple : {m n : ℕ} {p : List ℕ → Bool} {d : ℕ} {r : List ℕ} (s : HeadStep m n p d r) (t : ℕ)
    → d * t < m → t < range_of m (d ∷ r)
within_of_multiple {m} {d = d} s t lt =
    let k : d * t < d * s.modulus.quotient = omega (arith, s.modulus.eq) in
    rw (range_head s) (lt_of_mul-lt-mul_left d k)

pub within-map : (m : ℕ) (ss : List (List ℕ)) (ts : List ℕ) → Within m ss ts → Within m (map zero_first ss) ts
within-map m [] [] w = tt
within-map m [] (t ∷ ts) w = w
within-map m (s ∷ ss) [] w = w
within-map m (s ∷ ss) (t ∷ ts) w = (w.0, within-map m ss ts w.1)

pub within_unmap : (m : ℕ) (ss : List (List ℕ)) (ts : List ℕ) → Within m (map zero_first ss) ts → Within m ss ts
within_unmap m [] [] w = tt
within_unmap m [] (t ∷ ts) w = w
within_unmap m (s ∷ ss) [] w = w
within_unmap m (s ∷ ss) (t ∷ ts) w = (w.0, within_unmap m ss ts w.1)

-- a combination of steps alone, from the zeros
abbrev pub spanned : ℕ → ℕ → List (List ℕ) → List ℕ → List ℕ
spanned m n ss ts = combination m (replicate n 0) ss ts

pub spanned_map : (m n : ℕ) (ss : List (List ℕ)) (ts : List ℕ)
    → spanned m (suc n) (map zero_first ss) ts ≡ 0 ∷ spanned m n ss ts
spanned_map m n [] ts = refl
spanned_map m n (s ∷ ss) [] = refl
spanned_map m n (s ∷ ss) (t ∷ ts) =
    ap (λ (z : List ℕ). combine m 1 t z (0 ∷ s)) (spanned_map m n ss ts)
    ∙ ap (λ (z : ℕ). z ∷ combine m 1 t (spanned m n ss ts) s) (ap (λ (z : ℕ). z % m) (omega arith) ∙ zero-mod m)

-- a member less its multiple of the step: the head is gone
pub take_step : (m n : ℕ) (p : List ℕ → Bool) → 0 < m → Closed m (suc n) p
    → {d : ℕ} {r : List ℕ} (s : HeadStep m n p d r)
    → (q k x : ℕ) (w : List ℕ) → Congruent m (q + k) 0 → x ≡ d * q → x < m → Vector m n w → T (p (x ∷ w))
    → T (p (0 ∷ combine m 1 k w r))
take_step m n p pos closed {d} {r} s q k x w opposite e lt vec t =
    subst (λ (z : ℕ). T (p (z ∷ combine m 1 k w r))) (remainder_of_congruent gone)
    (closed.combined 1 k (x ∷ w) (d ∷ r) (lt, vec) (s.below, s.rest) t s.holds)
  where
    gone : Congruent m (1 * x + k * d) 0
    gone =
        congruent_trans {b = 0 + (q + k) * d} (congruent_of_eq (omega arith)) (congruent_absorb 0 d opposite)
