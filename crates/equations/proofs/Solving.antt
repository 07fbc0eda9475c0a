-- What it is to solve equations, said by congruences; and that solutions with right sides 0 may be combined.
--   solves_congruent    one equation: its sum is congruent to its right side
--   solves-all          a list of them: each one is
--   zero_right           an equation with its right side put to 0
--   combine-solves      combinations of solutions with right sides 0 are such solutions
--   zeros_solve         the zeros are one
--   sum-solves          a solution plus a multiple of one is a solution
--   difference-solves   what leads from one solution to another is one
use mathlib.Core.Path.{◌≡◌, refl, sym, subst}
use mathlib.Core.Logic.{◌⊎◌, inl, inr, ◌↔◌}
use mathlib.Core.List.Memᴰ
use mathlib.Core.List.{List, [], ◌∷◌, Memᴰ}
use Prim.Native.Nat.{ℕ, ◌+◌, ◌*◌, ◌%◌}
use native.Mathlib.Omega.{arith}
use lib.ListN.{length, replicate}
use lib.Dec.{T, eqb→eq}
use mir.Facts.{and_yes, yes_and, yes_eqb}
use Rattle.residue.specs.Congruent.{Congruent}
use Rattle.residue.proofs.Congruent.{congruent_of_eq, congruent_refl, congruent_sym, congruent_trans, congruent_add, congruent_linear, congruent_cancel}
use Rattle.equations.specs.Vectors.{combine}
use Rattle.equations.specs.Equation.{Equation, dot, solves_one, solves, homogeneous}
use Rattle.equations.proofs.Dot.{dot_zeros_right, dot-combine-right}

-- ---- as congruences

abbrev pub Solved : ℕ → Equation → List ℕ → Type 0
Solved m e v = Congruent m (dot e.coefficients v) e.right

pub solves_congruent : (m : ℕ) (e : Equation) (v : List ℕ) → T (solves_one m e v) ↔ Solved m e v
solves_congruent m e v = (
  (λ t. record { same = eqb→eq (dot e.coefficients v % m) (e.right % m) t }),
  λ c. yes_eqb c.same,
)

-- an equation in front of others
pub solves-cons : (m : ℕ) (e : Equation) (es : List Equation) (v : List ℕ) → T (solves m (e ∷ es) v)
    → Solved m e v × T (solves m es v)
solves-cons m e es v t =
    let b = and_yes (solves_one m e v) (solves m es v) t in ((solves_congruent m e v).0 b.0, b.1)

pub cons-solves : (m : ℕ) (e : Equation) (es : List Equation) (v : List ℕ) → Solved m e v → T (solves m es v)
    → T (solves m (e ∷ es) v)
cons-solves m e es v c = yes_and (solves_one m e v) (solves m es v) ((solves_congruent m e v).1 c)

pub solves-all : (m : ℕ) (es : List Equation) (v : List ℕ)
    → T (solves m es v) ↔ ((e : Equation) → Memᴰ e es → Solved m e v)
solves-all m [] v = ((λ t e i. absurd (Memᴰ.not-nil i)), λ f. tt)
solves-all m (f ∷ es) v = (
  (λ t e i. one e (solves-cons m f es v t) (Memᴰ.cases_cons i) (solves-all m es v)),
  λ each. cons-solves m f es v (each f (Memᴰ.head refl)) ((solves-all m es v).1 (λ e i. each e (Memᴰ.tail i))),
)
  where
    one : (e : Equation) → Solved m f v × T (solves m es v) → (e ≡ f) ⊎ Memᴰ e es
        → T (solves m es v) ↔ ((e : Equation) → Memᴰ e es → Solved m e v) → Solved m e v
    one e c (inl h) rest = subst (λ (e : Equation). Solved m e v) (sym h) c.0
    one e c (inr i) rest = rest.0 c.1 e i

-- ---- solutions combined

abbrev pub zero_right : Equation → Equation
zero_right e = record { coefficients = e.coefficients; right = 0 }

module _ (m s t : ℕ) (v w : List ℕ) (same : length v ≡ length w) where
  -- the sums at v and w tell the sum at a combination
  at_combine : (e : Equation) (a b c : ℕ) → Congruent m (dot e.coefficients v) a
      → Congruent m (dot e.coefficients w) b
      → Congruent m (s * a + t * b) c → Congruent m (dot e.coefficients (combine m s t v w)) c
  at_combine e a b c h g f =
      congruent_trans (dot-combine-right m s t e.coefficients v w same)
      (congruent_trans (congruent_linear s t h g) f)

  pub combine-solves : (es : List Equation) → T (solves m (homogeneous es) v) → T (solves m (homogeneous es) w)
      → T (solves m (homogeneous es) (combine m s t v w))
  combine-solves [] h g = tt
  combine-solves (e ∷ es) h g =
      let a = solves-cons m (zero_right e) (homogeneous es) v h in
      let b = solves-cons m (zero_right e) (homogeneous es) w g in
      cons-solves m (zero_right e) (homogeneous es) (combine m s t v w)
      (at_combine e 0 0 0 a.0 b.0 (congruent_of_eq (omega arith))) (combine-solves es a.1 b.1)

pub zeros_solve : (m n : ℕ) (es : List Equation) → T (solves m (homogeneous es) (replicate n 0))
zeros_solve m n [] = tt
zeros_solve m n (e ∷ es) =
    cons-solves m (zero_right e) (homogeneous es) (replicate n 0)
    (congruent_of_eq (dot_zeros_right e.coefficients n)) (zeros_solve m n es)

pub sum-solves : (m t : ℕ) (v w : List ℕ) → length v ≡ length w → (es : List Equation) → T (solves m es v)
    → T (solves m (homogeneous es) w) → T (solves m es (combine m 1 t v w))
sum-solves m t v w same [] h g = tt
sum-solves m t v w same (e ∷ es) h g =
    let a = solves-cons m e es v h in
    let b = solves-cons m (zero_right e) (homogeneous es) w g in
    cons-solves m e es (combine m 1 t v w)
    (at_combine m 1 t v w same e e.right 0 e.right a.0 b.0 (congruent_of_eq (omega arith)))
    (sum-solves m t v w same es a.1 b.1)

pub difference-solves : (m : ℕ) (v w : List ℕ) → length v ≡ length w → (es : List Equation) → T (solves m es v)
    → T (solves m es (combine m 1 1 v w)) → T (solves m (homogeneous es) w)
difference-solves m v w same [] h g = tt
difference-solves m v w same (e ∷ es) h g =
    let a = solves-cons m e es v h in
    let b = solves-cons m e es (combine m 1 1 v w) g in
    cons-solves m (zero_right e) (homogeneous es) w
    (congruent_cancel e.right
    (congruent_trans (congruent_add (congruent_refl {a = dot e.coefficients w}) (congruent_sym a.0))
    (congruent_trans (congruent_of_eq (omega arith))
    (congruent_trans (congruent_sym (dot-combine-right m 1 1 e.coefficients v w same))
    (congruent_trans b.0 (congruent_of_eq (omega arith)))))))
    (difference-solves m v w same es a.1 b.1)
