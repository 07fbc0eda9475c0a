-- Combinations of steps, told by their entries; and the transposed system, whose solutions are the coefficients of a combination.
--   entry_combine          an entry of a combination of two lines is the combination of their entries, mod m
--   entry_combination      that of a combination of steps is the sum of coefficient times entry
--   entry_zeros            an entry of zeros is 0
--   same_entries           vectors with the same entries mod m are equal
--   combination_entries    a combination is w: at each place that sum is the entry of w
--   length-across          the transposed equations are one for each place,
--   across-shaped          with an unknown for each step
--   across-level           those for zero have right sides 0
--   across-solves          their solutions are the coefficients with which the steps add up to w
use mathlib.Core.Path.{◌≡◌, refl, sym, ap, ap₂, ◌∙◌}
use mathlib.Core.Logic.{◌↔◌}
use mathlib.Core.List.{List, [], ◌∷◌, head-eq_of_cons-eq, tail-eq_of_cons-eq}
use Prim.Native.Nat.{ℕ, zero, suc, ◌+◌, ◌*◌, ◌<◌}
use native.Mathlib.Nat.{suc_inj}
use native.Mathlib.Omega.{arith}
use lib.ListN.{length, get_or, drop, replicate, length-map, drop_of_length-le}
use lib.Seq.{drop-cons}
use lib.Dec.{T}
use Rattle.residue.specs.Congruent.{Congruent}
use Rattle.residue.proofs.Congruent.{congruent_of_eq, congruent_refl, congruent_sym, congruent_trans, congruent_linear, congruent_mod, congruent_small}
use Rattle.equations.specs.Vectors.{Vector, AllVectors, Below, combine, combination}
use Rattle.equations.specs.Equation.{Equation, dot, solves, homogeneous, Shaped}
use Rattle.equations.proofs.Combine.{vector_zeros}
use Rattle.equations.proofs.Vectors.{vector-below, vector-same-length, below_at}
use Rattle.equations.proofs.Listed.{vector-combination}
use Rattle.equations.proofs.Solving.{solves-cons, cons-solves}
use Rattle.elimination.specs.Relations.{entries_at, across}

-- ---- entries

pub entry_combine : (m s t : ℕ) (v w : List ℕ) → length v ≡ length w → (p : ℕ)
    → Congruent m (get_or (combine m s t v w) p 0) (s * get_or v p 0 + t * get_or w p 0)
entry_combine m s t [] [] h p = congruent_of_eq (omega arith)
entry_combine m s t [] (y ∷ w) h p = absurd (omega arith)
entry_combine m s t (x ∷ v) [] h p = absurd (omega arith)
entry_combine m s t (x ∷ v) (y ∷ w) h zero = congruent_mod m (s * x + t * y)
entry_combine m s t (x ∷ v) (y ∷ w) h (suc p) = entry_combine m s t v w (suc_inj h) p

pub entry_zeros : (n p : ℕ) → get_or {A = ℕ} (replicate n 0) p 0 ≡ 0
entry_zeros zero p = refl
entry_zeros (suc n) zero = refl
entry_zeros (suc n) (suc p) = entry_zeros n p

pub same_entries : (m n : ℕ) (v w : List ℕ) → Vector m n v → Vector m n w
    → ((p : ℕ) → Congruent m (get_or v p 0) (get_or w p 0)) → v ≡ w
same_entries m zero [] [] a b same = refl
same_entries m zero [] (y ∷ w) a b same = absurd b
same_entries m zero (x ∷ v) w a b same = absurd a
same_entries m (suc n) [] w a b same = absurd a
same_entries m (suc n) (x ∷ v) [] a b same = absurd b
same_entries m (suc n) (x ∷ v) (y ∷ w) a b same =
    ap₂ ◌∷◌ (congruent_small a.0 b.0 (same 0)) (same_entries m n v w a.1 b.1 (λ p. same (suc p)))

module _ (m n : ℕ) (pos : 0 < m) where
  combined : (ss : List (List ℕ)) → AllVectors m n ss → (ts : List ℕ) → Vector m n (combination m (replicate n 0) ss ts)
  combined = vector-combination m n pos (replicate n 0) (vector_zeros m n pos)

  pub entry_combination : (ss : List (List ℕ)) → AllVectors m n ss → (ts : List ℕ) (p : ℕ)
      → Congruent m (get_or (combination m (replicate n 0) ss ts) p 0) (dot (entries_at p ss) ts)
  entry_combination [] vs ts p = congruent_of_eq (entry_zeros n p)
  entry_combination (s ∷ ss) vs [] p = congruent_of_eq (entry_zeros n p)
  entry_combination (s ∷ ss) vs (t ∷ ts) p =
      let v = combination m (replicate n 0) ss ts in
      congruent_trans (entry_combine m 1 t v s (vector-same-length m n v s (combined ss vs.1 ts) vs.0) p)
      (congruent_trans (congruent_linear 1 t (entry_combination ss vs.1 ts p) congruent_refl)
      (congruent_of_eq (omega arith)))

  module _ (ss : List (List ℕ)) (vs : AllVectors m n ss) (w : List ℕ) (vec : Vector m n w) (ts : List ℕ) where
    pub combination_entries : (combination m (replicate n 0) ss ts ≡ w)
        ↔ ((p : ℕ) → Congruent m (dot (entries_at p ss) ts) (get_or w p 0))
    combination_entries = (
      (λ is p. congruent_trans (congruent_sym (entry_combination ss vs ts p))
          (congruent_of_eq (ap (λ (v : List ℕ). get_or v p 0) is))),
      λ each. same_entries m n (combination m (replicate n 0) ss ts) w (combined ss vs ts) vec
          (λ p. congruent_trans (entry_combination ss vs ts p) (each p)),
    )

-- ---- the transposed system

pub length-across : (p : ℕ) (ss : List (List ℕ)) (w : List ℕ) → length (across p ss w) ≡ length w
length-across p ss [] = refl
length-across p ss (x ∷ w) = ap suc (length-across (suc p) ss w)

pub across-shaped : (p : ℕ) (ss : List (List ℕ)) (w : List ℕ) → Shaped (length ss) (across p ss w)
across-shaped p ss [] = tt
across-shaped p ss (x ∷ w) = (length-map ss (λ (s : List ℕ). get_or s p 0), across-shaped (suc p) ss w)

pub across-level : (p n : ℕ) (ss : List (List ℕ)) → homogeneous (across p ss (replicate n 0)) ≡ across p ss (replicate n 0)
across-level p zero ss = refl
across-level p (suc n) ss =
    ap {B = List Equation} (◌∷◌ (record { coefficients = entries_at p ss; right = 0 })) (across-level (suc p) n ss)

-- from place p on: v has the sums as its entries, mod m
module _ (m : ℕ) (ss : List (List ℕ)) (ts v : List ℕ) (below : Below m v)
    (entries : (p : ℕ) → Congruent m (get_or v p 0) (dot (entries_at p ss) ts)) where
  across-from : (p : ℕ) (w : List ℕ) → Below m w → p + length w ≡ length v
      → T (solves m (across p ss w) ts) ↔ (drop p v ≡ w)
  across-from p [] small e = ((λ t. drop_of_length-le v {i = p} (omega arith)), λ h. tt)
  across-from p (x ∷ w) small e = (
    (λ t.
        let both = solves-cons m equation (across (suc p) ss w) ts t in
        front
        ∙ ap₂ ◌∷◌ (congruent_small (below_at m p v below (omega arith)) small.0 (congruent_trans (entries p) both.0))
        ((across-from (suc p) w small.1 (omega arith)).0 both.1)),
    λ h. cons-solves m equation (across (suc p) ss w) ts
        (congruent_trans (congruent_sym (entries p)) (congruent_of_eq (head-eq_of_cons-eq (sym front ∙ h))))
        ((across-from (suc p) w small.1 (omega arith)).1 (tail-eq_of_cons-eq (sym front ∙ h))),
  )
    where
      equation : Equation
      equation = record { coefficients = entries_at p ss; right = x }

      front : drop p v ≡ get_or v p 0 ∷ drop (suc p) v
      front = drop-cons v p 0 (omega arith)

pub across-solves : (m n : ℕ) → 0 < m → (ss : List (List ℕ)) → AllVectors m n ss → (w : List ℕ) → Vector m n w → (ts : List ℕ)
    → T (solves m (across 0 ss w) ts) ↔ (combination m (replicate n 0) ss ts ≡ w)
across-solves m n pos ss vs w vec ts =
    let v = combination m (replicate n 0) ss ts in
    let is = combined m n pos ss vs ts in
    across-from m ss ts v (vector-below m n v is) (entry_combination m n pos ss vs ts) 0 w (vector-below m n w vec)
    (omega (arith, vector-same-length m n v w is vec))
