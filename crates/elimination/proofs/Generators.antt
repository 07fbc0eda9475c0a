-- The relations of the steps: the coefficients with which they add up to zero.
--   Relation                 ts is one
--   generators               the steps of the transposed system's answer
--   relation_generated, generated_relation   the relations are the combinations of the generators
--   generated_entry          an entry of such a combination
--   step_by_others           a relation with -1 at j writes step j by the others, and back
use mathlib.Core.Path.{◌≡◌, sym, ap₂, ◌∙◌, subst}
use mathlib.Core.Logic.{◌↔◌}
use mathlib.Core.List.{List, []}
use Prim.Native.Nat.{ℕ, ◌+◌, ◌*◌, ◌<◌}
use native.Mathlib.Omega.{arith}
use lib.ListN.{length, get_or, replicate, get_or-map}
use lib.Dec.{T}
use Rattle.residue.specs.Congruent.{Congruent}
use Rattle.residue.proofs.Congruent.{congruent_of_eq, congruent_refl, congruent_sym, congruent_trans, congruent_add, congruent_mul, congruent_cancel}
use Rattle.equations.specs.Lists.{without}
use Rattle.equations.specs.Vectors.{Vector, AllVectors, combination}
use Rattle.equations.specs.Equation.{Equation, dot, solves, homogeneous}
use Rattle.equations.specs.Answer.{steps_of}
use Rattle.equations.proofs.Combine.{vector_zeros}
use Rattle.equations.proofs.Without.{without-map, vectors_at, vectors-without, dot-without}
use Rattle.equations.proofs.Listed.{steps_vectors}
use Rattle.equations.proofs.Steps.{steps_in, steps_of_in}
use Rattle.equations.proofs.Writing.{combination-holds}
use Rattle.equations.proofs.Answer.{solutions_closed, level-written}
use Rattle.elimination.specs.Relations.{entries_at, relations}
use Rattle.elimination.proofs.Transposed.{entry_zeros, entry_combination, combination_entries, across-level, across-solves}

abbrev pub Relation : ℕ → ℕ → List (List ℕ) → List ℕ → Type 0
Relation m n ss ts = combination m (replicate n 0) ss ts ≡ replicate n 0

abbrev pub generators : ℕ → ℕ → List (List ℕ) → List (List ℕ)
generators m n ss = steps_of m (length ss) (relations n ss)

module _ (m n : ℕ) (ss : List (List ℕ)) (pos : 0 < m) (vs : AllVectors m n ss) where
  solves_relation : (ts : List ℕ) → T (solves m (homogeneous (relations n ss)) ts) ↔ Relation m n ss ts
  solves_relation ts =
      subst (λ (es : List Equation). T (solves m es ts) ↔ Relation m n ss ts) (sym (across-level 0 n ss))
      (across-solves m n pos ss vs (replicate n 0) (vector_zeros m n pos) ts)

  by_recursion : generators m n ss ≡ steps_in m (length ss) (solves m (homogeneous (relations n ss)))
  by_recursion = steps_of_in m (length ss) (relations n ss) pos

  pub relation_generated : (ts : List ℕ) → Vector m (length ss) ts → Relation m n ss ts
      → (us : List ℕ) × (combination m (replicate (length ss) 0) (generators m n ss) us ≡ ts)
  relation_generated ts vec is =
      let written = level-written m (length ss) (relations n ss) pos ts vec ((solves_relation ts).1 is) in (written.0, written.2)

  pub generated_relation : (us : List ℕ)
      → Vector m (length ss) (combination m (replicate (length ss) 0) (generators m n ss) us)
      × Relation m n ss (combination m (replicate (length ss) 0) (generators m n ss) us)
  generated_relation us =
      rw by_recursion (
      let member =
      combination-holds m (length ss) (solves m (homogeneous (relations n ss))) pos
      (solutions_closed m (length ss) (relations n ss)) us
      in
      (member.0, (solves_relation _).0 member.1)
      )

  pub generated_entry : (us : List ℕ) (j : ℕ)
      → Congruent m (get_or (combination m (replicate (length ss) 0) (generators m n ss) us) j 0) (dot (entries_at j (generators m n ss)) us)
  generated_entry us j =
      entry_combination m (length ss) pos (generators m n ss) (steps_vectors m (length ss) (relations n ss)) us j

-- ---- step j by the others

-- x is -1: a·x and D add up to 0 exactly if D is a
opposite_sum : {m : ℕ} (a x D : ℕ) → Congruent m (x + 1) 0 → Congruent m (a * x + D) 0 ↔ Congruent m D a
opposite_sum {m} a x D minus = (
  (λ h. congruent_cancel (a * x) (congruent_trans (congruent_of_eq (omega arith)) (congruent_trans h (congruent_sym gone)))),
  λ h. congruent_trans (congruent_of_eq (omega arith))
      (congruent_trans (congruent_add h (congruent_refl {a = a * x})) gone),
)
  where
    gone : Congruent m (a + a * x) 0
    gone =
        congruent_trans {b = a * (x + 1)} (congruent_of_eq (omega arith))
        (congruent_trans (congruent_mul (congruent_refl {a = a}) minus) (congruent_of_eq (omega arith)))

module _ (m n : ℕ) (ss : List (List ℕ)) (pos : 0 < m) (vs : AllVectors m n ss) (j : ℕ) (lt : j < length ss) where
  abbrev s : List ℕ
  s = get_or ss j []

  abbrev others : List (List ℕ)
  others = without j ss

  sum_split : (ts : List ℕ) (p : ℕ)
      → dot (entries_at p ss) ts ≡ get_or s p 0 * get_or ts j 0 + dot (entries_at p others) (without j ts)
  sum_split ts p =
      let entry : List ℕ → ℕ = λ z. get_or z p 0 in
      dot-without j (entries_at p ss) ts
      ∙ ap₂ (λ (a : ℕ) (zs : List ℕ). a * get_or ts j 0 + dot zs (without j ts)) (get_or-map entry ss j [])
      (sym (without-map entry j ss))

  pub step_by_others : (ts : List ℕ) → Congruent m (get_or ts j 0 + 1) 0
      → Relation m n ss ts ↔ (combination m (replicate n 0) (without j ss) (without j ts) ≡ get_or ss j [])
  step_by_others ts minus = (
    (λ h. written.1 (λ p. (turned p).0 (congruent_trans (congruent_of_eq (sym (sum_split ts p))) (relation.0 h p)))),
    λ h. relation.1 (λ p. congruent_trans (congruent_of_eq (sum_split ts p)) ((turned p).1 (written.0 h p))),
  )
    where
      relation : Relation m n ss ts ↔ ((p : ℕ) → Congruent m (dot (entries_at p ss) ts) 0)
      relation =
          let both = combination_entries m n pos ss vs (replicate n 0) (vector_zeros m n pos) ts in (
            (λ h p. congruent_trans (both.0 h p) (congruent_of_eq (entry_zeros n p))),
            λ each. both.1 (λ p. congruent_trans (each p) (congruent_of_eq (sym (entry_zeros n p)))),
          )

      written : (combination m (replicate n 0) others (without j ts) ≡ s)
          ↔ ((p : ℕ) → Congruent m (dot (entries_at p others) (without j ts)) (get_or s p 0))
      written =
          combination_entries m n pos others (vectors-without m n ss j vs) s (vectors_at m n ss j vs lt) (without j ts)

      turned : (p : ℕ)
          → Congruent m (get_or s p 0 * get_or ts j 0 + dot (entries_at p others) (without j ts)) 0
          ↔ Congruent m (dot (entries_at p others) (without j ts)) (get_or s p 0)
      turned p = opposite_sum (get_or s p 0) (get_or ts j 0) (dot (entries_at p others) (without j ts)) minus
