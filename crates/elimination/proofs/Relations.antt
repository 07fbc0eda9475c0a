-- A step is superfluous exactly where m and the entries of the relations' generators have no common divisor but 1. If the others add up to
-- step j, their coefficients with -1 at j are a relation, so -1 is, mod m, a sum of multiples of the generators' entries at j. And if it
-- is such a sum, the combination of the generators is a relation with -1 at j, which writes step j by the others.
--   superfluous-relations    the theorem
--   superfluous-place        hence the first superfluous step is the first such place
use mathlib.Core.Path.{◌≡◌, ap, ◌∙◌, subst}
use mathlib.Core.List.{List}
use Prim.Native.Nat.{ℕ, suc, ◌+◌, ◌-◌, ◌%◌, ◌<◌}
use native.Mathlib.Nat.{mod-lt}
use native.Mathlib.Omega.{arith}
use lib.ListN.{length, get_or, replicate}
use lib.Dec.{eqb→eq}
use mir.Facts.{yes_eqb}
use Rattle.residue.specs.Congruent.{Congruent}
use Rattle.residue.specs.Negative.{negative}
use Rattle.residue.proofs.Congruent.{congruent_of_eq, congruent_refl, congruent_sym, congruent_trans, congruent_add, congruent_mod}
use Rattle.residue.proofs.Negative.{negative_opposite}
use Rattle.equations.specs.Lists.{without}
use Rattle.equations.specs.Vectors.{Vector, AllVectors, combination}
use Rattle.equations.specs.Equation.{dot}
use Rattle.equations.specs.Answer.{steps_of}
use Rattle.equations.specs.Marks.{superfluous, place_from, superfluous_at, SuperfluousStep}
use Rattle.equations.proofs.Truth.{same_of_both}
use Rattle.equations.proofs.Vectors.{vector-length}
use Rattle.equations.proofs.Without.{without-length, vector-without, placed, placed_at, placed_without, vector_placed}
use Rattle.equations.proofs.Superfluous.{superfluous_exists, place_cong}
use Rattle.elimination.specs.Relations.{entries_at, relations, divisor_with, coprime_at}
use Rattle.elimination.proofs.Divisor.{divisor_one}
use Rattle.elimination.proofs.Generators.{Relation, generators, relation_generated, generated_relation, generated_entry, step_by_others}

module _ (m n : ℕ) (ss : List (List ℕ)) (pos : 0 < m) (vs : AllVectors m n ss) (j : ℕ) (lt : j < length ss) where
  abbrev entries : List ℕ
  entries = entries_at j (generators m n ss)

  -- -1 is a sum of multiples of the entries
  abbrev Minus : Type 0
  Minus = (us : List ℕ) × Congruent m (dot entries us + 1) 0

  minus_of : SuperfluousStep m n ss j → Minus
  minus_of (us, vec, is) = (
    made.0,
    congruent_trans
        (congruent_add (congruent_trans (congruent_sym (generated_entry m n ss pos vs made.0 j))
        (congruent_of_eq (ap (λ (v : List ℕ). get_or v j 0) made.1))) congruent_refl)
        minus,
  )
    where
      x : ℕ
      x = negative m 1 % m

      few : length us ≡ length ss - 1
      few = vector-length m (length (without j ss)) us vec ∙ without-length j ss lt

      ts : List ℕ
      ts = placed j x us

      minus : Congruent m (get_or ts j 0 + 1) 0
      minus =
          congruent_trans (congruent_add (congruent_of_eq (placed_at x j us 0 (omega (arith, few)))) congruent_refl)
          (congruent_trans (congruent_add (congruent_mod m (negative m 1)) congruent_refl) (negative_opposite m 1 pos))

      vector : Vector m (length ss) ts
      vector =
          let one_more : suc (length (without j ss)) ≡ length ss = omega (arith, without-length j ss lt) in
          subst (λ (k : ℕ). Vector m k ts) one_more
          (vector_placed m (length (without j ss)) us j x (omega arith) (mod-lt (negative m 1) pos) vec)

      relation : Relation m n ss ts
      relation =
          (step_by_others m n ss pos vs j lt ts minus).1
          (ap (combination m (replicate n 0) (without j ss)) (placed_without x j us (omega (arith, few))) ∙ is)

      made : (us : List ℕ) × (combination m (replicate (length ss) 0) (generators m n ss) us ≡ ts)
      made = relation_generated m n ss pos vs ts vector relation

  of_minus : Minus → SuperfluousStep m n ss j
  of_minus (us, minus) =
      let ts = combination m (replicate (length ss) 0) (generators m n ss) us in
      let made = generated_relation m n ss pos vs us in (
        without j ts,
        rw (without-length j ss lt) (vector-without m (length ss) ts j lt made.0),
        (step_by_others m n ss pos vs j lt ts
            (congruent_trans (congruent_add (generated_entry m n ss pos vs us j) congruent_refl) minus)).0 made.1,
      )

pub superfluous-relations : (m n : ℕ) (ss : List (List ℕ)) → 0 < m → AllVectors m n ss → (j : ℕ) → j < length ss
    → superfluous m n ss j ≡ coprime_at m (steps_of m (length ss) (relations n ss)) j
superfluous-relations m n ss pos vs j lt =
    let xs = entries_at j (generators m n ss) in
    same_of_both (superfluous m n ss j) (coprime_at m (generators m n ss) j)
    (λ t. yes_eqb ((divisor_one m pos xs).1 (minus_of m n ss pos vs j lt ((superfluous_exists m n ss j).0 t))))
    (λ t. (superfluous_exists m n ss j).1
    (of_minus m n ss pos vs j lt ((divisor_one m pos xs).0 (eqb→eq (divisor_with m xs) 1 t))))

pub superfluous-place : (m n : ℕ) (ss : List (List ℕ)) → 0 < m → AllVectors m n ss
    → superfluous_at m n ss ≡ place_from (coprime_at m (steps_of m (length ss) (relations n ss))) 0 (length ss)
unfolding superfluous_at
superfluous-place m n ss pos vs =
    place_cong (superfluous m n ss) (coprime_at m (generators m n ss)) 0 (length ss)
    (λ i le lt. superfluous-relations m n ss pos vs i (omega arith))
