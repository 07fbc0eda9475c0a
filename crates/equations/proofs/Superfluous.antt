-- Superfluous steps: in the field's words, those that lie in the span of the others.
--   Place, place_found    the place that is found passes, and none before it does
--   place_none            where none is found, none passes
--   place_cong            tests with the same outcomes find the same place
--   superfluous_exists    the test says that the step is a combination of the others, for some coefficients
--   first-superfluous     what the number of the first superfluous step says
--   has_superfluous       a claim with such a number has one
--   none-superfluous      a claim with the number 0 has none
--   combination_zeros     with coefficients 0, vectors add up to zero
--   zero-step             "The zero vector as a step is always superfluous."
use mathlib.Core.Path.{◌≡◌, refl, sym, ap, ◌∙◌, subst}
use mathlib.Core.Logic.{◌↔◌, ◌⊎◌, inl, inr}
use mathlib.Core.List.{List, [], ◌∷◌}
use mathlib.Core.Bool.{Bool, true, false}
use Prim.Native.Nat.{ℕ, zero, suc, ◌+◌, ◌≤◌, ◌<◌}
use native.Mathlib.Nat.{eq-or-lt_of_le}
use native.Mathlib.Omega.{arith}
use lib.ListN.{length, get_or, replicate}
use lib.Dec.{T}
use Rattle.equations.specs.Lists.{without}
use Rattle.equations.specs.Vectors.{AllVectors, combine, combination}
use Rattle.equations.specs.Claim.{Claim, no_solution, from}
use Rattle.equations.specs.Marks.{superfluous, place_from, superfluous_at, superfluous_in, SuperfluousStep, HasSuperfluous, FirstSuperfluous}
use Rattle.equations.proofs.Truth.{of_true, of_false, true_or_false}
use Rattle.equations.proofs.Combine.{vector_zeros, combine-none}
use Rattle.equations.proofs.Without.{vectors-without}
use Rattle.equations.proofs.Claim.{describes_exists}

-- ---- the first place

-- l is the first of the k places from j on that passes
pub record Place (p : ℕ → Bool) (j k l : ℕ) : Type 0 where
  pub from_j : j ≤ l
  pub below : l < j + k
  pub holds : T (p l)
  pub least : (i : ℕ) → j ≤ i → i < l → T (p i) → ⊥

module _ (p : ℕ → Bool) where
  -- place j does not pass; of the places behind it, it is known
  at_or_behind : (j i : ℕ) → j ≤ i → (p j ≡ false) → (suc j ≤ i → T (p i) → ⊥) → T (p i) → ⊥
  at_or_behind j i le f behind t = go (eq-or-lt_of_le le)
    where
      go : (j ≡ i) ⊎ (j < i) → ⊥
      go (inl e) = of_false (ap p (sym e) ∙ f) t
      go (inr lt) = behind (omega arith) t

  pub place_none : (j k : ℕ) → place_from p j k ≡ 0 → (i : ℕ) → j ≤ i → i < j + k → T (p i) → ⊥
  place_none j zero h i le lt t = absurd (omega arith)
  place_none j (suc k) h i le lt t =
      go (true_or_false (p j)) (λ rest le'. place_none (suc j) k rest i le' (omega arith))
    where
      go : (p j ≡ true) ⊎ (p j ≡ false) → (place_from p (suc j) k ≡ 0 → suc j ≤ i → T (p i) → ⊥) → ⊥
      go (inl e) behind = let z : suc j ≡ 0 = rw e at h in omega arith
      go (inr e) behind = at_or_behind j i le e (behind (rw e at h)) t

  pub place_found : (j k l : ℕ) → place_from p j k ≡ suc l → Place p j k l
  place_found j zero l h = absurd (omega arith)
  place_found j (suc k) l h = go (true_or_false (p j)) (place_found (suc j) k l)
    where
      here : p j ≡ true → j ≡ l → Place p j (suc k) l
      here e same =
          subst (Place p j (suc k)) same
          (record {
            from_j = omega arith;
            below = omega arith;
            holds = of_true e;
            least = λ i le lt. absurd (omega arith);
          })

      behind : p j ≡ false → Place p (suc j) k l → Place p j (suc k) l
      behind e f = record {
        from_j = omega (arith, f.from_j);
        below = omega (arith, f.below);
        holds = f.holds;
        least = λ i le lt. at_or_behind j i le e (λ le'. f.least i le' lt);
      }

      go : (p j ≡ true) ⊎ (p j ≡ false) → (place_from p (suc j) k ≡ suc l → Place p (suc j) k l) → Place p j (suc k) l
      go (inl e) rest = let z : suc j ≡ suc l = rw e at h in here e (omega arith)
      go (inr e) rest = behind e (rest (rw e at h))

pub place_cong : (p q : ℕ → Bool) (j k : ℕ) → ((i : ℕ) → j ≤ i → i < j + k → p i ≡ q i)
    → place_from p j k ≡ place_from q j k
place_cong p q j zero same = refl
place_cong p q j (suc k) same =
    rw (same j (omega arith) (omega arith), place_cong p q (suc j) k (λ i le lt. same i (omega arith) (omega arith)))

-- ---- superfluous steps

module _ (m n : ℕ) where
  pub superfluous_exists : (ss : List (List ℕ)) (j : ℕ) → T (superfluous m n ss j) ↔ SuperfluousStep m n ss j
  unfolding superfluous
  superfluous_exists ss j = describes_exists m (replicate n 0) (without j ss) (get_or ss j [])

  pub first-superfluous : (ss : List (List ℕ)) (i : ℕ) → superfluous_at m n ss ≡ suc i → FirstSuperfluous m n ss (suc i)
  unfolding superfluous_at
  first-superfluous ss i h =
      let f = place_found (superfluous m n ss) 0 (length ss) i h in
      record {
        place = i;
        number = refl;
        step = omega (arith, f.below);
        combined = (superfluous_exists ss i).0 f.holds;
        least = λ j lt s. f.least j (omega arith) lt ((superfluous_exists ss j).1 s);
      }

  pub has_superfluous : (claim : Claim) (i : ℕ) → superfluous_in m n claim ≡ suc i → HasSuperfluous m n claim
  has_superfluous no_solution i h = absurd (omega arith)
  has_superfluous (from c ss) i h =
      let f = first-superfluous ss i h in (f.place, f.step, f.combined)

  pub none-superfluous : (claim : Claim) → superfluous_in m n claim ≡ 0 → HasSuperfluous m n claim → ⊥
  unfolding superfluous_at
  none-superfluous no_solution h has = has
  none-superfluous (from c ss) h (j, lt, s) =
      place_none (superfluous m n ss) 0 (length ss) h j (omega arith) (omega arith) ((superfluous_exists ss j).1 s)

-- ---- the zero vector

pub combination_zeros : (m n : ℕ) (ss : List (List ℕ)) → 0 < m → AllVectors m n ss
    → combination m (replicate n 0) ss (replicate (length ss) 0) ≡ replicate n 0
combination_zeros m n [] pos vs = refl
combination_zeros m n (s ∷ ss) pos vs =
    ap (λ (z : List ℕ). combine m 1 0 z s) (combination_zeros m n ss pos vs.1)
    ∙ combine-none m n (replicate n 0) s (vector_zeros m n pos) vs.0

pub zero-step : (m n : ℕ) (ss : List (List ℕ)) (j : ℕ) → 0 < m → AllVectors m n ss → j < length ss
    → get_or ss j [] ≡ replicate n 0 → SuperfluousStep m n ss j
zero-step m n ss j pos vs lt is = (
  replicate (length (without j ss)) 0,
  vector_zeros m (length (without j ss)) pos,
  combination_zeros m n (without j ss) pos (vectors-without m n ss j vs) ∙ sym is,
)
