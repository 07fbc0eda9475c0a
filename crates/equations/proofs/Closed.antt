-- Sets of vectors that are closed under combination, and what stands at the head of their members: by the first step of
-- such a set, every head is a multiple of the step's, and so is m. No equation occurs here.
--   Closed               holds of the zeros and of all combinations
--   closed_rest          so do the members with head 0, without it
--   head_test             the test of the step at the first place
--   HeadStep             that step d ∷ r: d divides m and every head
--   Head, head_of        there is that step, or every head is 0
use mathlib.Core.Path.{◌≡◌, refl, ap, ◌∙◌, subst}
use mathlib.Core.Logic.{inl}
use mathlib.Core.List.{List, [], ◌∷◌}
use mathlib.Core.Option.{Option, none, some}
use mathlib.Core.Bool.{Bool, false, ◌&&◌, not}
use Prim.Native.Nat.{ℕ, zero, suc, ◌+◌, ◌*◌, ◌/◌, ◌%◌, ◌<◌}
use native.Mathlib.Nat.{mod-lt, zero-mod, div-add-mod', zero-lt-suc}
use native.Mathlib.Omega.{arith}
use lib.ListN.{replicate}
use lib.Dec.{T, eqb, eqb→eq, not_T}
use mir.Facts.{and_yes, yes_and}
use Rattle.residue.specs.Congruent.{Congruent}
use Rattle.residue.specs.Divides.{Divides}
use Rattle.residue.specs.Negative.{negative}
use Rattle.residue.proofs.Congruent.{congruent_of_eq, congruent_refl, congruent_sym, congruent_trans, congruent_add, congruent_mul, congruent_mod, congruent_small, congruent_multiple, congruent_absorb}
use Rattle.residue.proofs.Divides.{divides_of_remainder}
use Rattle.residue.proofs.Negative.{negative_is}
use Rattle.equations.specs.Lists.{first}
use Rattle.equations.specs.Vectors.{Vector, vectors, combine}
use Rattle.equations.specs.Answer.{leads_at}
use Rattle.equations.proofs.Search.{first_holds, first-least, none_means_none}
use Rattle.equations.proofs.Combine.{vector-combine, vector_zeros}

pub record Closed (m n : ℕ) (p : List ℕ → Bool) : Type 0 where
  pub zeros : T (p (replicate n 0))
  pub combined : (s t : ℕ) (v w : List ℕ) → Vector m n v → Vector m n w → T (p v) → T (p w) → T (p (combine m s t v w))

pub closed_rest : (m n : ℕ) (p : List ℕ → Bool) → 0 < m → Closed m (suc n) p → Closed m n (λ v. p (0 ∷ v))
closed_rest m n p pos c = record {
  zeros = c.zeros;
  combined = λ s t v w a b h g.
      subst (λ (x : ℕ). T (p (x ∷ combine m s t v w))) (ap (λ (z : ℕ). z % m) (omega arith) ∙ zero-mod m)
      (c.combined s t (0 ∷ v) (0 ∷ w) (pos, a) (pos, b) h g);
}

-- the test of the step at the first place
abbrev pub head_test : (List ℕ → Bool) → List ℕ → Bool
head_test p v = p v && leads_at 0 v

pub record HeadStep (m n : ℕ) (p : List ℕ → Bool) (d : ℕ) (r : List ℕ) : Type 0 where
  pub positive : 0 < d
  pub below : d < m
  pub rest : Vector m n r
  pub holds : T (p (d ∷ r))
  pub modulus : Divides d m
  pub heads : (x : ℕ) (w : List ℕ) → x < m → Vector m n w → T (p (x ∷ w)) → Divides d x

module _ (m n : ℕ) (p : List ℕ → Bool) (pos : 0 < m) (closed : Closed m (suc n) p) where
  test_nonzero : (x : ℕ) (w : List ℕ) → 0 < x → T (p (x ∷ w)) → T (head_test p (x ∷ w))
  test_nonzero x w lt t =
      yes_and (p (x ∷ w)) (not (eqb x 0)) t
      (not_T (eqb x 0) (λ u. let z : x ≡ 0 = eqb→eq x 0 u in omega arith))

  module _ (d : ℕ) (r : List ℕ) (dpos : 0 < d) (h : first (head_test p) (vectors m (suc n)) ≡ some (d ∷ r)) where
    step-vector : Vector m (suc n) (d ∷ r)
    step-vector = (first_holds m (suc n) (head_test p) (d ∷ r) h).0

    step-holds : T (p (d ∷ r))
    step-holds = (and_yes (p (d ∷ r)) (leads_at 0 (d ∷ r)) (first_holds m (suc n) (head_test p) (d ∷ r) h).1).0

    no_smaller : (x : ℕ) (w : List ℕ) → x < d → Vector m n w → T (p (x ∷ w)) → x ≡ 0
    no_smaller zero w lt vec t = refl
    no_smaller (suc x) w lt vec t =
        absurd (first-least m (suc n) (head_test p) (d ∷ r) h (suc x ∷ w) (omega (arith, step-vector.0), vec) (inl lt)
        (test_nonzero (suc x) w (zero-lt-suc x) t))

    -- d divides what a head is congruent to: k times the step added leaves the remainder, which is smaller
    divides_head : (a x k : ℕ) (w : List ℕ) → Congruent m (a / d + k) 0 → x < m → Vector m n w → T (p (x ∷ w))
        → Congruent m x a → Divides d a
    divides_head a x k w opposite lt vec t c = divides_of_remainder none_left
      where
        small : a % d < m
        small = omega (arith, mod-lt a dpos, step-vector.0)

        leaves : (1 * x + k * d) % m ≡ a % d
        leaves =
            congruent_small (mod-lt (1 * x + k * d) pos) small
            (congruent_trans (congruent_mod m (1 * x + k * d))
            (congruent_trans (congruent_add (congruent_mul (congruent_refl {a = 1}) c) (congruent_refl {a = k * d}))
            (congruent_trans {b = a % d + (a / d + k) * d} (congruent_of_eq (omega (arith, div-add-mod' a d)))
            (congruent_absorb (a % d) d opposite))))

        none_left : a % d ≡ 0
        none_left =
            no_smaller (a % d) (combine m 1 k w r) (mod-lt a dpos) (vector-combine m n 1 k w r pos vec step-vector.1)
            (subst (λ (z : ℕ). T (p (z ∷ combine m 1 k w r))) leaves
            (closed.combined 1 k (x ∷ w) (d ∷ r) (lt, vec) step-vector t step-holds))

    head_step_of : HeadStep m n p d r
    head_step_of = record {
      positive = dpos;
      below = step-vector.0;
      rest = step-vector.1;
      holds = step-holds;
      modulus =
          divides_head m 0 (negative m (m / d)) (replicate n 0) (negative_is m (m / d) pos) pos (vector_zeros m n pos)
          closed.zeros (congruent_sym (congruent_trans (congruent_of_eq (omega arith)) (congruent_multiple 1)));
      heads = λ x w lt vec t.
          divides_head x x (negative m (x / d)) w (negative_is m (x / d) pos) lt vec t congruent_refl;
    }

  head_step : (d : ℕ) (r : List ℕ) → first (head_test p) (vectors m (suc n)) ≡ some (d ∷ r) → HeadStep m n p d r
  head_step zero r h =
      absurd (and_yes (p (0 ∷ r)) false (first_holds m (suc n) (head_test p) (0 ∷ r) h).1).1
  head_step (suc d) r h = head_step_of (suc d) r (zero-lt-suc d) h

  head_none : first (head_test p) (vectors m (suc n)) ≡ none
      → (x : ℕ) (w : List ℕ) → x < m → Vector m n w → T (p (x ∷ w)) → x ≡ 0
  head_none h zero w lt vec t = refl
  head_none h (suc x) w lt vec t =
      absurd (none_means_none m (suc n) (head_test p) h (suc x ∷ w) (lt, vec) (test_nonzero (suc x) w (zero-lt-suc x) t))

-- what the search for a step at the first place can bring
pub data Head (m n : ℕ) (p : List ℕ → Bool) : Option (List ℕ) → Type 0 where
  stepped : (d : ℕ) (r : List ℕ) → HeadStep m n p d r → Head m n p (some (d ∷ r))
  unstepped : ((x : ℕ) (w : List ℕ) → x < m → Vector m n w → T (p (x ∷ w)) → x ≡ 0) → Head m n p none

pub head_of : (m n : ℕ) (p : List ℕ → Bool) → 0 < m → Closed m (suc n) p
    → Head m n p (first (head_test p) (vectors m (suc n)))
head_of m n p pos closed = go (first (head_test p) (vectors m (suc n))) refl
  where
    go : (o : Option (List ℕ)) → first (head_test p) (vectors m (suc n)) ≡ o → Head m n p o
    go none h = unstepped (head_none m n p pos closed h)
    go (some []) h = absurd (first_holds m (suc n) (head_test p) [] h).0
    go (some (d ∷ r)) h = stepped d r (head_step m n p pos closed d r h)
