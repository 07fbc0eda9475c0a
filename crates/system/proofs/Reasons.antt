-- The promises of specs/Reasons.antt, kept.
--   true_reason, same-verdict
--   start_shown_lem               where there is a solution, the start that is shown is one
use mathlib.Core.Path.{◌≡◌, refl, ◌∙◌}
use mathlib.Core.Logic.{◌⊎◌, inl, inr}
use mathlib.Core.List.{List}
use mathlib.Core.Option.{none}
use mathlib.Core.Bool.{Bool, true, false, ◌&&◌}
use Prim.Native.Nat.{ℕ, zero, suc, ◌<◌}
use lib.Dec.{T}
use mir.Facts.{and_yes}
use Rattle.equations.specs.Lists.{every}
use Rattle.equations.specs.Vectors.{Vector, AllVectors}
use Rattle.equations.specs.Equation.{Equation, solves, Shaped}
use Rattle.equations.specs.Answer.{start_of}
use Rattle.equations.specs.Claim.{no_solution, from, is_right}
use Rattle.equations.specs.Marks.{superfluous_at, mark_with, mark_of}
use Rattle.equations.specs.Reasons.{has_solution, keeps, right_reason, reason_of, mark_beside, Solution, Says}
use Rattle.equations.proofs.Truth.{true_of, false_of, of_true, of_false}
use Rattle.equations.proofs.Claim.{describes-nothing, right-all}
use Rattle.equations.proofs.Answer.{Found, start_found, start_solves, start_none}
use Rattle.equations.proofs.OwnAnswer.{none_right}
use Rattle.equations.proofs.Superfluous.{first-superfluous, none-superfluous}
use Rattle.equations.proofs.Reasons.{solution_of, no_solution_of, broken_first, changed-first}
use Rattle.elimination.specs.Basis.{basis}
use Rattle.elimination.specs.Tableau.{tableau}
use Rattle.elimination.specs.Marking.{agree, claim_right}
use Rattle.elimination.proofs.Basis.{long-vectors}
use Rattle.elimination.proofs.Marking.{marking}
use Rattle.elimination.proofs.Multipliers.{multipliers_refute}
use Rattle.elimination.proofs.Missed.{missed_law}
use Rattle.system.specs.Reasons.{start_shown, shown_for, shown_with, TrueReason, SameVerdict}

module _ (m n : ℕ) (es : List Equation) (pos : 0 < m) (shaped : Shaped n es) where
  no_start : has_solution m n es ≡ false → start_of m n es ≡ none
  no_start e = (start_none m n es).1 (λ v vec t. no_solution_of m n es e v (vec, t))

  pub start_shown_lem : has_solution m n es ≡ true → Solution m n es (start_shown (start_of m n es))
  start_shown_lem e = go (start_found m n es) (solution_of m n es e)
    where
      go : Found m n es → (v : List ℕ) × Solution m n es v → Solution m n es (start_shown (start_of m n es))
      go (inl e) (v, s) = absurd ((start_none m n es).0 e v s.0 s.1)
      go (inr (c, e)) s = rw e (start_solves m n es c e)

  -- ---- no solution is claimed

  none-says : (b : Bool) → has_solution m n es ≡ b
      → Says m n es no_solution (reason_of m n es no_solution) (shown_with m n es no_solution)
  unfolding reason_of shown_with
  none-says true e = rw e (refl, start_shown_lem e)
  none-says false e = rw e (none_right m n es (no_start e), (λ has. has), refl)

  none-verdict : (b : Bool) → has_solution m n es ≡ b → mark_beside (reason_of m n es no_solution) ≡ mark_of m n es no_solution
  unfolding reason_of mark_of
  none-verdict false e = rw (e, true_of (is_right m n es no_solution) (none_right m n es (no_start e)))
  none-verdict true e = rw (e, false_of (is_right m n es no_solution) (λ t. described t (solution_of m n es e)))
    where
      described : T (is_right m n es no_solution) → (v : List ℕ) × Solution m n es v → ⊥
      described t (v, s) = describes-nothing m v (((right-all m n es no_solution).0 t v s.0).1 s.1)

  -- ---- a start with its steps is claimed

  module _ (c : List ℕ) (ss : List (List ℕ)) (vec : Vector m n c) (vs : AllVectors m n ss) where
    -- a right claim, by the number of its first superfluous step
    right-says : T (is_right m n es (from c ss)) → (k : ℕ) → superfluous_at m n ss ≡ k
        → Says m n es (from c ss) (right_reason k) (shown_for m n es (from c ss) (right_reason k))
    right-says t zero is = (t, none-superfluous m n (from c ss) is, refl)
    right-says t (suc j) is = (t, first-superfluous m n ss j is, refl)

    -- by the outcomes of the four tests
    from-says : (a b d e : Bool) → has_solution m n es ≡ a → solves m es c ≡ b → every (keeps m es) ss ≡ d
        → is_right m n es (from c ss) ≡ e → Says m n es (from c ss) (reason_of m n es (from c ss)) (shown_with m n es (from c ss))
    unfolding reason_of shown_with
    from-says false b d e p q r s =
        rw p (no_solution_of m n es p, multipliers_refute m n es pos shaped (no_start p))
    from-says true false d e p q r s = rw (p, q) ((solution_of m n es p, broken_first m es c (of_false q)), refl)
    from-says true true false e p q r s = rw (p, q, r) ((of_true q, changed-first m es ss (of_false r)), refl)
    from-says true true true true p q r s = rw (p, q, r, s) (right-says (of_true s) (superfluous_at m n ss) refl)
    from-says true true true false p q r s =
        let missed = missed_law m n es c ss pos shaped vec vs q r s in
        rw (p, q, r, s) ((of_true q, of_true r), missed.0, missed.1)

    -- start and steps of a claim that is right solve the equations
    parts : T (is_right m n es (from c ss)) → T (solves m es c) × T (every (keeps m es) ss)
    unfolding claim_right
    parts t =
        let all = and_yes (solves m es c && every (keeps m es) ss) (agree m n (tableau m n 0 es) (basis m n 0 ss)) marked in
        and_yes (solves m es c) (every (keeps m es) ss) all.0
      where
        marked : T (claim_right m n 0 es c ss)
        marked =
            of_true (marking m n 0 es c ss pos shaped vec (long-vectors m n ss vs) ∙ true_of (is_right m n es (from c ss)) t)

    -- so each of the tests in front has passed
    not_right : is_right m n es (from c ss) ≡ true → (has_solution m n es ≡ false) ⊎ ((solves m es c ≡ false) ⊎ (every (keeps m es) ss ≡ false)) → ⊥
    not_right t (inl e) = no_solution_of m n es e c (vec, (parts (of_true t)).0)
    not_right t (inr (inl e)) = of_false e (parts (of_true t)).0
    not_right t (inr (inr e)) = of_false e (parts (of_true t)).1

    beside_right : (k : ℕ) → mark_beside (right_reason k) ≡ mark_with true k
    beside_right zero = refl
    beside_right (suc j) = refl

    -- by the outcomes of the four tests, of which an earlier one can only fail where the last one does
    from-verdict : (a b d e : Bool) → has_solution m n es ≡ a → solves m es c ≡ b → every (keeps m es) ss ≡ d
        → is_right m n es (from c ss) ≡ e → mark_beside (reason_of m n es (from c ss)) ≡ mark_of m n es (from c ss)
    unfolding reason_of mark_of
    from-verdict false b d true p q r s = absurd (not_right s (inl p))
    from-verdict false b d false p q r s = rw (p, s)
    from-verdict true false d true p q r s = absurd (not_right s (inr (inl q)))
    from-verdict true false d false p q r s = rw (p, q, s)
    from-verdict true true false true p q r s = absurd (not_right s (inr (inr r)))
    from-verdict true true false false p q r s = rw (p, q, r, s)
    from-verdict true true true true p q r s = rw (p, q, r, s) (beside_right (superfluous_at m n ss))
    from-verdict true true true false p q r s = rw (p, q, r, s)

pub true_reason : TrueReason
true_reason m n es no_solution pos shaped formed = none-says m n es pos shaped (has_solution m n es) refl
true_reason m n es (from c ss) pos shaped formed =
    from-says m n es pos shaped c ss formed.0 formed.1 (has_solution m n es) (solves m es c) (every (keeps m es) ss)
    (is_right m n es (from c ss)) refl refl refl refl

pub same-verdict : SameVerdict
same-verdict m n es no_solution pos shaped formed = none-verdict m n es pos shaped (has_solution m n es) refl
same-verdict m n es (from c ss) pos shaped formed =
    from-verdict m n es pos shaped c ss formed.0 formed.1 (has_solution m n es) (solves m es c) (every (keeps m es) ss)
    (is_right m n es (from c ss)) refl refl refl refl
