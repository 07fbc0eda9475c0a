-- Which question turns a call away.
--   TurnsAway       the question at this place does: those before it have the answer yes, and its own is no
--   alone           it has this number, and no other has; a test, so that a list shows it by computing
--   given-exactly   such a number is given exactly where its question turns the call away
use mathlib.Core.Path.{◌≡◌}
use mathlib.Core.Logic.{◌↔◌}
use mathlib.Core.Bool.{Bool, true, false, cond, not, ◌&&◌}
use mathlib.Core.List.{List, [], ◌∷◌}
use Prim.Native.Nat.{ℕ, zero, suc}
use native.Mathlib.Omega.{arith}
use lib.Dec.{T, eqb, ltb, eqb→eq, ltb→lt}
use mir.Facts.{and_yes, yes_eqb, T_not}
use Rattle.questions.specs.Questions.{Question, first_no}

abbrev pub TurnsAway : List Question → ℕ → Type 0
TurnsAway [] i = ⊥
TurnsAway (q ∷ qs) zero = T q.yes → ⊥
TurnsAway (q ∷ qs) (suc i) = T q.yes × TurnsAway qs i

-- no question has this number
abbrev pub has_not : ℕ → List Question → Bool
has_not k [] = true
has_not k (q ∷ qs) = not (eqb q.number k) && has_not k qs

abbrev pub alone : ℕ → ℕ → List Question → Bool
alone k i [] = false
alone k zero (q ∷ qs) = eqb q.number k && has_not k qs
alone k (suc i) (q ∷ qs) = not (eqb q.number k) && alone k i qs

module _ (k : ℕ) (some : T (ltb 0 k)) where
  never_given : (qs : List Question) → T (has_not k qs) → first_no qs ≡ k → ⊥
  never_given [] other is = omega (arith, ltb→lt 0 k some)
  never_given (q ∷ qs) other is =
      let o = and_yes (not (eqb q.number k)) (has_not k qs) other in go q.yes o.0 (never_given qs o.1) is
    where
      go : (test : Bool) → T (not (eqb q.number k)) → (first_no qs ≡ k → ⊥) → cond test (first_no qs) q.number ≡ k → ⊥
      go true o rest is = rest is
      go false o rest is = T_not (eqb q.number k) (yes_eqb is) o

  pub given-exactly : (i : ℕ) (qs : List Question) → T (alone k i qs) → (first_no qs ≡ k) ↔ TurnsAway qs i
  given-exactly i [] other = absurd other
  given-exactly zero (q ∷ qs) other =
      let o = and_yes (eqb q.number k) (has_not k qs) other in
      go q.yes (eqb→eq q.number k o.0) (never_given qs o.1)
    where
      go : (test : Bool) → q.number ≡ k → (first_no qs ≡ k → ⊥) → (cond test (first_no qs) q.number ≡ k) ↔ (T test → ⊥)
      go true own rest = ((λ is. absurd (rest is)), λ no. absurd (no tt))
      go false own rest = ((λ is no. no), λ no. own)
  given-exactly (suc i) (q ∷ qs) other =
      let o = and_yes (not (eqb q.number k)) (alone k i qs) other in go q.yes o.0 (given-exactly i qs o.1)
    where
      go : (test : Bool) → T (not (eqb q.number k)) → (first_no qs ≡ k) ↔ TurnsAway qs i
          → (cond test (first_no qs) q.number ≡ k) ↔ (T test × TurnsAway qs i)
      go true o (to, from) = ((λ is. (tt, to is)), λ both. from both.1)
      go false o (to, from) = ((λ is. absurd (T_not (eqb q.number k) (yes_eqb is) o)), λ both. absurd both.0)
