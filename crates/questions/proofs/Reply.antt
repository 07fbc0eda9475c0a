-- A reply behind questions: 8 is one question more.
--   reply_result    what the call returns, by the list of all its questions
--   reply_memory    and what the memory then holds
--   gives-short, gives-written    a reply that is not refused: the memory has too little room, or enough
--   gives_refused, gives_let_in   a question turns the call away, or none does
use mathlib.Core.Path.{◌≡◌, refl, sym, ap, ◌∙◌}
use mathlib.Core.Bool.{Bool, true, false, cond}
use mathlib.Core.List.{List, [], ◌∷◌, ◌++◌}
use Prim.Native.Nat.{ℕ, zero, suc, ◌<◌, ◌≤◌}
use native.Mathlib.Omega.{arith}
use borrow.Author.Tests.{eq-eqb, ne_eqb, le-leb, lt-leb}
use lib.Dec.{T}
use lib.ListN.{length}
use Rattle.slices.specs.Over.{over}
use Rattle.questions.specs.Questions.{Question, asks, first_no, unless_refused}
use Rattle.questions.specs.Reply.{Reply, gives_in, refuses, fits, result_of, memory_after, Gives}
use Rattle.questions.proofs.Questions.{numbered, first_no_append}

module _ {A : Type 0} (qs : List Question) (room : ℕ) (result : A) (xs old : List ℕ) where
  abbrev reply : ℕ → Reply A
  reply k = unless_refused refuses k (gives_in room result xs)

  abbrev number : ℕ → ℕ
  number k = unless_refused (λ j. j) k (first_no (asks 8 (fits room old) ∷ []))

  asked-last : T (numbered qs) → number (first_no qs) ≡ first_no (qs ++ (asks 8 (fits room old) ∷ []))
  asked-last numbers = sym (first_no_append qs (asks 8 (fits room old) ∷ []) numbers)

  module _ (refuse : ℕ → A) where
    last-result : (b : Bool) → cond b result (refuse 8) ≡ unless_refused refuse (cond b 0 8) result
    last-result true = refl
    last-result false = refl

    by_number : (k : ℕ) → result_of refuse (reply k) old ≡ unless_refused refuse (number k) result
    unfolding result_of
    by_number zero = last-result (fits room old)
    by_number (suc k) = rw (ne_eqb (suc k) 0 (λ e. omega arith), ne_eqb (suc k) 0 (λ e. omega arith))

    pub reply_result : T (numbered qs)
        → result_of refuse (unless_refused refuses (first_no qs) (gives_in room result xs)) old
        ≡ unless_refused refuse (first_no (qs ++ (asks 8 (fits room old) ∷ []))) result
    reply_result numbers =
        by_number (first_no qs) ∙ ap (λ (k : ℕ). unless_refused refuse k result) (asked-last numbers)

  last-memory : (b : Bool) → cond b (over xs old) old ≡ unless_refused (λ (k : ℕ). old) (cond b 0 8) (over xs old)
  last-memory true = refl
  last-memory false = refl

  kept_or_over : (k : ℕ) → memory_after (reply k) old ≡ unless_refused (λ (j : ℕ). old) (number k) (over xs old)
  unfolding memory_after
  kept_or_over zero = last-memory (fits room old)
  kept_or_over (suc k) = rw (ne_eqb (suc k) 0 (λ e. omega arith), ne_eqb (suc k) 0 (λ e. omega arith))

  pub reply_memory : T (numbered qs)
      → memory_after (unless_refused refuses (first_no qs) (gives_in room result xs)) old
      ≡ unless_refused (λ (k : ℕ). old) (first_no (qs ++ (asks 8 (fits room old) ∷ []))) (over xs old)
  reply_memory numbers =
      kept_or_over (first_no qs)
      ∙ ap (λ (k : ℕ). unless_refused (λ (j : ℕ). old) k (over xs old)) (asked-last numbers)

-- ---- case by case

module _ {A : Type 0} (refuse : ℕ → A) (old : List ℕ) where
  module _ (room : ℕ) (result : A) (xs : List ℕ) where
    pub gives-short : length old < room → Gives refuse (gives_in room result xs) old (refuse 8) old
    unfolding result_of memory_after
    gives-short short = let no = lt-leb room (length old) short in (rw no, rw no)

    pub gives-written : room ≤ length old → Gives refuse (gives_in room result xs) old result (over xs old)
    unfolding result_of memory_after
    gives-written long = let yes = le-leb room (length old) long in (rw yes, rw yes)

  module _ (qs : List Question) {number : ℕ} (is : number ≡ first_no qs) (reply : Reply A) where
    pub gives_refused : (number ≡ 0 → ⊥) → Gives refuse (unless_refused refuses (first_no qs) reply) old (refuse number) old
    unfolding result_of memory_after
    gives_refused more = (rw (← is, ne_eqb number 0 more), rw (← is, ne_eqb number 0 more))

    pub gives_let_in : {r : A} {new : List ℕ} → number ≡ 0 → Gives refuse reply old r new
        → Gives refuse (unless_refused refuses (first_no qs) reply) old r new
    gives_let_in none given = (rw (← is, eq-eqb number 0 none) given.0, rw (← is, eq-eqb number 0 none) given.1)
