-- Questions that turn nothing away: where none gives its number, each has the answer yes. Questions in two lists. And a question
-- that asks for a range.
--   numbered          no question has the number 0, which stands for none; a test, so that a list shows it by computing
--   numbered_append   nor has one of two lists
--   AllYes, all_yes   each question has the answer yes; so it is where none turns a call away
--   unless_either     what a call gives is its answer, and nothing turned it away, or the refusal
--   first_no_append   the questions of a second list are asked where none of the first turns a call away
--   within_range      the test of a modulus or of a number of unknowns says that it lies in its range
--   own_least         a line's modulus is 2 at least,
--   whole_own         and the sheet's may be one
use mathlib.Core.Path.{◌≡◌, refl}
use mathlib.Core.Logic.{◌↔◌, ◌⊎◌, inl, inr}
use mathlib.Core.Bool.{Bool, true, false, cond, ◌&&◌}
use mathlib.Core.List.{List, [], ◌∷◌, ◌++◌}
use Prim.Native.Nat.{ℕ, ◌%◌, ◌≤◌}
use native.Mathlib.Nat.{mod_self}
use native.Mathlib.Omega.{arith}
use borrow.Author.Tests.{ne_eqb, eqb-true, eqb-false}
use lib.Dec.{T, eqb, leb, ltb, leb→le, le→leb, ltb→lt}
use mir.Facts.{and_yes, yes_and, yes_eqb}
use Rattle.questions.specs.Questions.{Question, first_no, unless_refused, allowed_own}

abbrev pub numbered : List Question → Bool
numbered [] = true
numbered (q ∷ qs) = ltb 0 q.number && numbered qs

pub numbered_append : (qs rest : List Question) → T (numbered qs) → T (numbered rest) → T (numbered (qs ++ rest))
numbered_append [] rest numbers more = more
numbered_append (q ∷ qs) rest numbers more =
    let n = and_yes (ltb 0 q.number) (numbered qs) numbers in
    yes_and (ltb 0 q.number) (numbered (qs ++ rest)) n.0 (numbered_append qs rest n.1 more)

abbrev pub AllYes : List Question → Type 0
AllYes [] = Unit {0}
AllYes (q ∷ qs) = T q.yes × AllYes qs

pub all_yes : (qs : List Question) → T (numbered qs) → first_no qs ≡ 0 → AllYes qs
all_yes [] numbers none = tt
all_yes (q ∷ qs) numbers none =
    let n = and_yes (ltb 0 q.number) (numbered qs) numbers in go q.yes n.0 none (all_yes qs n.1)
  where
    go : (test : Bool) → T (ltb 0 q.number) → cond test (first_no qs) q.number ≡ 0 → (first_no qs ≡ 0 → AllYes qs)
        → T test × AllYes qs
    go true n h rest = (tt, rest h)
    go false n h rest = absurd (omega (arith, ltb→lt 0 q.number n))

pub unless_either : {A : Type 0} (refuse : ℕ → A) (r : ℕ) (answer x : A) → unless_refused refuse r answer ≡ x
    → ((r ≡ 0) × (answer ≡ x)) ⊎ ((r ≡ 0 → ⊥) × (refuse r ≡ x))
unless_either refuse r answer x = by (eqb r 0) refl
  where
    by : (b : Bool) → eqb r 0 ≡ b → cond b answer (refuse r) ≡ x → ((r ≡ 0) × (answer ≡ x)) ⊎ ((r ≡ 0 → ⊥) × (refuse r ≡ x))
    by true none is = inl (eqb-true r 0 none, is)
    by false some is = inr (eqb-false r 0 some, is)

pub first_no_append : (qs rest : List Question) → T (numbered qs)
    → first_no (qs ++ rest) ≡ unless_refused (λ k. k) (first_no qs) (first_no rest)
first_no_append [] rest numbers = refl
first_no_append (q ∷ qs) rest numbers =
    let n = and_yes (ltb 0 q.number) (numbered qs) numbers in
    go q.yes n.0 (first_no_append qs rest n.1)
  where
    go : (test : Bool) → T (ltb 0 q.number)
        → first_no (qs ++ rest) ≡ unless_refused (λ k. k) (first_no qs) (first_no rest)
        → cond test (first_no (qs ++ rest)) q.number
        ≡ unless_refused (λ k. k) (cond test (first_no qs) q.number) (first_no rest)
    go true n h = h
    go false n h = rw (ne_eqb q.number 0 (λ e. omega (arith, ltb→lt 0 q.number n)))

pub within_range : (low k high : ℕ) → T (leb low k && leb k high) ↔ ((low ≤ k) × (k ≤ high))
within_range low k high = (
  (λ t. let b = and_yes (leb low k) (leb k high) t in (leb→le low k b.0, leb→le k high b.1)),
  λ b. yes_and (leb low k) (leb k high) (le→leb low k b.0) (le→leb k high b.1),
)

pub own_least : (m q : ℕ) → T (allowed_own m q) → 2 ≤ q
own_least m q t = leb→le 2 q (and_yes (leb 2 q) (eqb (m % q) 0) t).0

pub whole_own : (m : ℕ) → 2 ≤ m → T (allowed_own m m)
whole_own m two = yes_and (leb 2 m) (eqb (m % m) 0) (le→leb 2 m two) (yes_eqb (mod_self m))
