-- Questions asked one after the other, by numbers alone: what such a ladder gives, whichever way the code asks it.
--   then_asks        one question more
--   before-none     where nothing is refused then, nothing was before
--   answer-yes      and this question has the answer yes
--   Asked           a number is what these questions give
--   nothing-asked   before the first question
--   then_asked      a question more: where those so far have the answer yes, its own answer decides
--   asked-enough    where one of them turned the call away, those behind them are not asked,
--   asked_on        and where none did, those behind them decide
--   opened-asked   "opened? 4.", the first question
--   tops_asked     "right before 1, a kind 13 word .. 17"
--   held-asked     "An equation there? 7."
--   place-asked    "after 7, a place beyond the lines held 16"
--   room-asked     "opened? 4." and, behind what is asked of an equation, "Under 16 equations? 5.", on an opened sheet
--   typing_asked   so it is with a typed equation, by what the reader asks of its text
use mathlib.Core.Path.{◌≡◌, refl, sym, ap, ◌∙◌}
use mathlib.Core.Bool.{Bool, true, false, cond}
use mathlib.Core.List.{List, [], ◌∷◌, ◌++◌}
use Prim.Native.Nat.{ℕ, zero, suc, ◌<◌}
use native.Mathlib.Omega.{arith}
use borrow.Author.Tests.{ne_eqb}
use lib.Dec.{T, leb, ltb}
use lib.ListN.{length}
use mir.Facts.{yes_and}
use Rattle.questions.specs.Questions.{Question, asks, first_no, unless_refused}
use Rattle.questions.proofs.Questions.{numbered, AllYes, all_yes, first_no_append, numbered_append}
use Rattle.words.specs.Words.{words_in, tops_fit}
use Rattle.ledger.specs.Ledger.{Ledger, is_opened, unknowns_of, lines_in, most_equations}
use Rattle.ledger.specs.Calls.{types, enters}
use Rattle.ledger.specs.Questions.{refusal_of}
use Rattle.asking.specs.declared.Seen.{Seen}
use Rattle.asking.specs.Sees.{Sees}
use Rattle.asking.proofs.Asked.{of_text}

-- the refusal so far, or, where there is none, this question's number if its answer is no
abbrev pub then_asks : ℕ → ℕ → Bool → ℕ
then_asks before number answer = unless_refused (λ k. k) before (first_no (asks number answer ∷ []))

pub before-none : (before number : ℕ) (answer : Bool) → then_asks before number answer ≡ 0 → before ≡ 0
before-none zero number answer none = refl
before-none (suc k) number answer none = rw (ne_eqb (suc k) 0 (λ e. omega arith)) at none

pub answer-yes : (before number : ℕ) (answer : Bool) → 0 < number → then_asks before number answer ≡ 0 → T answer
answer-yes before number true some none = tt
answer-yes zero number false some none = omega (arith, none)
answer-yes (suc k) number false some none = omega (arith, before-none (suc k) number false none)

pub record Asked (qs : List Question) (r : ℕ) : Type 0 where
  pub numbers : T (numbered qs)
  pub is : r ≡ first_no qs

pub nothing-asked : Asked [] 0
nothing-asked = record { numbers = tt; is = refl }

module _ {qs : List Question} {before : ℕ} (asked : Asked qs before) where
  decided : (k number : ℕ) (answer test : Bool) → first_no qs ≡ k → (AllYes qs → answer ≡ test)
      → unless_refused (λ j. j) k (cond answer 0 number) ≡ unless_refused (λ j. j) k (cond test 0 number)
  decided zero number answer test none same = rw (same (all_yes qs asked.numbers none))
  decided (suc k) number answer test some same = rw (ne_eqb (suc k) 0 (λ e. omega arith))

  pub then_asked : (number : ℕ) {r : ℕ} {answer : Bool} → T (ltb 0 number) → (test : Bool) → (AllYes qs → answer ≡ test)
      → r ≡ then_asks before number answer → Asked (qs ++ (asks number test ∷ [])) r
  then_asked number {r} {answer} some test same is =
      record {
        numbers = numbered_append qs (asks number test ∷ []) asked.numbers (yes_and (ltb 0 number) true some tt);
        is =
            is ∙ ap (λ (k : ℕ). unless_refused (λ j. j) k (cond answer 0 number)) asked.is
            ∙ decided (first_no qs) number answer test refl same
            ∙ sym (first_no_append qs (asks number test ∷ []) asked.numbers);
      }

  pub asked-enough : (rest : List Question) → (before ≡ 0 → ⊥) → before ≡ first_no (qs ++ rest)
  asked-enough rest some =
      asked.is ∙ sym (first_no_append qs rest asked.numbers ∙ rw (ne_eqb (first_no qs) 0 (λ e. some (asked.is ∙ e))))

  pub asked_on : (rest : List Question) → before ≡ 0 → first_no rest ≡ first_no (qs ++ rest)
  asked_on rest none =
      sym (first_no_append qs rest asked.numbers
      ∙ ap (λ (k : ℕ). unless_refused (λ j. j) k (first_no rest)) (sym asked.is ∙ none))

pub opened-asked : {l : Ledger} {seen : Seen} {r : ℕ} → Sees l seen → r ≡ then_asks 0 4 seen.opened
    → Asked (asks 4 (is_opened l) ∷ []) r
opened-asked {l} sees is = then_asked nothing-asked 4 tt (is_opened l) (λ yes. sees.opened) is

module _ {qs : List Question} {before : ℕ} (asked : Asked qs before) {r : ℕ} where
  pub tops_asked : (ws : List ℕ) {fit : Bool} → fit ≡ tops_fit (words_in ws) → r ≡ then_asks before 17 fit
      → Asked (qs ++ (asks 17 (tops_fit (words_in ws)) ∷ [])) r
  tops_asked ws fits is = then_asked asked 17 tt (tops_fit (words_in ws)) (λ yes. fits) is

  pub held-asked : {l : Ledger} {seen : Seen} → Sees l seen → r ≡ then_asks before 7 (ltb 0 seen.held)
      → Asked (qs ++ (asks 7 (ltb 0 (length (lines_in l))) ∷ [])) r
  held-asked {l} sees is =
      then_asked asked 7 tt (ltb 0 (length (lines_in l))) (λ yes. ap (λ (k : ℕ). ltb 0 k) sees.held) is

  pub place-asked : (place : ℕ) {l : Ledger} {seen : Seen} → Sees l seen → r ≡ then_asks before 16 (leb place seen.held)
      → Asked (qs ++ (asks 16 (leb place (length (lines_in l))) ∷ [])) r
  place-asked place {l} sees is =
      then_asked asked 16 tt (leb place (length (lines_in l))) (λ yes. ap (leb place) sees.held) is

pub room-asked : (l : Ledger) {seen : Seen} → Sees l seen → seen.opened ≡ true → {qs : List Question} {before r : ℕ}
    → Asked qs before → r ≡ then_asks before 5 (ltb seen.held most_equations)
    → r ≡ first_no (asks 4 (is_opened l) ∷ (qs ++ (asks 5 (ltb (length (lines_in l)) most_equations) ∷ [])))
room-asked l sees opened asked is =
    (then_asked asked 5 tt (ltb (length (lines_in l)) most_equations) (λ yes. ap (λ (k : ℕ). ltb k most_equations) sees.held) is).is
    ∙ rw (sym sees.opened ∙ opened)

pub typing_asked : (l : Ledger) (text : List ℕ) {seen : Seen} {before r : ℕ} → Sees l seen → seen.opened ≡ true
    → before ≡ first_no (of_text text seen.unknowns)
    → r ≡ then_asks before 5 (ltb seen.held most_equations) → r ≡ refusal_of l (enters (types text))
unfolding refusal_of
typing_asked l text {seen} {before} sees opened asked is =
    let typed : Asked (of_text text (unknowns_of l)) before =
    record { numbers = tt; is = asked ∙ ap (λ (n : ℕ). first_no (of_text text n)) sees.unknowns } in
    room-asked l sees opened typed is
