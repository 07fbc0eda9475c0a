-- Questions asked one after the other, each behind a `?`.
--   number_some     no refusal has the number 0, which stands for none
--   number_not      so it is not 0
--   let_in          a question that let the call in has the answer yes
--   turned_only, turned_no   one that turned it away has its number, and the answer no
--   let_in_le, turned_lt     so it is with an order that is asked
--   turned_by       one that turned it away gives its number, whatever stands behind it
--   answered        the last question decides alone
--   turned_among, let_in_all   so it is with several questions, where others stand behind them
--   handed_on       what the exit of a `?` gives is the refusal that it met:
--   refused_is      by its number,
--   unless_refused_is   and as what a call gives
use mathlib.Core.Path.{◌≡◌, refl, sym, ap, ◌∙◌}
use mathlib.Core.Bool.{Bool, true, false, cond}
use mathlib.Core.List.{List, [], ◌∷◌, ◌++◌}
use Prim.Native.Nat.{ℕ, ◌<◌, ◌≤◌}
use native.Mathlib.Omega.{arith}
use borrow.Author.Tests.{ne_eqb, leb-true, leb-false}
use lib.Dec.{T, leb}
use Rattle.std.specs.Prelude.{Result, Err, IsErrAnd}
use Rattle.std.proofs.lemmas.Result.{err_from_is_err_and}
use Rattle.questions.specs.Questions.{Question, asks, first_no, unless_refused}
use Rattle.questions.specs.Refusals.{number_of, refused_with, by_number}
use Rattle.questions.proofs.Questions.{numbered, first_no_append}
use Rattle.questions.specs.declared.Refusal.{Refusal}
use Rattle.questions.specs.declared.Refusal.TheVariants.{Shape, Modulus, Unknowns, Unopened, Full, Number, NothingToStrike, Buffer, LeftOver, Tape, Text, Beyond, NotLinear, Claims, OwnModulus, Place, Top}

pub number_some : (refusal : Refusal) → 0 < number_of refusal
number_some Shape = omega arith
number_some Modulus = omega arith
number_some Unknowns = omega arith
number_some Unopened = omega arith
number_some Full = omega arith
number_some Number = omega arith
number_some NothingToStrike = omega arith
number_some Buffer = omega arith
number_some LeftOver = omega arith
number_some Tape = omega arith
number_some Text = omega arith
number_some Beyond = omega arith
number_some NotLinear = omega arith
number_some Claims = omega arith
number_some OwnModulus = omega arith
number_some Place = omega arith
number_some Top = omega arith

pub number_not : (refusal : Refusal) → number_of refusal ≡ 0 → ⊥
number_not refusal none = omega (arith, number_some refusal)

module _ (k : ℕ) {answer test : Bool} (same : answer ≡ test) where
  pub let_in : 0 < k → 0 ≡ first_no (asks k answer ∷ []) → test ≡ true
  let_in some none = sym same ∙ yes answer none
    where
      yes : (b : Bool) → 0 ≡ cond b 0 k → b ≡ true
      yes true e = refl
      yes false e = absurd (omega arith)

  pub turned_by : (refusal : Refusal) (behind : ℕ) → number_of refusal ≡ first_no (asks k answer ∷ [])
      → number_of refusal ≡ cond test behind k
  turned_by refusal behind is = no answer is ∙ ap (λ (b : Bool). cond b behind k) same
    where
      no : (b : Bool) → number_of refusal ≡ cond b 0 k → number_of refusal ≡ cond b behind k
      no true e = absurd (omega (arith, number_some refusal))
      no false e = e

  pub turned_no : (refusal : Refusal) → number_of refusal ≡ first_no (asks k answer ∷ []) → test ≡ false
  turned_no refusal is = sym same ∙ no answer is
    where
      no : (b : Bool) → number_of refusal ≡ cond b 0 k → b ≡ false
      no true e = absurd (number_not refusal e)
      no false e = refl

  pub answered : {r : ℕ} → r ≡ first_no (asks k answer ∷ []) → r ≡ first_no (asks k test ∷ [])
  answered is = is ∙ ap (λ (b : Bool). cond b 0 k) same

pub turned_only : (k : ℕ) (answer : Bool) (refusal : Refusal) → number_of refusal ≡ first_no (asks k answer ∷ []) → number_of refusal ≡ k
turned_only k answer refusal is = go answer is
  where
    go : (b : Bool) → number_of refusal ≡ cond b 0 k → number_of refusal ≡ k
    go true e = absurd (number_not refusal e)
    go false e = e

pub let_in_le : (k a b : ℕ) → 0 < k → 0 ≡ first_no (asks k (leb a b) ∷ []) → a ≤ b
let_in_le k a b some none = leb-true a b (let_in k refl some none)

pub turned_lt : (k a b : ℕ) (refusal : Refusal) → number_of refusal ≡ first_no (asks k (leb a b) ∷ []) → b < a
turned_lt k a b refusal is = leb-false a b (turned_no k refl refusal is)

pub turned_among : (refusal : Refusal) (qs rest : List Question) → number_of refusal ≡ first_no qs
    → number_of refusal ≡ first_no (qs ++ rest)
turned_among refusal [] rest is = absurd (omega (arith, number_some refusal))
turned_among refusal (q ∷ qs) rest is = go q.yes (turned_among refusal qs rest) is
  where
    go : (yes : Bool) → (number_of refusal ≡ first_no qs → number_of refusal ≡ first_no (qs ++ rest))
        → number_of refusal ≡ cond yes (first_no qs) q.number → number_of refusal ≡ cond yes (first_no (qs ++ rest)) q.number
    go true on e = on e
    go false on e = e

pub let_in_all : (qs rest : List Question) → T (numbered qs) → 0 ≡ first_no qs → first_no rest ≡ first_no (qs ++ rest)
let_in_all qs rest numbers none =
    sym (first_no_append qs rest numbers ∙ ap (λ (k : ℕ). unless_refused (λ j. j) k (first_no rest)) (sym none))

module _ {A : Type 0} (r : Result A Refusal) (refusal : Refusal) (exits : IsErrAnd r (λ given. given ≡ refusal)) where
  pub handed_on : r ≡ Err refusal
  handed_on = let p = err_from_is_err_and r exits in p.1 ∙ ap Err p.2

  pub refused_is : {number : ℕ} → number_of refusal ≡ number → refused_with r ≡ number
  refused_is is = ap refused_with handed_on ∙ is

  pub unless_refused_is : {number : ℕ} (answer : Result A ℕ) → number_of refusal ≡ number → by_number r ≡ unless_refused Err number answer
  unless_refused_is {number} answer is =
      let some : number ≡ 0 → ⊥ = λ e. omega (arith, number_some refusal) in
      ap by_number handed_on ∙ rw (ne_eqb number 0 some) (ap Err is)
