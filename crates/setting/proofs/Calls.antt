-- How many equations the call gives back, `lines-few`: no more than a sheet has room for.
use mathlib.Core.Path.{◌≡◌, refl, subst}
use mathlib.Core.Bool.{Bool, true, false, cond}
use mathlib.Core.List.{List}
use Prim.Native.Nat.{ℕ, zero, suc, ◌≤◌}
use native.Mathlib.Omega.{arith}
use borrow.Author.Tests.{ne_eqb}
use lib.ListN.{length}
use Rattle.std.specs.Prelude.{Result, Ok, Err}
use Rattle.questions.specs.Questions.{first_no, unless_refused}
use Rattle.questions.specs.Reply.{refuses, fits, result_of}
use Rattle.ledger.specs.Ledger.{most_unknowns}
use Rattle.setting.specs.Calls.{setting_questions, sheet_room, made, equations_for, made_reply, made_of}
use Rattle.setting.proofs.LetIn.{let_in_open, let_in_wants}

abbrev count : Result ℕ ℕ → ℕ
count (Ok k) = k
count (Err k) = 0

module _ (m n : ℕ) (ws old : List ℕ) where
  either : (b : Bool) → length (equations_for m n ws) ≤ most_unknowns
      → count (cond b (Ok (length (equations_for m n ws))) (Err 8)) ≤ most_unknowns
  either true few = few
  either false few = omega arith

  few-given : (number : ℕ) → first_no (setting_questions m n ws) ≡ number
      → count (result_of Err (unless_refused refuses number (made n (equations_for m n ws))) old) ≤ most_unknowns
  unfolding result_of
  few-given zero h =
      either (fits (sheet_room n) old) (omega (arith, (let_in_wants m n ws h).few, (let_in_open m n ws h).3))
  few-given (suc number) h = rw (ne_eqb (suc number) 0 (λ e. omega arith)) (omega arith)

  pub lines-few : (k : ℕ) → made_of m n ws old ≡ Ok k → k ≤ most_unknowns
  unfolding made_of made_reply
  lines-few k is = subst (λ (r : (Result ℕ ℕ)). count r ≤ most_unknowns) is (few-given (first_no (setting_questions m n ws)) refl)
