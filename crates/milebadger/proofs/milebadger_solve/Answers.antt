-- `milebadger_solve` meets its contract: `refusal` asks the questions, and where none turns the system away, there is room for its block.
use mathlib.Core.Path.{◌≡◌, refl, sym}
use mathlib.Core.List.{List}
use Prim.Native.Nat.{ℕ, ◌+◌, ◌*◌, ◌≤◌}
use native.Mathlib.Nat.{mul-le-mul}
use native.Mathlib.Omega.{arith}
use borrow.Author.Tests.{eq-eqb, ne_eqb}
use Rattle.questions.specs.Questions.{first_no}
use Rattle.questions.specs.Reply.{refuses}
use Rattle.questions.proofs.Ladder.{number_not}
use Rattle.equations.specs.Lines.{equations_of}
use Rattle.system.specs.Block.{block_of}
use Rattle.milebadger.specs.Calls.{solve_questions, block_reply, solve_reply}
use Rattle.milebadger.proofs.Questions.{posed}
use Rattle.milebadger.proofs.Reply.{replied_on, refuses_replied}
use Rattle.milebadger.proofs.milebadger_solve.Goals as goal

module _ (m n : ℕ) (xs : List ℕ) (number : ℕ) (is : number ≡ first_no (solve_questions m n xs)) where
  refused : (number ≡ 0 → ⊥) → solve_reply m n xs ≡ refuses number
  unfolding solve_reply
  refused some = rw (← is, ne_eqb number 0 some)

  answered : number ≡ 0 → solve_reply m n xs ≡ block_reply (block_of m n (equations_of n xs))
  unfolding solve_reply
  answered none = rw (← is, eq-eqb number 0 none)

-- room for a starting vector and n steps, where n is at most w
room : (n w : ℕ) → n ≤ w → n + n * n ≤ w + w * w
room n w h = omega (arith, mul-le-mul {n₁ = n} {m₁ = n} {n₂ = w} {m₂ = w} h h)

pub returns-in-Err : goal.returns-in-Err
returns-in-Err c =
    let p = c.args in
    rw (refused p.m p.n p.lines.now _ c.in-Err.ensures (number_not c.in-Err.refusal)) (replied_on c.refuse.type_inv (refuses_replied c.refuse.ensures))

pub give_answer-requires : goal.give_answer-requires
give_answer-requires c =
    let p = c.args in
    (posed p.m p.n p.lines.now (sym c.in_default.ensures), omega (arith, room p.n 4 (omega arith)), omega arith, omega arith)

pub returns-then-n-le-FEW : goal.returns-then-n-le-FEW
returns-then-n-le-FEW c =
    let p = c.args in
    rw (answered p.m p.n p.lines.now 0 c.in_default.ensures refl) (replied_on c.give_answer.type_inv c.give_answer.ensures)

pub give_answer-requires-2 : goal.give_answer-requires-2
give_answer-requires-2 c =
    let p = c.args in
    let q = posed p.m p.n p.lines.now (sym c.in_default.ensures) in
    (q, omega (arith, room p.n 16 q.unknowns), omega arith, omega arith)

pub returns : goal.returns
returns c =
    let p = c.args in
    rw (answered p.m p.n p.lines.now 0 c.in_default.ensures refl) (replied_on c.give_answer-2.type_inv c.give_answer-2.ensures)
