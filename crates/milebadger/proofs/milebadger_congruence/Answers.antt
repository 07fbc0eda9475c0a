-- `milebadger_congruence` meets its contract: a return for each case of the answer that `solve` gives.
use mathlib.Core.Path.{◌≡◌, ap₂, ◌∙◌}
use Prim.Native.Nat.{ℕ}
use lib.IntN.{ℤ}
use mir.Facts.{to_z-of_z}
use mir.Syntax.{w32}
use mir.Val.{SFits, to_z, of_z}
use Rattle.std.specs.Prelude.{Option, Result}
use Rattle.residue.specs.declared.congruence.Solutions.{Solutions}
use Rattle.congruence.specs.Congruence.{congruence_of}
use Rattle.milebadger.specs.Calls.{solved_reply}
use Rattle.milebadger.proofs.Reply.{replied_on, gives_nothing, refuses_replied}
use Rattle.milebadger.proofs.milebadger_congruence.Goals as goal

-- a number of 32 bits is handed on as it is
handed : (a b : ℤ) (m : ℕ) {solved : Result (Option Solutions) ℕ} → SFits w32 a → SFits w32 b
    → solved ≡ congruence_of (to_z w32 (of_z w32 a)) (to_z w32 (of_z w32 b)) m → solved ≡ congruence_of a b m
handed a b m left right is =
    is ∙ ap₂ (λ (x y : ℤ). congruence_of x y m) (to_z-of_z {w = w32} left) (to_z-of_z {w = w32} right)

-- no solution
pub returns-in-Ok-None : goal.returns-in-Ok-None
unfolding solved_reply
returns-in-Ok-None c =
    let p = c.args in
    let solved = handed p.a p.b p.m c.ranges.a c.ranges.b (rw c.in-Ok-None.field-0-is at c.in-Ok-None.ensures) in
    rw (← solved) gives_nothing

-- the solutions
pub returns-in-Ok-Some : goal.returns-in-Ok-Some
unfolding solved_reply
returns-in-Ok-Some c =
    let given = c.give in
    let p = c.args in
    let solved = handed p.a p.b p.m c.ranges.a c.ranges.b (rw c.in-Ok-Some.field-0-is at c.in-Ok-Some.ensures) in
    rw (← solved) (replied_on given.type_inv given.ensures)

-- the refusal
pub returns-in-Err : goal.returns-in-Err
unfolding solved_reply
returns-in-Err c =
    let p = c.args in
    let solved = handed p.a p.b p.m c.ranges.a c.ranges.b c.in-Err.ensures in
    rw (← solved) (replied_on c.refuse.type_inv (refuses_replied c.refuse.ensures))
