-- `finding::explain_none` meets its contract: there is no solution, or the starting vector is read off the basis.
use mathlib.Core.Path.{refl, sym, ap, ◌∙◌}
use mathlib.Core.Bool.{true, false}
use mathlib.Core.List.{List}
use Prim.Native.Nat.{ℕ}
use borrow.Author.Tests.{not-true, not-false}
use lib.ListN.{length}
use Rattle.slices.specs.Over.{over}
use Rattle.equations.specs.declared.Reason.TheVariants.{Passes, Solvable}
use Rattle.equations.specs.Lines.{equations_of}
use Rattle.equations.specs.Claim.{no_solution}
use Rattle.system.specs.Ready.{zeros_ready}
use Rattle.system.proofs.Prepared.{prepared_front}
use Rattle.system.proofs.Explained.{start_read, front-over, explained, reason-none}
use Rattle.system.proofs.asked.System.explain_none.Goals as goal

pub solvable-requires : goal.solvable-requires
solvable-requires c =
    zeros_ready c.args.self.now.m c.args.self.now.n c.args.self.now.lines.now

-- there is none
pub returns-then-not-solvable : goal.returns-then-not-solvable
returns-then-not-solvable c =
    let a = c.args in
    let s = a.self.now in
    let es = equations_of s.n s.lines.now in
    let both = explained s.m s.n es no_solution Passes
    (reason-none s.m s.n es false (sym (not-true _ c.if-not-solvable.true-raw) ∙ c.solvable.ensures.value)) a.shown.now 0 refl refl in record { value = both.0; shown_after = both.1 }

-- here is one
pub returns : goal.returns
returns c =
    let a = c.args in
    let s = a.self.now in
    let es = equations_of s.n s.lines.now in
    let old = a.shown.now in
    let said = c.solvable.ensures in
    let some = sym (not-false _ c.if-not-solvable.false-raw) ∙ said.value in
    let size = c.packed_size-size in
    let based = prepared_front s.m s.n s.lines.now _ said.prepared size.result size.ensures in
    let v = c.start_into in
    let start = start_read s.m s.n s.lines.now _ s.posed based (sym some) _ v.ensures in
    let both = explained s.m s.n es no_solution Solvable (reason-none s.m s.n es true some) old s.n
    (sym start.1 ∙ ap length start.0) (front-over s.n v.new.out old start.1 ∙ ap (λ (xs : List ℕ). over xs old) start.0) in record { value = both.0; shown_after = both.1 }
