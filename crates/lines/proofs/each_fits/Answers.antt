-- `each_fits` meets its contract: one line more fits, or it does not, or none is left.
use mathlib.Core.Path.{◌≡◌, sym, ap, ◌∙◌}
use mathlib.Core.Logic.{inl, inr}
use mathlib.Core.List.{List}
use Prim.Native.Nat.{ℕ, ◌+◌, ◌*◌}
use native.Mathlib.Omega.{arith}
use lib.ListN.{length}
use Rattle.std.specs.Slice.Iter.{iter_rest, chunks_exact_rest}
use Rattle.equations.specs.Lines.{equations_of}
use Rattle.lines.specs.Stored.{all_fit}
use Rattle.lines.proofs.Turn.{turn_fits, turn_left, turns_end, turns_over}
use Rattle.lines.proofs.each_fits.Goals as goal

pub returns-then-not-line_fits : goal.returns-then-not-line_fits
returns-then-not-line_fits c =
    let a = c.args in
    let left = c.loop-q.invariant in
    let step = c.in-Some.ensures.steps in
    let line = step.1.1 in
    let es = equations_of a.n (chunks_exact_rest c.loop-q.q-iterator.b) in
    let no = sym c.line_fits.ensures ∙ c.if-not-line_fits.true in
    sym (left.left ∙ ap (λ (qs : List ℕ). all_fit a.m qs es) step.0
    ∙ turn_fits a.n c.in-Some.q.now (iter_rest c.next.new.self.a) _ _ line.0 (line.1 ∙ left.width) a.m ∙ rw no)

pub loop-q-preserved : goal.loop-q-preserved
loop-q-preserved c =
    let a = c.args in
    let left = c.loop-q.invariant in
    let step = c.in-Some.ensures.steps in
    let line = step.1.1 in
    let others = iter_rest c.next.new.self.a in
    let es = equations_of a.n (chunks_exact_rest c.loop-q.q-iterator.b) in
    let fits = sym c.line_fits.ensures ∙ c.if-not-line_fits.false in
    record {
      width = step.1.0 ∙ left.width;
      whole = turn_left a.n c.in-Some.q.now others _ _ line.0 (line.1 ∙ left.width)
          (left.whole ∙ ap (λ (qs : List ℕ). length qs * (a.n + 1)) step.0);
      left = left.left ∙ ap (λ (qs : List ℕ). all_fit a.m qs es) step.0
          ∙ turn_fits a.n c.in-Some.q.now others _ _ line.0 (line.1 ∙ left.width) a.m ∙ rw fits;
    }

pub returns : goal.returns
returns c =
    let a = c.args in
    let s = c.loop-q.q-iterator in
    let left = c.loop-q.invariant in
    let none : length (iter_rest s.a) ≡ 0 =
    elim c.in-None.ensures.steps [
      | inl (t, (none, same)) ↦ none
      | inr (t, steps) ↦ turns_over (length (iter_rest s.a)) (a.n + 1) (omega (arith, steps.1.0, left.whole, left.width))
    ] in
    sym (left.left ∙ turns_end a.m a.n (iter_rest s.a) (chunks_exact_rest s.b) none)
