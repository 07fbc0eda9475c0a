-- `checking::first_change` meets its contract. The invariants: what is left of the steps, and for its first vector what is left of the lines,
-- finds the pair that the whole finds; all are residues.
use mathlib.Core.Path.{ap, subst, ◌∙◌}
use native.Mathlib.Omega.{arith}
use lib.ListN.{length, length-append}
use lib.Seq.{length-take-le}
use borrow.Author.Rules.{rules}
use Rattle.std.specs.Iterator.Adapters.{enumerate_source}
use Rattle.std.specs.Slice.Iter.{chunks_exact_rest}
use Rattle.equations.specs.Vectors.{Below}
use Rattle.equations.proofs.Vectors.{below-take, below_parts}
use Rattle.system.proofs.Broken.{changed_on, changed_stop, changed_none}
use Rattle.system.proofs.Changes.{change_on, change_stop, change_none}
use Rattle.system.proofs.asked.System.first_change.Goals as goal

pub sum-requires : goal.sum-requires
sum-requires c =
    let s = c.args.self.now in
    let o = c.steps in
    let l = c.loop-place in
    let step = c.in-Some.ensures.steps.0.1 in
    let cut = c.in-Some-2.ensures.steps.0 in
    let line = c.in-Some-2.line.now in
    let long = length-take-le s.n line (omega (arith, cut.1.1, l.invariant.0)) in (
      omega arith,
      omega (arith, long, step.1, o.invariant.0),
      omega (arith, long),
      below-take s.m s.n line (below_parts s.m line _ (subst (Below s.m) cut.1.0 l.invariant.4)).0,
      (below_parts s.m c.in-Some.step.now _ (subst (Below s.m) step.0 o.invariant.4)).0,
    )

-- the pair is found
pub returns-then-sum-ne0 : goal.returns-then-sum-ne0
returns-then-sum-ne0 c =
    let a = c.args in
    let s = a.self.now in
    let o = c.steps in
    let l = c.loop-place in
    let steps = c.in-Some.ensures.steps in
    let step = steps.0.1 in
    let lines = c.in-Some-2.ensures.steps in
    let cut = lines.0 in
    rw (steps.1, lines.1)
    (change_stop s.m s.n s.lines.now a.steps.now _ _ o.invariant.3 _ _ s.posed.has_unknowns step.0 (step.1 ∙ o.invariant.0) _
    (changed_stop s.m s.n s.lines.now c.in-Some.step.now _ _ _ _ cut.1.0 (cut.1.1 ∙ l.invariant.0) _ c.sum.ensures l.invariant.3 c.if-sum-ne0.true))

pub loop-place-preserved : goal.loop-place-preserved
loop-place-preserved c =
    let a = c.args in
    let s = a.self.now in
    let l = c.loop-place in
    let lines = c.in-Some-2.ensures.steps in
    let cut = lines.0 in
    let below = below_parts s.m c.in-Some-2.line.now _ (subst (Below s.m) cut.1.0 l.invariant.4) in
    let left = chunks_exact_rest (enumerate_source c.next-in-loop-place.new.self) in (
      cut.0 ∙ l.invariant.0,
      omega (arith, lines.2, ap length cut.1.0, length-append c.in-Some-2.line.now left, cut.1.1, l.invariant.0, l.invariant.1),
      l.invariant.2,
      rw (lines.2) (changed_on s.m s.n s.lines.now c.in-Some.step.now _ _ _ _ cut.1.0 (cut.1.1 ∙ l.invariant.0) _ c.sum.ensures l.invariant.3 c.if-sum-ne0.false),
      below.1,
    )

-- the step changes no left side
pub steps-preserved : goal.steps-preserved
steps-preserved c =
    let a = c.args in
    let s = a.self.now in
    let o = c.steps in
    let l = c.loop-place in
    let steps = c.in-Some.ensures.steps in
    let step = steps.0.1 in
    let none = changed_none s.m s.n s.lines.now c.in-Some.step.now _ _ l.invariant.3 (omega (arith, c.in-None-2.ensures.steps.0.1.0, l.invariant.0)) in (
      steps.0.0 ∙ o.invariant.0,
      search rules,
      l.invariant.2,
      rw (steps.2) (change_on s.m s.n s.lines.now a.steps.now _ _ o.invariant.3 _ _ s.posed.has_unknowns step.0 (step.1 ∙ o.invariant.0) none),
      (below_parts s.m c.in-Some.step.now _ (subst (Below s.m) step.0 o.invariant.4)).1,
    )

-- no step is left
pub returns-in-None : goal.returns-in-None
returns-in-None c =
    let a = c.args in
    let s = a.self.now in
    let o = c.steps in
    o.invariant.2 ∙ change_none s.m s.n s.lines.now a.steps.now _ _ o.invariant.3 (omega (arith, c.in-None.ensures.steps.0.1.0, o.invariant.0))
