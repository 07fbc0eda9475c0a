-- `checking::first_broken` meets its contract. The invariant: the rest of the lines, which are residues, finds the line that all of
-- them find.
use mathlib.Core.Path.{subst, ◌∙◌}
use native.Mathlib.Omega.{arith}
use lib.Seq.{length-take-le}
use borrow.Author.Rules.{rules}
use Rattle.equations.specs.Vectors.{Below}
use Rattle.equations.proofs.Vectors.{below-take, below_parts}
use Rattle.system.proofs.Broken.{broken_on, broken_stop, broken_none}
use Rattle.system.proofs.asked.System.first_broken.Goals as goal

pub sum-requires : goal.sum-requires
sum-requires c =
    let a = c.args in
    let s = a.self.now in
    let l = c.loop-index in
    let cut = c.in-Some.ensures.steps.0 in
    let line = c.in-Some.line.now in
    let long = length-take-le s.n line (omega (arith, cut.1.1, l.invariant.0)) in (
      omega arith,
      omega (arith, long),
      omega (arith, long),
      below-take s.m s.n line (below_parts s.m line _ (subst (Below s.m) cut.1.0 l.invariant.3)).0,
      c.requires.1,
    )

-- a line is not solved
pub returns-then-sum-line : goal.returns-then-sum-line
returns-then-sum-line c =
    let a = c.args in
    let s = a.self.now in
    let l = c.loop-index in
    let steps = c.in-Some.ensures.steps in
    let cut = steps.0 in
    let below = (below_parts s.m c.in-Some.line.now _ (subst (Below s.m) cut.1.0 l.invariant.3)).0 in
    rw (steps.1) (broken_stop s.m s.n s.lines.now a.v.now _ _ _ _ cut.1.0 (cut.1.1 ∙ l.invariant.0) _ c.sum.ensures below l.invariant.2 c.if-sum-line.true)

pub loop-index-preserved : goal.loop-index-preserved
loop-index-preserved c =
    let a = c.args in
    let s = a.self.now in
    let l = c.loop-index in
    let steps = c.in-Some.ensures.steps in
    let cut = steps.0 in
    let below = below_parts s.m c.in-Some.line.now _ (subst (Below s.m) cut.1.0 l.invariant.3) in (
      cut.0 ∙ l.invariant.0,
      search rules,
      rw (steps.2) (broken_on s.m s.n s.lines.now a.v.now _ _ _ _ cut.1.0 (cut.1.1 ∙ l.invariant.0) _ c.sum.ensures below.0 l.invariant.2 c.if-sum-line.false),
      below.1,
    )

-- no line is left
pub returns : goal.returns
returns c =
    let a = c.args in
    let s = a.self.now in
    let l = c.loop-index in
    broken_none s.m s.n s.lines.now a.v.now _ _ l.invariant.2 (omega (arith, c.in-None.ensures.steps.0.1.0, l.invariant.0))
