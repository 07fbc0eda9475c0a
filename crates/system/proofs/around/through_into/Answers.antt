-- `around::through_into` meets its contract. The invariant: what was made of the vectors that are off stands in front, and the rest has the
-- others.
use mathlib.Core.Path.{subst, ◌∙◌}
use native.Mathlib.Omega.{arith}
use borrow.Author.Rules.{rules}
use Rattle.slices.proofs.Poured.{poured_all}
use Rattle.equations.specs.Vectors.{Below}
use Rattle.equations.proofs.Vectors.{vector_of, below_parts}
use Rattle.system.proofs.Through.{rows_through, through-none, through_lent, through_more}
use Rattle.system.proofs.around.through_into.Goals as goal

pub line_into-requires : goal.line_into-requires
line_into-requires c =
    let a = c.args in
    let l = c.loop-i in
    let steps = c.in-Some.ensures.steps in
    let cut = steps.0.1 in
    let g = c.in-Some.g.now in
    let long = cut.1 ∙ l.invariant.0 in (
      c.requires.0,
      c.requires.2,
      c.requires.3,
      vector_of a.m a.n g long (below_parts a.m g _ (subst (Below a.m) cut.0 l.invariant.2)).0,
      through_lent a.m a.n a.start.now _ g _ c.requires.1 cut.0 long a.vectors.now a.lines.now l.lines _ _ steps.1 l.invariant.3 c.requires.5,
    )

pub loop-i-preserved : goal.loop-i-preserved
loop-i-preserved c =
    let a = c.args in
    let l = c.loop-i in
    let steps = c.in-Some.ensures.steps in
    let cut = steps.0.1 in
    let g = c.in-Some.g.now in
    let long = cut.1 ∙ l.invariant.0 in (
      steps.0.0 ∙ l.invariant.0,
      search rules,
      (below_parts a.m g _ (subst (Below a.m) cut.0 l.invariant.2)).1,
      through_more a.m a.n a.start.now _ g _ c.requires.1 cut.0 long a.vectors.now a.lines.now l.lines _ _ steps.1 l.invariant.3 c.requires.5
          _ steps.2 c.line_into.ensures,
    )

pub returns : goal.returns
returns c =
    let a = c.args in
    let l = c.loop-i in
    (poured_all (rows_through a.m a.n a.start.now) a.vectors.now a.lines.now _ _ l.lines l.invariant.3 c.requires.5
    (through-none a.m a.n a.start.now _ (omega (arith, c.in-None.ensures.steps.0.1.0, l.invariant.0)))).1
