-- `checking::claim_solves` meets its contract: the empty claim describes nothing, any other one has a start and steps.
use native.Mathlib.Omega.{arith}
use lib.Seq.{length-take-le}
use Rattle.slices.proofs.Parts.{lent_length}
use Rattle.equations.specs.Lines.{equations_of}
use Rattle.equations.proofs.Vectors.{below-take}
use Rattle.tableau.proofs.Lines.{below_lent}
use Rattle.system.proofs.Marks.{claim_front, solves-none, start_fails, start_solves}
use Rattle.system.proofs.asked.System.claim_solves.Goals as goal

pub returns-then-claim-eq0 : goal.returns-then-claim-eq0
returns-then-claim-eq0 c =
    let a = c.args in
    let s = a.self.now in
    solves-none s.m s.n a.claim.now (equations_of s.n s.lines.now) c.if-claim-eq0.true

pub first_broken-requires : goal.first_broken-requires
first_broken-requires c =
    let a = c.args in
    let s = a.self.now in (
      length-take-le s.n a.claim.now (claim_front s.m s.n a.claim.now c.requires c.if-claim-eq0.false),
      below-take s.m s.n a.claim.now c.requires.residues,
    )

pub returns-then-is_some : goal.returns-then-is_some
returns-then-is_some c =
    let a = c.args in
    let s = a.self.now in
    start_fails s.m s.n a.claim.now (equations_of s.n s.lines.now) c.if-claim-eq0.false
    c.first_broken.result c.first_broken.ensures _ c.is_some.ensures c.if-is_some.true

pub first_change-requires : goal.first_change-requires
first_change-requires c =
    let a = c.args in
    let s = a.self.now in (
      below_lent s.m s.n a.claim.now c.requires.residues,
      omega (arith, lent_length s.n a.claim.now, c.requires.vectors),
    )

pub returns : goal.returns
returns c =
    let a = c.args in
    let s = a.self.now in
    start_solves s.m s.n a.claim.now (equations_of s.n s.lines.now) c.if-claim-eq0.false
    c.first_broken.result c.first_broken.ensures _ c.is_some.ensures c.if-is_some.false _ c.first_change.result c.first_change.ensures _
    c.is_none.ensures
