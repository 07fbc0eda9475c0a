-- `Basis::long_at` meets its contract: a claim of no solution has no steps, and any other one has them behind its start.
use mathlib.Core.Path.{sym, ap, subst, ◌∙◌}
use native.Mathlib.Omega.{arith}
use lib.ListN.{take}
use Rattle.slices.proofs.Parts.{lent_length}
use Rattle.equations.specs.Claim.{Claim}
use Rattle.equations.specs.Marks.{superfluous_in}
use Rattle.tableau.proofs.Lines.{below_lent}
use Rattle.system.specs.Places.{placed}
use Rattle.system.specs.Model.Marking.{RightFor}
use Rattle.system.proofs.Marks.{claim_of_none, claim_of_some}
use Rattle.system.proofs.basis.Basis.long_at.Goals as goal

pub returns-then-claim-eq0 : goal.returns-then-claim-eq0
returns-then-claim-eq0 c =
    let a = c.args in
    let b = a.self.now in
    λ es right. sym (ap (λ (x : Claim). placed (superfluous_in b.m b.n x)) (claim_of_none b.n a.claim.now c.if-claim-eq0.true))

pub needless-requires : goal.needless-requires
needless-requires c =
    let a = c.args in
    let b = a.self.now in
    (c.requires.0, below_lent b.m b.n a.claim.now c.requires.1.residues, omega (arith, lent_length b.n a.claim.now, c.requires.1.vectors))

pub returns : goal.returns
returns c =
    let a = c.args in
    let b = a.self.now in
    let claim = a.claim.now in
    let is = claim_of_some b.n claim c.if-claim-eq0.false in
    λ es right. c.needless.ensures es (take b.n claim) (subst (RightFor b.m b.n es b.numbers.now) (sym is) right)
    ∙ ap (λ (x : Claim). placed (superfluous_in b.m b.n x)) is
