-- `wanting::lines_for` meets its contract.
use native.Mathlib.Omega.{arith}
use Rattle.slices.proofs.Parts.{lent_length}
use Rattle.tableau.proofs.Lines.{below_lent}
use Rattle.system.proofs.Claims.{claim_start}
use Rattle.system.proofs.Through.{for_none, for_some}
use Rattle.system.proofs.wanting.lines_for.Goals as goal

pub returns-then-claim-eq0 : goal.returns-then-claim-eq0
returns-then-claim-eq0 c =
    let a = c.args in
    let both = for_none a.m a.n a.claim.now a.lines.now c.if-claim-eq0.true c.contradiction_into.ensures in record { value = both.0; lines_after = both.1 }

pub lines_around-requires : goal.lines_around-requires
lines_around-requires c =
    let a = c.args in
    let claim = a.claim.now in (
      c.requires.0,
      c.requires.1,
      c.requires.2,
      claim_start a.m a.n claim c.requires.3 c.if-claim-eq0.false,
      below_lent a.m a.n claim c.requires.3.residues,
      omega (arith, lent_length a.n claim, c.requires.3.vectors),
      c.requires.4,
    )

pub returns : goal.returns
returns c =
    let a = c.args in
    let made = c.lines_around in
    let both = for_some a.m a.n a.claim.now a.lines.now c.if-claim-eq0.false made.result
    made.ensures.value made.ensures.lines_after in record { value = both.0; lines_after = both.1 }
