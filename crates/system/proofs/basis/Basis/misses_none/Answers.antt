-- `Basis::misses_none` meets its contract: the empty claim is decided by the constant's pivot, any other one by its steps.
use mathlib.Core.Path.{ap}
use mathlib.Core.Bool.{not}
use Prim.Native.Nat.{ℕ, ◌+◌}
use lib.Dec.{eqb}
use Rattle.tableau.specs.Packed.{rows}
use Rattle.tableau.proofs.Lines.{below_lent}
use Rattle.system.proofs.Pivots.{agree_of_apart}
use Rattle.system.proofs.Marks.{misses_none_lem, misses_some}
use Rattle.system.proofs.basis.Basis.misses_none.Goals as goal

pub returns-then-claim-eq0 : goal.returns-then-claim-eq0
returns-then-claim-eq0 c =
    let a = c.args in
    let b = a.self.now in
    misses_none_lem b.m b.n a.claim.now (rows (b.n + 1) (b.n + 1) b.numbers.now) _ c.if-claim-eq0.true
    (ap (λ (d : ℕ). not (eqb d b.m)) c.pivot.ensures.1)

pub missing-requires : goal.missing-requires
missing-requires c =
    (c.requires.0, below_lent c.args.self.now.m c.args.self.now.n c.args.claim.now c.requires.1.residues)

pub returns : goal.returns
returns c =
    let a = c.args in
    let b = a.self.now in
    let B = rows (b.n + 1) (b.n + 1) b.numbers.now in
    misses_some b.m b.n a.claim.now B _ c.if-claim-eq0.false (agree_of_apart b.m b.n B _ _ _ c.missing.ensures c.is_none.ensures)
