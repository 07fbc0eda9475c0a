-- `insertion::insert` meets its contract. The invariant: what the rest of the walk makes of the rows that are left makes the
-- whole.
use mathlib.Core.Path.{refl}
use Prim.Native.Nat.{◌+◌, ◌-◌}
use native.Mathlib.Omega.{arith}
use lib.ListN.{length}
use Rattle.tableau.proofs.Walked.{walked_fits, walked_asks, walked_next, walked_stop}
use Rattle.tableau.proofs.insertion.insert.Goals as goal

pub slice_bounds-insert_at-end : goal.slice_bounds-insert_at-end
slice_bounds-insert_at-end c =
    let a = c.args in
    let l = c.loop-j in
    walked_fits a.modulus.m a.w (length a.line.now) a.basis.now a.line.now l.basis l.line l.at l.j
    (a.w - l.j) (length a.line.now - l.j) l.invariant (omega arith)

pub insert_at-requires : goal.insert_at-requires
insert_at-requires c =
    let a = c.args in
    let l = c.loop-j in
    let w = walked_asks a.modulus.m a.w (length a.line.now) a.basis.now a.line.now l.basis l.line l.at l.j
    (l.at + (length a.line.now - l.j)) l.invariant (omega arith) refl in
    (w.0, w.1, w.2, w.3)

pub returns-then-insert_at : goal.returns-then-insert_at
returns-then-insert_at c =
    let a = c.args in
    let l = c.loop-j in
    let o = c.insert_at in
    let both = walked_stop a.modulus.m a.w (length a.line.now) a.basis.now a.line.now l.basis l.line l.at l.j
    (l.at + (length a.line.now - l.j)) l.invariant (omega arith) refl
    o.new.row o.auto.row (o.ensures.used_up c.if-insert_at.true) in record { basis_after = both.0; kept_2 = both.1 }

pub loop-j-preserved : goal.loop-j-preserved
loop-j-preserved c =
    let a = c.args in
    let l = c.loop-j in
    let o = c.insert_at in
    walked_next a.modulus.m a.w (length a.line.now) a.basis.now a.line.now l.basis l.line l.at l.j
    (l.at + (length a.line.now - l.j)) l.invariant (omega arith) refl
    o.new.row o.new.line o.auto.row o.auto.line (o.ensures.inserted c.if-insert_at.false)
