-- `substitution::extend` meets its contract. The invariant: the entries from i on are those of the substitution, and the rows in
-- front of `at` are still to be looked at.
use native.Mathlib.Omega.{arith}
use Rattle.tableau.proofs.Extension.{extended_next}
use Rattle.tableau.proofs.Extension.{extended_ends, extended_asks}
use Rattle.tableau.proofs.substitution.extend.Goals as goal

pub offset_bounds-basis-at : goal.offset_bounds-basis-at
offset_bounds-basis-at c =
    let a = c.args in
    let l = c.loop-i in
    let e = extended_ends a.m a.j a.k a.basis.now a.x.now l.x l.at l.i l.invariant (omega arith)
    c.requires.j_in_bounds.0 c.requires.j_in_bounds.2 in
    omega (arith, e)

pub slice_bounds-entry-end : goal.slice_bounds-entry-end
slice_bounds-entry-end c =
    let a = c.args in
    let l = c.loop-i in
    extended_ends a.m a.j a.k a.basis.now a.x.now l.x l.at l.i l.invariant (omega arith) c.requires.j_in_bounds.0
    c.requires.j_in_bounds.2

pub entry-v-requires : goal.entry-v-requires
entry-v-requires c =
    let a = c.args in
    let l = c.loop-i in
    extended_asks a.m a.j a.k a.basis.now a.x.now l.x l.at l.i l.invariant (omega arith) c.requires.j_in_bounds.0
    c.requires.j_in_bounds.2 c.requires.j_in_bounds.1 c.requires.kept.0

pub loop-i-preserved : goal.loop-i-preserved
loop-i-preserved c =
    let a = c.args in
    let l = c.loop-i in
    extended_next a.m a.j a.k a.basis.now a.x.now l.x l.at l.i l.invariant (omega arith) c.requires.j_in_bounds.0
    c.requires.j_in_bounds.2 c.entry-v.result c.entry-v.ensures.0 c.entry-v.ensures.1
