-- `signed` meets its contract: one case for each sign.
use mathlib.Core.Path.{sym}
use Rattle.residue.proofs.Negative.{negative-mod}
use Rattle.residue.proofs.modular.signed.Goals as goal

pub returns-then-minus : goal.returns-then-minus
returns-then-minus c =
    let p = c.args in
    let same = negative-mod p.m p.size c.remainder-residue.ensures.0 in
    rw (c.if-minus.true, sym same) c.opposite.ensures
